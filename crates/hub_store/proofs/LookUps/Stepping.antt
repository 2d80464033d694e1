-- Loops over what was read, by what remains.
use Rattle.std.proofs.Common.{◌≡◌, ℕ, ◌+◌, ◌<◌, ◌≤◌, List, [], ◌∷◌, ◌++◌, map, drop, length, get_or, Bool, true, false, ◌||◌, Option, Some, None, option_map}
use Rattle.std.proofs.{Common.{append_assoc, refl, sym, ap, ◌∙◌}, lemmas.List.{at_drop_more, drop_all, append-nil, Folds.list_any-append}}
use Rattle.{std.specs.List.{list_any, filter_map, cons_option}, circle.specs.{Directory.Directory, Reads.group_of, declared.directory.Group.Group}}
use Rattle.{hub_state.specs.declared.reply.JoinedGroup.JoinedGroup, hub_store.specs.{Pairs.Pair, declared.joined_rows.Joined.Joined}}
use Rattle.hub_store.specs.inner.{PairKinds.{pairs_from, pairs_to}, ShownPairs.{joined_group, group_if_any, is_one_of, linked_with}}
use Rattle.hub_store.specs.declared.pair_kind.PairKind.TheVariants as kind

-- ---- what is found for each

cons_more : {X : Type 0} (o : Option X) (rest : List X) → cons_option o [] ++ rest ≡ cons_option o rest
cons_more None rest = refl
cons_more (Some x) rest = refl

-- one more
pub more_found : {X Y : Type 0} (f : X → Option Y) (items new : List Y) (xs : List X) (i : ℕ) (x e : X) (o : Option Y) (total : List Y)
    → i < length xs → x ≡ get_or xs i e → o ≡ f x → new ≡ items ++ cons_option o []
    → items ++ filter_map f (drop i xs) ≡ total → new ++ filter_map f (drop (i + 1) xs) ≡ total
more_found f items new xs i x e o total low is found pushed so_far =
    let rest = filter_map f (drop (i + 1) xs) in
    ap (λ l. l ++ rest) pushed
    ∙ (append_assoc items (cons_option o []) rest
    ∙ (ap (λ l. items ++ l) (cons_more o rest)
    ∙ (ap (λ p. items ++ cons_option p rest) found
    ∙ (ap (λ y. items ++ filter_map f (y ∷ drop (i + 1) xs)) is
    ∙ (sym (at_drop_more (λ l. items ++ filter_map f l) xs i e low) ∙ so_far)))))

-- all
pub all_found : {X Y : Type 0} (f : X → Option Y) (items : List Y) (xs : List X) (i : ℕ) (total : List Y)
    → length xs ≤ i → items ++ filter_map f (drop i xs) ≡ total → items ≡ total
all_found f items xs i total past so_far = sym (append-nil items) ∙ (ap (λ l. items ++ filter_map f l) (sym (drop_all i xs past)) ∙ so_far)

-- one member more
pub more_groups : (d : Directory) (items new : List JoinedGroup) (ms : List Joined) (i : ℕ) (m e : Joined) (o : Option Group) (total : List JoinedGroup) → i < length ms → m ≡ get_or ms i e → o ≡ group_of m.group d → new ≡ items ++ cons_option (option_map (joined_group m) o) []
    → items ++ filter_map (group_if_any d) (drop i ms) ≡ total → new ++ filter_map (group_if_any d) (drop (i + 1) ms) ≡ total
more_groups d items new ms i m e o total low is found pushed so_far =
    more_found (group_if_any d) items new ms i m e (option_map (joined_group m) o) total low is (ap (option_map (joined_group m)) found) pushed so_far

-- ---- tests

module _ {X : Type 0} (test : X → Bool) (xs : List X) (i : ℕ) (x e : X) (total : Bool) (low : i < length xs) (is : x ≡ get_or xs i e) (so_far : list_any test (drop i xs) ≡ total) where
  at_next : (test x || list_any test (drop (i + 1) xs)) ≡ total
  at_next = ap (λ y. list_any test (y ∷ drop (i + 1) xs)) is ∙ (sym (at_drop_more (list_any test) xs i e low) ∙ so_far)

  -- an element that fails is skipped
  pub passed_over : false ≡ test x → list_any test (drop (i + 1) xs) ≡ total
  passed_over fails = ap (λ b. b || list_any test (drop (i + 1) xs)) fails ∙ at_next

  -- one that passes decides the answer
  pub settled : true ≡ test x → true ≡ total
  settled passes = ap (λ b. b || list_any test (drop (i + 1) xs)) passes ∙ at_next

pub none_left : {X : Type 0} (test : X → Bool) (xs : List X) (i : ℕ) (total : Bool) → length xs ≤ i → list_any test (drop i xs) ≡ total → false ≡ total
none_left test xs i total past so_far = ap (list_any test) (sym (drop_all i xs past)) ∙ so_far

-- ---- connected communities

module _ (ns : List ℕ) (n : ℕ) (d : Directory) (above : List ℕ) (is : above ≡ map (λ (p : Pair). p.0.1) (pairs_from kind.Connection n d)) where
  pub found_above : true ≡ list_any (is_one_of ns) above → true ≡ list_any (is_one_of ns) (linked_with n d)
  found_above passes =
      let below = map (λ (p : Pair). p.0.0) (pairs_to kind.Connection n d) in
      ap (λ b. b || list_any (is_one_of ns) below) (passes ∙ ap (list_any (is_one_of ns)) is) ∙ sym (list_any-append (is_one_of ns) (map (λ (p : Pair). p.0.1) (pairs_from kind.Connection n d)) below)

  pub found_below : (below : List ℕ) → below ≡ map (λ (p : Pair). p.0.0) (pairs_to kind.Connection n d) → false ≡ list_any (is_one_of ns) above → list_any (is_one_of ns) below ≡ list_any (is_one_of ns) (linked_with n d)
  found_below below also fails =
      ap (λ b. b || list_any (is_one_of ns) below) (fails ∙ ap (list_any (is_one_of ns)) is)
      ∙ (ap (λ l. list_any (is_one_of ns) (map (λ (p : Pair). p.0.1) (pairs_from kind.Connection n d)) || list_any (is_one_of ns) l) also
      ∙ sym (list_any-append (is_one_of ns) (map (λ (p : Pair). p.0.1) (pairs_from kind.Connection n d)) (map (λ (p : Pair). p.0.0) (pairs_to kind.Connection n d))))
