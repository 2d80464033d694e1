-- The parent of a line is the longest class above its path.
use Rattle.std.proofs.Common.{◌≡◌, ℕ, suc, List, [], ◌∷◌, ◌++◌, Bool, true, false, ◌&&◌, ◌||◌, refl, sym, ◌∙◌, ap, append-nil, true≢false, ◌⊎◌, inl, inr}
use Rattle.std.proofs.{Common.{decimal, Option, Some, None, is_some, bytes_eq, arith}, lemmas.Bool.{and_parts, and_right, cond-false, cond_both, or_left}}
use Rattle.{std.{proofs.lemmas.{Bool.or_right, List.Folds.list_any-append}, specs.List.AllByRecursion}, json_pointer.specs.Text.{Bytes, Tokens, same_path}}
use Rattle.{json_pointer.specs.Text.{is_root, is_prefix, is_under}, iodef_tree.proofs.{Apart.sound-apart, Blocks.{blocks, all-below}, ByPath.has_class-walk}}
use Rattle.iodef_tree.proofs.{Located.located-lines, Onward.has_class-below, Order.{bytes_eq-true, same_path-refl, is_under-steps}, Siblings.all-append}
use Rattle.iodef_tree.{proofs.Siblings.siblings-map, specs.{Laws.{AllSiblings, AreApart, HasApart, IsNearestClass}, Paths.{LocatedLine, is_class, located}}}
use Rattle.iodef_tree.specs.{Paths.{has_class, below}, Sound.IsSound, Tree.{Forest, end, leaf, branch, steps, lines}, Walk.{walk, AreBlocks, leaf_entry}}
use Rattle.iodef_tree.specs.inner.Lookup.{past, class_at}

-- ---- the paths above a line's path

-- a proper prefix of a line's path is a prefix of its parent's, or the path of the array that holds the line
above-steps : (r p : Tokens) (n : Bytes) (o : Option ℕ) → is_under r (p ++ steps n o) ≡ true → (is_prefix r p ≡ true) ⊎ ((is_some o ≡ true) × (r ≡ p ++ n ∷ []))
above-steps [] p n o h = inl refl
above-steps (x ∷ []) [] n None h = absurd (true≢false (sym h ∙ and_right (bytes_eq x n) false refl))
above-steps (x ∷ y ∷ r) [] n None h = absurd (true≢false (sym h ∙ and_right (bytes_eq x n) false refl))
above-steps (x ∷ []) [] n (Some k) h = inr (refl, ap (λ z. z ∷ []) (bytes_eq-true x n (and_parts (bytes_eq x n) true h).0))
above-steps (x ∷ y ∷ []) [] n (Some k) h = absurd (true≢false (sym h ∙ and_right (bytes_eq x n) _ (and_right (bytes_eq y (decimal k)) false refl)))
above-steps (x ∷ y ∷ z ∷ r) [] n (Some k) h = absurd (true≢false (sym h ∙ and_right (bytes_eq x n) _ (and_right (bytes_eq y (decimal k)) false refl)))
above-steps (x ∷ r) (y ∷ p) n o h =
    let parts = and_parts (bytes_eq x y) (is_under r (p ++ steps n o)) h in
    elim (above-steps r p n o parts.1) [
      | inl k ↦ inl (ap (λ b. b && is_prefix r p) parts.0 ∙ k)
      | inr k ↦ let same : x ≡ y = bytes_eq-true x y parts.0 in let rest : r ≡ p ++ n ∷ [] = k.1 in inr (k.0, cc)
    ]

-- ---- an array's own path is no class

abbrev Differs : Bytes → Option ℕ → Bytes → Option ℕ → Type 0
Differs n o n' o' = is_some o ≡ true → o' ≡ None → bytes_eq n' n ≡ false

and-true : (b c : Bool) → (b && c) ≡ false → c ≡ true → b ≡ false
and-true b c h k = grind arith

differs-left : (n : Bytes) (o : Option ℕ) (n' : Bytes) (o' : Option ℕ) → AreApart n o n' o' → Differs n o n' o'
differs-left n None n' o' a h e = absurd (true≢false (sym h))
differs-left n (Some k) n' None a h e = and-true (bytes_eq n' n) true (a.right []) refl
differs-left n (Some k) n' (Some j) a h e = absurd (cc)

differs-right : (n : Bytes) (o : Option ℕ) (n' : Bytes) (o' : Option ℕ) → AreApart n o n' o' → Differs n' o' n o
differs-right n o n' None a h e = absurd (true≢false (sym h))
differs-right n None n' (Some k) a h e = and-true (bytes_eq n n') true (a.left []) refl
differs-right n (Some j) n' (Some k) a h e = absurd (cc)

siblings-both : (P Q R : Bytes → Option ℕ → Type 0) (f : Forest) → ((n : Bytes) (o : Option ℕ) → P n o → Q n o → R n o) → AllSiblings P f → AllSiblings Q f → AllSiblings R f
siblings-both P Q R end h a b = tt
siblings-both P Q R (leaf i rest) h a b = (h i.name i.place a.0 b.0, siblings-both P Q R rest h a.1 b.1)
siblings-both P Q R (branch n o kids rest) h a b = (h n o a.0 b.0, siblings-both P Q R rest h a.1 b.1)

-- no array has the name of another sibling
all-differ : (f : Forest) → HasApart f → AllSiblings (λ n o. AllSiblings (Differs n o) f) f
all-differ end apart = tt
all-differ (leaf i rest) apart = grind (arith, differs-left, differs-right, siblings-both, siblings-map, (all-differ rest apart.1))
all-differ (branch m p kids rest) apart = grind (arith, differs-left, differs-right, siblings-both, siblings-map, (all-differ rest apart.2))

past-bare : (n' : Bytes) (o' : Option ℕ) (n : Bytes) → (o' ≡ None → bytes_eq n' n ≡ false) → past (steps n' o') (n ∷ []) ≡ None
past-bare n' o' n h = grind (arith, cond-false, cond_both)

none-bare : (f : Forest) (n : Bytes) (o : Option ℕ) → is_some o ≡ true → AllSiblings (Differs n o) f → class_at f (n ∷ []) ≡ None
none-bare end n o some h = refl
none-bare (leaf i rest) n o some h = grind (arith, past-bare, (none-bare rest n o some h.1))
none-bare (branch m p kids rest) n o some h = grind (arith, past-bare, (none-bare rest n o some h.1))

-- ---- down the tree

abbrev IsBare : List LocatedLine → Tokens → Bytes → Option ℕ → Type 0
IsBare es p n o = is_some o ≡ true → has_class es (p ++ n ∷ []) ≡ false

bare-siblings : (es : List LocatedLine) (d : ℕ) (p : Tokens) (f : Forest) → HasApart f → below p es ≡ walk d p f → AllSiblings (IsBare es p) f
bare-siblings es d p f apart block = grind (arith, all-differ, has_class-below, has_class-walk, none-bare, siblings-map)

nearest-entry : (es : List LocatedLine) (p : Tokens) (n : Bytes) (o : Option ℕ) → (is_root p || has_class es p) ≡ true → IsBare es p n o → IsNearestClass es (p ++ steps n o) p
nearest-entry es p n o stands bare = record {
  stands = stands;
  proper = ap (λ z. is_under p (p ++ z)) (sym (append-nil (steps n o))) ∙ is_under-steps p n o [];
  longest = λ r is under. elim (above-steps r p n o under) [
    | inl h ↦ h
    | inr h ↦ absurd (true≢false (sym is ∙ ap (has_class es) h.1 ∙ bare h.0))
  ];
}

abbrev Nearest : List LocatedLine → List LocatedLine → Type 0
Nearest es xs = AllByRecursion (λ e. IsNearestClass es e.path e.parent) xs

nearest-walk : (es : List LocatedLine) (f : Forest) (d : ℕ) (p : Tokens) → AreBlocks es d p f → HasApart f → (is_root p || has_class es p) ≡ true → AllSiblings (IsBare es p) f →
    ((r : Tokens) → has_class (walk d p f) r ≡ true → has_class es r ≡ true) → Nearest es (walk d p f)
nearest-walk es end d p blocks apart stands bare among = tt
nearest-walk es (leaf i rest) d p blocks apart stands bare among = (
  nearest-entry es p i.name i.place stands bare.0,
  nearest-walk es rest d p blocks apart.1 stands bare.1 (λ r h. among r (or_right (is_class (leaf_entry d p i) && same_path (p ++ steps i.name i.place) r) _ h)),
)
nearest-walk es (branch n o kids rest) d p blocks apart stands bare among =
    let q = p ++ steps n o in
    let K = walk (suc d) q kids in
    let R = walk d p rest in
    let here : has_class es q ≡ true = among q (or_left (same_path q q) (has_class (K ++ R) q) (same_path-refl q)) in
    let parts = λ (r : Tokens). list_any-append (λ (e : LocatedLine). is_class e && same_path e.path r) K R in (
      nearest-entry es p n o stands bare.0,
      all-append (λ e. IsNearestClass es e.path e.parent) K R
          (nearest-walk es kids (suc d) q blocks.1 apart.1 (or_right (is_root q) (has_class es q) here) (bare-siblings es (suc d) q kids apart.1 blocks.0)
          (λ r h. among r (or_right (same_path q r) _ (parts r ∙ or_left (has_class K r) (has_class R r) h))))
          (nearest-walk es rest d p blocks.2 apart.2 stands bare.1 (λ r h. among r (or_right (same_path q r) _ (parts r ∙ or_right (has_class K r) (has_class R r) h)))),
    )

pub nearest-located : (f : Forest) → IsSound f → Nearest (located (lines 1 f)) (located (lines 1 f))
nearest-located f sound = grind (arith, all-below, bare-siblings, blocks, located-lines, nearest-walk, sound-apart)
