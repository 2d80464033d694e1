-- The pass over members side by side: what is kept, listed and counted of each, and then of the others.
use Rattle.std.proofs.Common.{◌≡◌, ℕ, suc, ◌+◌, Bool, true, false, List, [], ◌∷◌, ◌++◌, refl, sym, ◌∙◌, ap, map, append_assoc, add_assoc, zero-add}
use Rattle.std.{proofs.Common.{if◌then◌else◌, decimal, Option, Some, None, is_some, option_map}, specs.List.cons_option}
use Rattle.iodef_tree.{proofs.Views.forest-members, specs.{Text.{Bytes, Tokens}, Tree.{Leaf, Forest, leaf, branch, Body, holds, says, Bodies, one, many}}}
use Rattle.iodef_tree.specs.{Tree.{in_front, elements, steps}, View.{forest, named, members_forest, forest_of_members}, declared.Text.Text}
use Rattle.{iodef_tree.specs.declared.object.{Member.Member, Object.Object}, marking.specs.{Label.LabelValue, Members.spelled_in}}
use Rattle.policy.specs.{Inherited.{Inherited, enter_array, enter_class, is_seen, hides}, declared.{case.Case.Case, rule.Rule.Rule, standing.Standing.Standing}}
use Rattle.redact.{proofs.Fates.new_place-before, specs.{Withheld.Withheld, inner.Judged.{Surrounding, inside, keeps_plain, left_before, new_place, left_with}}}
use Rattle.redact.specs.inner.{Judged.{moved, is_end, with_label, cut, visible_classes, withheld_below}, Left.{left_at, told_at, count_at, left_items}}
use Rattle.redact.specs.inner.{Left.{told_items, count_items, many_or_none, left_members, told_members, count_members}, Pass.{enter, judgment_by, pass}}

-- what is kept of some members, what is listed of them, and how many classes they count
pub record Outcome : Type 0 where
  pub left : Forest
  pub pairs : List Withheld
  pub classes : ℕ

-- what is kept at one place, in front of what is kept behind it
abbrev or_front : Option Body → Bytes → Option ℕ → Forest → Forest
or_front None name place behind = behind
or_front (Some b) name place behind = in_front name place b behind

-- the outcome of one in front of others
abbrev joined : Option Body → Bytes → Option ℕ → List Withheld → ℕ → Outcome → Outcome
joined o name place ts m behind = record { left = or_front o name place behind.left; pairs = ts ++ behind.pairs; classes = m + behind.classes }

module _ (c : Case) (s : Standing) (h : Surrounding) (a : Inherited) (q : Tokens) where
  -- the outcome of the pass over members
  abbrev pub made : ℕ → Forest → Outcome
  made n f = record { left = cut h n (pass c s a f); pairs = withheld_below h q n (pass c s a f); classes = visible_classes (pass c s a f) }

  -- how many are kept once the sibling is passed
  abbrev passed : ℕ → Option ℕ → Option Body → ℕ
  passed n place o = if is_some o then left_with n place else left_before n place

  -- a sibling into which the token t leads from the class or array at d
  front : (d : Inherited) (t name : Bytes) (place : Option ℕ) → ((w : Option LabelValue) → enter c s a name place w ≡ enter_class c s d t w) → (n : ℕ) (b : Body) (rest : Forest) →
      let o = left_at c s h d t b in
      made n (in_front name place b rest)
      ≡ joined o name (new_place n place) (told_at c s d q (q ++ steps name (new_place n place)) t b) (count_at c s d t b) (made (passed n place o) rest)
  front d t name place enters n (says content) rest =
      let i : Leaf = record { name = name; place = place; content = content } in
      let L = made (left_with n place) rest in
      let G = made (left_before n place) rest in
      elim (keeps_plain h) as (λ k. ◌≡◌ {A = Outcome}
      (record { left = if k then leaf (moved n i) L.left else G.left; pairs = withheld_below h q (if k then left_with n place else left_before n place) (pass c s a rest); classes = L.classes })
      (joined (if k then Some (says content) else None) name (new_place n place) [] 0 (made (passed n place (if k then Some (says content) else None)) rest))) [ true ↦ rw zero-add | false ↦ rw zero-add ]
  front d t name place enters n (holds kids) rest =
      let k = enter_class c s d t (spelled_in kids) in
      let r = q ++ steps name (new_place n place) in
      rw (enters (spelled_in kids)) (by_tests (is_seen s k) (is_end (cut (inside false) 0 (pass c s k kids)))
      (with_label h (judgment_by c s k (spelled_in kids)) (cut (inside true) 0 (pass c s k kids))) (cut (inside false) 0 (pass c s k kids))
      (hides s k) (withheld_below (inside true) r 0 (pass c s k kids)) (withheld_below (inside false) r 0 (pass c s k kids)) (visible_classes (pass c s k kids)))
    where
      by_tests : (b e : Bool) (S F : Forest) (rule : Rule) (TS TF : List Withheld) (m : ℕ) →
          let L = made (left_with n place) rest in
          let G = made (left_before n place) rest in
          let o = option_map holds (if b then Some S else (if e then None else Some F)) in
          ◌≡◌ {A = Outcome}
          (record {
            left = if b then branch name (new_place n place) S L.left else (if e then G.left else branch name (new_place n place) F L.left);
            pairs = if b then TS ++ L.pairs else (if e then (q, rule) ∷ G.pairs else (q ++ steps name (new_place n place), rule) ∷ (TF ++ L.pairs));
            classes = (if b then 1 else 0) + (m + L.classes);
          })
          (joined o name (new_place n place) (if b then TS else (if e then (q, rule) ∷ [] else (q ++ steps name (new_place n place), rule) ∷ TF)) ((if b then 1 else 0) + m) (made (passed n place o) rest))
      by_tests true e S F rule TS TF m = rw add_assoc
      by_tests false true S F rule TS TF m = rw add_assoc
      by_tests false false S F rule TS TF m = rw add_assoc

  -- elements of an array from place k on, of which l are kept before, and what comes behind the array
  abbrev of_items : Bytes → ℕ → ℕ → List Body → Outcome → Outcome
  of_items name k l bs R =
      let d = enter_array c s a name in
      record { left = elements name l (left_items c s h d k bs) R.left; pairs = told_items c s h d q (q ++ name ∷ []) k l bs ++ R.pairs; classes = count_items c s d k bs + R.classes }

  items : (name : Bytes) (k n : ℕ) (bs : List Body) (rest : Forest) (R : Outcome) → ((m : ℕ) → made m rest ≡ R) →
      made n (elements name k bs rest) ≡ of_items name k (left_before n (Some k)) bs R
  items name k n [] rest R behind = rw zero-add (behind n)
  items name k n (b ∷ bs) rest R behind =
      let d = enter_array c s a name in
      let l = left_before n (Some k) in
      let o = left_at c s h d (decimal k) b in
      let T = told_at c s d q ((q ++ name ∷ []) ++ decimal l ∷ []) (decimal k) b in
      let N = count_at c s d (decimal k) b in
      front d (decimal k) name (Some k) (λ w. refl) n b (elements name (suc k) bs rest)
      ∙ rw (new_place-before n k, ← append_assoc q (name ∷ []) (decimal l ∷ []))
      (ap (joined o name (Some l) T N) (items name (suc k) (if is_some o then suc l else l) bs rest R behind) ∙ by_left l T N o)
    where
      by_left : (l : ℕ) (T : List Withheld) (N : ℕ) (o : Option Body) →
          let d = enter_array c s a name in
          let n' = if is_some o then suc l else l in
          joined o name (Some l) T N (of_items name (suc k) n' bs R) ≡ (record {
            left = elements name l (cons_option o (left_items c s h d (suc k) bs)) R.left;
            pairs = (T ++ told_items c s h d q (q ++ name ∷ []) (suc k) n' bs) ++ R.pairs;
            classes = (N + count_items c s d (suc k) bs) + R.classes;
          })
      by_left l T N None = rw (append_assoc, add_assoc)
      by_left l T N (Some x) = rw (append_assoc, add_assoc)

  front-one : (name : Bytes) (o : Option Body) (ms : List (Bytes × Bodies)) →
      or_front o name None (forest_of_members ms) ≡ forest_of_members (cons_option (option_map (λ b. (name, b)) (option_map one o)) ms)
  front-one name None ms = refl
  front-one name (Some x) ms = refl

  front-many : (name : Bytes) (xs : List Body) (ms : List (Bytes × Bodies)) →
      elements name 0 xs (forest_of_members ms) ≡ forest_of_members (cons_option (option_map (λ b. (name, b)) (many_or_none c s xs)) ms)
  front-many name [] ms = refl
  front-many name (x ∷ xs) ms = refl

  -- the outcome of members with these bodies
  abbrev pub of_members : List (Bytes × Bodies) → Outcome
  of_members ms = record { left = forest_of_members (left_members c s h a ms); pairs = told_members c s h a q ms; classes = count_members c s a ms }

  -- the same, however many elements of an array are kept before them
  members : (ms : List (Bytes × Bodies)) (n : ℕ) → made n (forest_of_members ms) ≡ of_members ms
  members [] n = refl
  members ((name, one b) ∷ ms) n =
      let o = left_at c s h a name b in
      front a name name None (λ w. refl) n b (forest_of_members ms)
      ∙ ap (joined o name None (told_at c s a q (q ++ name ∷ []) name b) (count_at c s a name b)) (members ms (passed n None o))
      ∙ cc (front-one name o (left_members c s h a ms))
  members ((name, many bs) ∷ ms) n =
      items name 0 n bs (forest_of_members ms) _ (members ms) ∙ cc (front-many name (left_items c s h (enter_array c s a name) 0 bs) (left_members c s h a ms))

  -- the members of an object
  pub of_object : (o : Object) (ms : List (Text × Member)) → ms ≡ o.members.items → made 0 (forest o) ≡ of_members (map named ms)
  of_object o ms is = ap (made 0) (forest-members o ∙ ap members_forest (sym is)) ∙ members (map named ms) 0
