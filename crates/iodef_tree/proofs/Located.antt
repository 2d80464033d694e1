-- The located lines of a document are those that a walk down its tree meets.
use Rattle.std.proofs.Common.{◌≡◌, ℕ, zero, suc, ◌+◌, ◌<◌, List, [], ◌∷◌, ◌++◌, Bool, true, false, not, cond, ◌==◌, take, count_by, refl, sym, ◌∙◌, ap, subst}
use Rattle.std.proofs.{Common.{append-nil, append_assoc, arith, Option, Some, None, is_some, find, bytes_eq}, lemmas.Bool.{and_parts, and_left, and_right}}
use Rattle.std.{proofs.lemmas.{Bool.{and_from, false≢true, eqb-true, eq-eqb, ne_eqb}, Grind.common_steps, List.Sums.sum_by-cons}, specs.List.before_first}
use Rattle.{std.specs.{List.prefix_len, Option.option_map_or}, json_pointer.specs.Text.{Bytes, Tokens, bytes_lt}, iodef_tree.proofs.Order.bytes_eq-true}
use Rattle.iodef_tree.{proofs.Order.{bytes_lt-trans, bytes_lt-ne}, specs.Paths.{LocatedLine, is_one_less_deep, parent_path, is_like, place_among, entry_at}}
use Rattle.iodef_tree.specs.{Paths.{placed, located_after, located}, Sound.{SiblingPlace, may_stand, may_stand_behind, may_stand_first, IsOrderedBehind}}
use Rattle.iodef_tree.specs.{Sound.IsSound, Tree.{Forest, end, leaf, branch, lines, leaf_line, class_line}, Walk.{leaf_entry, class_entry, walk}}
use Rattle.iodef_tree.specs.declared.line.Line.{Line}

-- ---- one more line before

parent-past : (x : LocatedLine) (before : List LocatedLine) (d : ℕ) → is_one_less_deep d x ≡ false → parent_path (x ∷ before) d ≡ parent_path before d
parent-past x before d h = ap (λ b. option_map_or (λ (e : LocatedLine). e.path) (cond b (Some x) (find (is_one_less_deep d) before)) []) h

parent-here : (x : LocatedLine) (before : List LocatedLine) (d : ℕ) → is_one_less_deep d x ≡ true → parent_path (x ∷ before) d ≡ x.path
parent-here x before d h = ap (λ b. option_map_or (λ (e : LocatedLine). e.path) (cond b (Some x) (find (is_one_less_deep d) before)) []) h

before_first-here : {X : Type 0} (p : X → Bool) (x : X) (xs : List X) → p x ≡ true → before_first p (x ∷ xs) ≡ []
before_first-here {X} p x xs h = ap (λ b. take (cond (not b) (1 + prefix_len (λ y. not (p y)) xs) 0) (x ∷ xs)) h

place-past : (x : LocatedLine) (before : List LocatedLine) (d : ℕ) (name : Bytes) → is_one_less_deep d x ≡ false →
    place_among (x ∷ before) d name ≡ cond (is_like d name x) 1 0 + place_among before d name
place-past x before d name h = grind (arith, common_steps, sum_by-cons)

place-here : (x : LocatedLine) (before : List LocatedLine) (d : ℕ) (name : Bytes) → is_one_less_deep d x ≡ true → place_among (x ∷ before) d name ≡ 0
place-here x before d name h = ap (count_by (is_like d name)) (before_first-here (is_one_less_deep d) x before h)

-- ---- the place of the next line

-- A line of depth d behind these lines is a member of the class at p, and follows this sibling.
record Stands (before : List LocatedLine) (d : ℕ) (p : Tokens) (s : Option SiblingPlace) : Type 0 where
  parent : parent_path before d ≡ p
  place : (name : Bytes) (k : ℕ) → may_stand s name (Some k) ≡ true → place_among before d name ≡ k

not_deeper : (d k : ℕ) → d ≡ k → (suc d == k) ≡ false
not_deeper d k e = ne_eqb (suc d) k (omega arith)

-- a deeper line changes none of this
stands-past : (x : LocatedLine) (before : List LocatedLine) (d : ℕ) (p : Tokens) (s : Option SiblingPlace) → d < x.line.depth → Stands before d p s → Stands (x ∷ before) d p s
stands-past x before d p s deep h = grind (arith, and_left, ne_eqb, parent-past, place-past)

-- a name later than a sibling's is later than all before it
none-before : (s : Option SiblingPlace) (n : Bytes) (o : Option ℕ) (name : Bytes) → may_stand s n o ≡ true → bytes_lt n name ≡ true → may_stand s name (Some zero) ≡ true
none-before None n o name h lt = refl
none-before (Some (m, None)) n (Some (suc k)) name h lt = absurd (false≢true h)
none-before (Some (m, Some j)) n (Some (suc k)) name h lt =
    subst (λ x. bytes_lt x name ≡ true) (sym (bytes_eq-true m n (and_parts (bytes_eq m n) (j == k) h).0)) lt
none-before (Some (m, q)) n o name h lt = bytes_lt-trans m n name h lt

place-sibling : (x : LocatedLine) (before : List LocatedLine) (d : ℕ) (p : Tokens) (s : Option SiblingPlace) (o : Option ℕ) → x.line.depth ≡ d → may_stand s x.line.name o ≡ true → Stands before d p s →
    (name : Bytes) (k : ℕ) → may_stand_behind (x.line.name, o) name (Some k) ≡ true → cond (is_like d name x) 1 0 + place_among before d name ≡ k
place-sibling x before d p s o is may h name zero next =
    ap (λ b. cond b 1 0 + place_among before d name) (and_right (x.line.depth == d) (bytes_eq x.line.name name) (bytes_lt-ne x.line.name name next))
    ∙ omega (arith, h.place name 0 (none-before s x.line.name o name may next))
place-sibling x before d p s None is may h name (suc k) next = absurd (false≢true next)
place-sibling x before d p s (Some j) is may h name (suc k) next =
    let parts = and_parts (bytes_eq x.line.name name) (j == k) next in
    let same = bytes_eq-true x.line.name name parts.0 in
    let e = eqb-true j k parts.1 in
    ap (λ b. cond b 1 0 + place_among before d name) (and_from (x.line.depth == d) (bytes_eq x.line.name name) (eq-eqb x.line.depth d is) parts.0)
    ∙ ap (λ n. 1 + place_among before d n) (sym same)
    ∙ omega (arith, h.place x.line.name j may)

stands-sibling : (x : LocatedLine) (before : List LocatedLine) (d : ℕ) (p : Tokens) (s : Option SiblingPlace) (o : Option ℕ) → x.line.depth ≡ d → may_stand s x.line.name o ≡ true → Stands before d p s →
    Stands (x ∷ before) d p (Some (x.line.name, o))
stands-sibling x before d p s o is may h = grind (arith, not_deeper, parent-past, place-past, place-sibling)

first_place : (k : ℕ) → may_stand_first (Some k) ≡ true → 0 ≡ k
first_place k h = grind (arith, false≢true)

stands-below : (x : LocatedLine) (before : List LocatedLine) (d : ℕ) → suc x.line.depth ≡ d → Stands (x ∷ before) d x.path None
stands-below x before d is = grind (arith, eq-eqb, first_place, parent-here, place-here)

stands-first : Stands [] 1 [] None
stands-first = record { parent = refl; place = λ name k first. first_place k first }

-- ---- the walk

-- the first list in reverse order, in front of the second
abbrev rev_onto : List LocatedLine → List LocatedLine → List LocatedLine
rev_onto [] ys = ys
rev_onto (x ∷ xs) ys = rev_onto xs (x ∷ ys)

rev_onto-append : (xs ys zs : List LocatedLine) → rev_onto (xs ++ ys) zs ≡ rev_onto ys (rev_onto xs zs)
rev_onto-append [] ys zs = refl
rev_onto-append (x ∷ xs) ys zs = rev_onto-append xs ys (x ∷ zs)

stands-past_walk : (f : Forest) (k : ℕ) (q : Tokens) (before : List LocatedLine) (d : ℕ) (p : Tokens) (s : Option SiblingPlace) → d < k → Stands before d p s → Stands (rev_onto (walk k q f) before) d p s
stands-past_walk end k q before d p s deep h = h
stands-past_walk (leaf i rest) k q before d p s deep h =
    let x = leaf_entry k q i in
    stands-past_walk rest k q (x ∷ before) d p s deep (stands-past x before d p s deep h)
stands-past_walk (branch name place kids rest) k q before d p s deep h =
    let x = class_entry k q name place in
    let inner = walk (suc k) x.path kids in
    subst (λ b. Stands b d p s) (sym (rev_onto-append inner (walk k q rest) (x ∷ before)))
    (stands-past_walk rest k q (rev_onto inner (x ∷ before)) d p s deep
    (stands-past_walk kids (suc k) x.path (x ∷ before) d p s (omega arith) (stands-past x before d p s deep h)))

placed-is : (before : List LocatedLine) (l : Line) (p : Tokens) (s : Option SiblingPlace) (o : Option ℕ) → Stands before l.depth p s → may_stand s l.name o ≡ true → l.in_array ≡ is_some o →
    placed before l ≡ entry_at p o l
placed-is before l p s o h may is = grind arith

located-walk : (f : Forest) (d : ℕ) (p : Tokens) (s : Option SiblingPlace) (before : List LocatedLine) (ls : List Line) → IsOrderedBehind s f → Stands before d p s →
    located_after before (lines d f ++ ls) ≡ walk d p f ++ located_after (rev_onto (walk d p f) before) ls
located-walk end d p s before ls ordered h = refl
located-walk (leaf i rest) d p s before ls ordered h =
    let x = leaf_entry d p i in
    ap (λ (e : LocatedLine). e ∷ located_after (e ∷ before) (lines d rest ++ ls)) (placed-is before (leaf_line d i) p s i.place h ordered.0 refl)
    ∙ ap (λ es. x ∷ es) (located-walk rest d p (Some (i.name, i.place)) (x ∷ before) ls ordered.1 (stands-sibling x before d p s i.place refl ordered.0 h))
located-walk (branch name place kids rest) d p s before ls ordered h =
    let x = class_entry d p name place in
    let inner = walk (suc d) x.path kids in
    ap (λ (e : LocatedLine). e ∷ located_after (e ∷ before) ((lines (suc d) kids ++ lines d rest) ++ ls)) (placed-is before (class_line d name place) p s place h ordered.0 refl)
    ∙ ap (λ es. x ∷ es) (
    ap (located_after (x ∷ before)) (append_assoc (lines (suc d) kids) (lines d rest) ls)
    ∙ located-walk kids (suc d) x.path None (x ∷ before) (lines d rest ++ ls) ordered.1 (stands-below x before (suc d) refl)
    ∙ ap (λ es. inner ++ es) (
    located-walk rest d p (Some (name, place)) (rev_onto inner (x ∷ before)) ls ordered.2
    (stands-past_walk kids (suc d) x.path (x ∷ before) d p (Some (name, place)) (omega arith) (stands-sibling x before d p s place refl ordered.0 h))
    ∙ ap (λ b. walk d p rest ++ located_after b ls) (sym (rev_onto-append inner (walk d p rest) (x ∷ before))))
    ∙ sym (append_assoc inner (walk d p rest) _))

pub located-lines : (f : Forest) → IsSound f → located (lines 1 f) ≡ walk 1 [] f
located-lines f sound =
    ap located (sym (append-nil (lines 1 f))) ∙ located-walk f 1 [] None [] [] sound.ordered stands-first ∙ append-nil (walk 1 [] f)
