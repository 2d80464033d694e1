-- Two sound trees with the same lines are the same tree.
use Rattle.std.proofs.Common.{◌≡◌, ℕ, zero, suc, ◌≤◌, List, [], ◌∷◌, ◌++◌, true, ◌==◌, refl, sym, ◌∙◌, ap, subst, arith, true≢false, Option, Some, None}
use Rattle.{std.{proofs.{Common.{is_some, bytes_eq}, lemmas.Bool.{and_parts, false≢true, eqb-true}}, specs.List.AllByRecursion}, json_pointer.specs.Text.Bytes}
use Rattle.{json_pointer.specs.Text.bytes_lt, iodef_tree.{proofs.{Order.bytes_lt-ne, Siblings.all-append}, specs.Sound.{SiblingPlace, may_stand}}}
use Rattle.iodef_tree.specs.{Sound.{IsOrderedBehind, IsSound}, Tree.{Content, Leaf, Forest, end, leaf, branch, kind_of, text_of, leaf_line, class_line, lines}}
use Rattle.iodef_tree.specs.declared.line.Line.{Line}
use Rattle.iodef_tree.specs.declared.line.Kind.TheVariants as kind

-- ---- where the members of a class end

abbrev AreDeep : ℕ → List Line → Type 0
AreDeep d ls = AllByRecursion (λ (l : Line). d ≤ l.depth) ls

-- the list begins at most this deep
abbrev IsShallow : ℕ → List Line → Type 0
IsShallow d [] = Unit {0}
IsShallow d (l ∷ ls) = l.depth ≤ d

deeper : (ls : List Line) (d : ℕ) → AreDeep (suc d) ls → AreDeep d ls
deeper [] d h = tt
deeper (l ∷ ls) d h = let k = h.0 in (omega arith, deeper ls d h.1)

lines-deep : (f : Forest) (d : ℕ) → AreDeep d (lines d f)
lines-deep end d = tt
lines-deep (leaf i rest) d = (omega arith, lines-deep rest d)
lines-deep (branch n o kids rest) d = search (arith, all-append, deeper, (lines-deep kids (suc d)), (lines-deep rest d))

lines-shallow : (f : Forest) (d : ℕ) → IsShallow d (lines d f)
lines-shallow end d = tt
lines-shallow (leaf i rest) d = omega arith
lines-shallow (branch n o kids rest) d = omega arith

not_both : (d : ℕ) (x : Line) (xs ys : List Line) → suc d ≤ x.depth → IsShallow d ys → ys ≡ x ∷ xs → ⊥
not_both d x xs ys deep shallow e = grind arith

split : (d : ℕ) (xs xs' ys ys' : List Line) → AreDeep (suc d) xs → AreDeep (suc d) xs' → IsShallow d ys → IsShallow d ys' → xs ++ ys ≡ xs' ++ ys' → (xs ≡ xs') × (ys ≡ ys')
split d [] [] ys ys' deep deep' shallow shallow' e = (refl, e)
split d [] (x' ∷ xs') ys ys' deep deep' shallow shallow' e = absurd (not_both d x' (xs' ++ ys') ys deep'.0 shallow e)
split d (x ∷ xs) [] ys ys' deep deep' shallow shallow' e = absurd (not_both d x (xs ++ ys) ys' deep.0 shallow' (sym e))
split d (x ∷ xs) (x' ∷ xs') ys ys' deep deep' shallow shallow' e =
    let head : x ≡ x' = cc in
    let tail : xs ++ ys ≡ xs' ++ ys' = cc in
    let r = split d xs xs' ys ys' deep.1 deep'.1 shallow shallow' tail in
    let rest : xs ≡ xs' = r.0 in
    (ap (λ z. z ∷ xs) head ∙ ap (λ zs. x' ∷ zs) rest, r.1)

-- ---- the parts of a line

never : {A : Type 0} (m n : Bytes) → bytes_lt m n ≡ true → bytes_eq m n ≡ true → A
never m n lt eq = absurd (true≢false (sym eq ∙ bytes_lt-ne m n lt))

place-same : (s : Option SiblingPlace) (n : Bytes) (o o' : Option ℕ) → may_stand s n o ≡ true → may_stand s n o' ≡ true → is_some o ≡ is_some o' → o ≡ o'
place-same s n None None h h' e = refl
place-same s n None (Some k) h h' e = absurd (false≢true e)
place-same s n (Some j) None h h' e = absurd (true≢false e)
place-same None n (Some zero) (Some zero) h h' e = refl
place-same None n (Some zero) (Some (suc k)) h h' e = absurd (false≢true h')
place-same None n (Some (suc j)) (Some k) h h' e = absurd (false≢true h)
place-same (Some (m, q)) n (Some zero) (Some zero) h h' e = refl
place-same (Some (m, None)) n (Some zero) (Some (suc k)) h h' e = absurd (false≢true h')
place-same (Some (m, Some i)) n (Some zero) (Some (suc k)) h h' e = never m n h (and_parts (bytes_eq m n) (i == k) h').0
place-same (Some (m, None)) n (Some (suc j)) (Some k) h h' e = absurd (false≢true h)
place-same (Some (m, Some i)) n (Some (suc j)) (Some zero) h h' e = never m n h' (and_parts (bytes_eq m n) (i == j) h).0
place-same (Some (m, Some i)) n (Some (suc j)) (Some (suc k)) h h' e = grind (arith, and_parts, eqb-true)

content-same : (c c' : Content) → kind_of c ≡ kind_of c' → text_of c ≡ text_of c' → c ≡ c'
content-same c c' k e = grind arith

no_class : (c : Content) → kind_of c ≡ kind.Class → ⊥
no_class c e = grind arith

abbrev leaf_of : Bytes → Option ℕ → Content → Leaf
leaf_of n o c = record { name = n; place = o; content = c }

leaf-same : (i i' : Leaf) → i.name ≡ i'.name → i.place ≡ i'.place → i.content ≡ i'.content → i ≡ i'
leaf-same i i' a b c = ap (λ n. leaf_of n i.place i.content) a ∙ ap (λ o. leaf_of i'.name o i.content) b ∙ ap (leaf_of i'.name i'.place) c

-- ---- the trees

one_to_one-behind : (f g : Forest) (d : ℕ) (s : Option SiblingPlace) → IsOrderedBehind s f → IsOrderedBehind s g → lines d f ≡ lines d g → f ≡ g
one_to_one-behind end end d s a b e = refl
one_to_one-behind (leaf i rest) (branch n o kids rest') d s a b e =
    let head : leaf_line d i ≡ class_line d n o = cc in absurd (no_class i.content (ap (λ (l : Line). l.kind) head))
one_to_one-behind (branch n o kids rest) (leaf i rest') d s a b e =
    let head : class_line d n o ≡ leaf_line d i = cc in absurd (no_class i.content (sym (ap (λ (l : Line). l.kind) head)))
one_to_one-behind (leaf i rest) (leaf i' rest') d s a b e =
    let head : leaf_line d i ≡ leaf_line d i' = cc in
    let tail : lines d rest ≡ lines d rest' = cc in
    let name : i.name ≡ i'.name = ap (λ (l : Line). l.name) head in
    let place : i.place ≡ i'.place = place-same s i'.name i.place i'.place (subst (λ x. may_stand s x i.place ≡ true) name a.0) b.0 (ap (λ (l : Line). l.in_array) head) in
    let content : i.content ≡ i'.content = content-same i.content i'.content (ap (λ (l : Line). l.kind) head) (ap (λ (l : Line). l.text) head) in
    let same : i ≡ i' = leaf-same i i' name place content in
    ap (λ x. leaf x rest) same
    ∙ ap (leaf i') (one_to_one-behind rest rest' d (Some (i'.name, i'.place)) (subst (λ (x : Leaf). IsOrderedBehind (Some (x.name, x.place)) rest) same a.1) b.1 tail)
one_to_one-behind (branch n o kids rest) (branch n' o' kids' rest') d s a b e =
    let head : class_line d n o ≡ class_line d n' o' = cc in
    let tail : lines (suc d) kids ++ lines d rest ≡ lines (suc d) kids' ++ lines d rest' = cc in
    let name : n ≡ n' = ap (λ (l : Line). l.name) head in
    let place : o ≡ o' = place-same s n' o o' (subst (λ x. may_stand s x o ≡ true) name a.0) b.0 (ap (λ (l : Line). l.in_array) head) in
    let two = split d (lines (suc d) kids) (lines (suc d) kids') (lines d rest) (lines d rest') (lines-deep kids (suc d)) (lines-deep kids' (suc d)) (lines-shallow rest d) (lines-shallow rest' d) tail in
    let inner : kids ≡ kids' = one_to_one-behind kids kids' (suc d) None a.1 b.1 two.0 in
    let behind : rest ≡ rest' = one_to_one-behind rest rest' d (Some (n', o')) (subst (λ x. IsOrderedBehind (Some (n', x)) rest) place (subst (λ x. IsOrderedBehind (Some (x, o)) rest) name a.2)) b.2 two.1 in
    cc
one_to_one-behind f g d s a b e = cc

pub one-to-one : (f g : Forest) → IsSound f → IsSound g → lines 1 f ≡ lines 1 g → f ≡ g
one-to-one f g a b e = one_to_one-behind f g 1 None a.ordered b.ordered e
