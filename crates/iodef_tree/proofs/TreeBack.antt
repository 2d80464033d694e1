-- The tree of a tree's lines is that tree.
use Rattle.std.proofs.Common.{◌≡◌, ℕ, zero, suc, ◌<◌, true, List, [], ◌∷◌, ◌++◌, refl, sym, ◌∙◌, ap, append_assoc, append-nil, arith, ◌==◌, Option, Some, None}
use Rattle.{std.proofs.{Common.{is_some, bytes_eq}, lemmas.Bool.{cond-true, cond-false, eqb-true, and_parts, false≢true}}, json_pointer.specs.Text.Bytes}
use Rattle.iodef_tree.{proofs.{Located.located-lines, Order.bytes_lt-ne, Outlines.{above-line, at-line, past-line}}, specs.{Laws.IsDocument, Paths.located}}
use Rattle.iodef_tree.specs.{Sound.{SiblingPlace, may_stand, IsOrderedBehind, IsSound}, Tree.{Content, text, value, Forest, end, leaf, branch, Body, holds}}
use Rattle.iodef_tree.specs.{Tree.{says, in_front, place_of, kind_of, text_of, leaf_line, class_line, lines}, TreeOf.{body_of_line, next_place, tree_from}}
use Rattle.iodef_tree.specs.{TreeOf.tree_of, Walk.{walk, walked}, declared.line.Line.Line}

-- ---- deeper lines change nothing

-- a function that skips a deeper line skips all lines of a class
pub skip : {A : Type 0} (F : List Line → A) (d : ℕ) → ((l : Line) (ls : List Line) → d < l.depth → F (l ∷ ls) ≡ F ls) → (f : Forest) (n : ℕ) (X : List Line) → d < n → F (lines n f ++ X) ≡ F X
skip F d passes end n X h = refl
skip F d passes (leaf i rest) n X h = passes (leaf_line n i) (lines n rest ++ X) h ∙ skip F d passes rest n X h
skip F d passes (branch m p kids rest) n X h =
    passes (class_line n m p) ((lines (suc n) kids ++ lines n rest) ++ X) h
    ∙ ap F (append_assoc (lines (suc n) kids) (lines n rest) X)
    ∙ skip F d passes kids (suc n) (lines n rest ++ X) (omega (arith, h))
    ∙ skip F d passes rest n X h

-- the list begins less deep
abbrev pub Stops : ℕ → List Line → Type 0
Stops d [] = Unit {0}
Stops d (l ∷ ls) = l.depth < d

stops-more : (X : List Line) (d : ℕ) → Stops d X → Stops (suc d) X
stops-more X d h = grind arith

pub stops-below : (f : Forest) (d : ℕ) (X : List Line) → Stops d X → Stops (suc d) (lines d f ++ X)
stops-below end d X h = stops-more X d h
stops-below (leaf i rest) d X h = omega arith
stops-below (branch n p kids rest) d X h = omega arith

-- ---- one line

-- the place that is counted is the one that a sound tree has
place-is : (o : Option SiblingPlace) (name : Bytes) (p : Option ℕ) → may_stand o name p ≡ true → place_of (is_some p) (next_place o name) ≡ p
place-is o name None h = refl
place-is None name (Some zero) h = refl
place-is None name (Some (suc k)) h = absurd (false≢true h)
place-is (Some (n, None)) name (Some zero) h = refl
place-is (Some (n, None)) name (Some (suc k)) h = absurd (false≢true h)
place-is (Some (n, Some j)) name (Some zero) h = ap Some (cond-false (bytes_eq n name) (suc j) 0 (bytes_lt-ne n name h))
place-is (Some (n, Some j)) name (Some (suc k)) h =
    let parts = and_parts (bytes_eq n name) (j == k) h in
    ap Some (cond-true (bytes_eq n name) (suc j) 0 parts.0 ∙ ap suc (eqb-true j k parts.1))

plain-body : (c : Content) (kids : Forest) → body_of_line (kind_of c) (text_of c) kids ≡ says c
plain-body (text s) kids = refl
plain-body (value s) kids = refl

one-back : (d : ℕ) (o : Option SiblingPlace) (l : Line) (p : Option ℕ) (ls : List Line) (b : Body) (rest : Forest) → l.depth ≡ d → l.in_array ≡ is_some p → may_stand o l.name p ≡ true
    → body_of_line l.kind l.text (tree_from (suc d) None ls) ≡ b → tree_from d (Some (l.name, p)) ls ≡ rest → tree_from d o (l ∷ ls) ≡ in_front l.name p b rest
one-back d o l p ls b rest deep a fits is later =
    let place : place_of l.in_array (next_place o l.name) ≡ p = ap (λ x. place_of x (next_place o l.name)) a ∙ place-is o l.name p fits in
    at-line l.depth d _ _ _ deep
    ∙ ap (λ q. in_front l.name q (body_of_line l.kind l.text (tree_from (suc d) None ls)) (tree_from d (Some (l.name, q)) ls)) place
    ∙ ap (λ x. in_front l.name p x (tree_from d (Some (l.name, p)) ls)) is
    ∙ ap (in_front l.name p b) later

-- ---- the tree

stops-tree : (X : List Line) (d : ℕ) (o : Option SiblingPlace) → Stops d X → tree_from d o X ≡ end
stops-tree [] d o h = refl
stops-tree (l ∷ ls) d o h = above-line l.depth d _ _ _ h

skip-tree : (f : Forest) (n d : ℕ) (o : Option SiblingPlace) (X : List Line) → d < n → tree_from d o (lines n f ++ X) ≡ tree_from d o X
skip-tree f n d o X h = skip (tree_from d o) d (λ l ls k. past-line l.depth d _ _ _ k) f n X h

tree-back : (f : Forest) (d : ℕ) (o : Option SiblingPlace) (X : List Line) → IsOrderedBehind o f → Stops d X → tree_from d o (lines d f ++ X) ≡ f
tree-back end d o X h k = stops-tree X d o k
tree-back (leaf i rest) d o X h k =
    one-back d o (leaf_line d i) i.place (lines d rest ++ X) (says i.content) rest refl refl h.0 (plain-body i.content (tree_from (suc d) None (lines d rest ++ X))) (tree-back rest d (Some (i.name, i.place)) X h.1 k)
tree-back (branch n p kids rest) d o X h k =
    let Y = lines d rest ++ X in
    let ls = (lines (suc d) kids ++ lines d rest) ++ X in
    let joined : ls ≡ lines (suc d) kids ++ Y = append_assoc (lines (suc d) kids) (lines d rest) X in
    one-back d o (class_line d n p) p ls (holds kids) rest refl refl h.0
    (ap holds (ap (tree_from (suc d) None) joined ∙ tree-back kids (suc d) None Y h.1 (stops-below rest d X k)))
    (ap (tree_from d (Some (n, p))) joined ∙ skip-tree kids (suc d) d (Some (n, p)) Y (omega arith) ∙ tree-back rest d (Some (n, p)) X h.2 k)

pub tree-ordered : (f : Forest) → IsOrderedBehind None f → tree_of (lines 1 f) ≡ f
tree-ordered f h = ap (tree_from 1 None) (sym (append-nil (lines 1 f))) ∙ tree-back f 1 None [] h tt

pub trees-back : (f : Forest) → IsSound f → tree_of (lines 1 f) ≡ f
trees-back f h = tree-ordered f h.ordered

pub paths-walked : (ls : List Line) → IsDocument ls → located ls ≡ walked ls
paths-walked ls h = ap located h.2 ∙ located-lines h.0 h.1 ∙ sym (ap (walk 1 []) (ap tree_of h.2 ∙ trees-back h.0 h.1))
