-- The lines of an outline are those of a document: its tree grows line by line, at the ends of the open classes.
use Rattle.std.proofs.Common.{◌≡◌, ℕ, zero, suc, ◌+◌, ◌-◌, ◌≤◌, Bool, true, false, not, ◌==◌, List, [], ◌∷◌, ◌++◌, length, append-nil, append_assoc, refl, sym}
use Rattle.std.proofs.{Common.{◌∙◌, ap, subst, arith, if◌then◌else◌, Option, Some, None, is_some}, lemmas.Bool.{false≢true, and_parts, and_from, eq-eqb}}
use Rattle.{std.specs.Str.bytes_eq, iodef_tree.proofs.{Fronts.{append, lines-append}, Outlines.{came, back-push}, Sounds.outline-sound}}
use Rattle.iodef_tree.specs.{Built.{is_numbered, IsNumberedBehind, IsNumbered, last_place}, Laws.IsDocument, Outline.{deepest, back, may_come, is_within_depth}}
use Rattle.iodef_tree.specs.{Outline.{is_outline, is_outline_after}, Paths.is_class_kind, Sound.SiblingPlace, Text.Bytes, Texts.{is_empty_text, may_be_text}}
use Rattle.iodef_tree.specs.{Tree.{Content, text, value, Forest, end, leaf, branch, kind_of, text_of, leaf_line, class_line, lines}, declared.line.Kind.Kind}
use Rattle.iodef_tree.specs.declared.line.Line.{Line}
use Rattle.iodef_tree.specs.declared.line.Kind.TheVariants as kind

-- ---- siblings

numbered-append : (o : Option SiblingPlace) (f g : Forest) → IsNumberedBehind o f → IsNumberedBehind (last_place o f) g → IsNumberedBehind o (append f g)
numbered-append o end g h k = k
numbered-append o (leaf i rest) g h k = (h.0, numbered-append (Some (i.name, i.place)) rest g h.1 k)
numbered-append o (branch n p kids rest) g h k = (h.0, h.1, numbered-append (Some (n, p)) rest g h.2 k)

-- the place of one more sibling
abbrev next_place : Option SiblingPlace → Bytes → Bool → Option ℕ
next_place o name false = None
next_place None name true = Some 0
next_place (Some (n, None)) name true = Some 0
next_place (Some (n, Some j)) name true = if bytes_eq n name then Some (suc j) else Some 0

next-numbered : (o : Option SiblingPlace) (name : Bytes) (in_array : Bool) → is_numbered o name (next_place o name in_array) ≡ true
next-numbered None name false = refl
next-numbered (Some s) name false = refl
next-numbered None name true = refl
next-numbered (Some (n, None)) name true = refl
next-numbered (Some (n, Some j)) name true = by_name (bytes_eq n name) refl
  where
    by_name : (t : Bool) → bytes_eq n name ≡ t → is_numbered (Some (n, Some j)) name (if t then Some (suc j) else Some 0) ≡ true
    by_name true e = and_from (bytes_eq n name) (j == j) e (eq-eqb j j refl)
    by_name false e = ap not e

next-in_array : (o : Option SiblingPlace) (name : Bytes) (in_array : Bool) → is_some (next_place o name in_array) ≡ in_array
next-in_array o name false = refl
next-in_array None name true = refl
next-in_array (Some (n, None)) name true = refl
next-in_array (Some (n, Some j)) name true = by_name (bytes_eq n name)
  where
    by_name : (t : Bool) → is_some (if t then Some (suc j) else Some 0) ≡ true
    by_name true = refl
    by_name false = refl

-- ---- the open classes

record Open : Type 0 where
  name : Bytes
  place : Option ℕ
  members : Forest

-- the tree with all classes closed
abbrev whole : Forest → List Open → Forest
whole f [] = f
whole f (x ∷ xs) = append f (branch x.name x.place (whole x.members xs) end)

abbrev AreNumbered : Forest → List Open → Type 0
AreNumbered f [] = IsNumbered f
AreNumbered f (x ∷ xs) = IsNumbered f × (is_numbered (last_place None f) x.name x.place ≡ true) × AreNumbered x.members xs

whole-numbered : (f : Forest) (xs : List Open) → AreNumbered f xs → IsNumbered (whole f xs)
whole-numbered f [] h = h
whole-numbered f (x ∷ xs) h = numbered-append None f (branch x.name x.place (whole x.members xs) end) h.0 (h.1, whole-numbered x.members xs h.2, tt)

-- the content of a plain line
abbrev content_of : Kind → Bytes → Content
content_of kind.Class t = text t
content_of kind.Text t = text t
content_of kind.Value t = value t

abbrev leaf_of : Forest → Line → Forest
leaf_of f l = append f (leaf (record { name = l.name; place = next_place (last_place None f) l.name l.in_array; content = content_of l.kind l.text }) end)

abbrev opened : Forest → Line → Open
opened f l = record { name = l.name; place = next_place (last_place None f) l.name l.in_array; members = end }

-- a tree and its open classes
record Spine : Type 0 where
  root : Forest
  classes : List Open

abbrev put : Bool → Forest → Line → Spine
put true f l = record { root = f; classes = opened f l ∷ [] }
put false f l = record { root = leaf_of f l; classes = [] }

-- a line at the end of the k-th open class
abbrev add : ℕ → Forest → List Open → Line → Spine
add zero f xs l = put (is_class_kind l.kind) (whole f xs) l
add (suc k) f [] l = record { root = f; classes = [] }
add (suc k) f (x ∷ xs) l = let r = add k x.members xs l in record { root = f; classes = (record { name = x.name; place = x.place; members = r.root }) ∷ r.classes }

-- ---- a line is the thing that is put in

class-kind : (k : Kind) → is_class_kind k ≡ true → k ≡ kind.Class
class-kind kind.Class h = refl
class-kind kind.Text h = absurd (false≢true h)
class-kind kind.Value h = absurd (false≢true h)

empty-text : (t : Bytes) → is_empty_text t ≡ true → t ≡ []
empty-text [] h = refl
empty-text (x ∷ t) h = absurd (false≢true h)

plain-kind : (k : Kind) (t : Bytes) → is_class_kind k ≡ false → kind_of (content_of k t) ≡ k
plain-kind kind.Class t h = absurd (false≢true (sym h))
plain-kind kind.Text t h = refl
plain-kind kind.Value t h = refl

plain-text : (k : Kind) (t : Bytes) → text_of (content_of k t) ≡ t
plain-text kind.Class t = refl
plain-text kind.Text t = refl
plain-text kind.Value t = refl

same-class : (d : ℕ) (o : Option ℕ) (l : Line) → d ≡ l.depth → is_some o ≡ l.in_array → l.kind ≡ kind.Class → l.text ≡ [] → class_line d l.name o ≡ l
same-class d o l deep array kin none = λ i. record { depth = deep i; name = l.name; in_array = array i; kind = sym kin i; text = sym none i }

same-leaf : (d : ℕ) (o : Option ℕ) (l : Line) → d ≡ l.depth → is_some o ≡ l.in_array → is_class_kind l.kind ≡ false → leaf_line d (record { name = l.name; place = o; content = content_of l.kind l.text }) ≡ l
same-leaf d o l deep array plain = λ i. record { depth = deep i; name = l.name; in_array = array i; kind = plain-kind l.kind l.text plain i; text = plain-text l.kind l.text i }

-- ---- what a line adds

add-lines : (k : ℕ) (f : Forest) (xs : List Open) (l : Line) (d : ℕ) → k ≤ length xs → l.depth ≡ d + k → may_be_text l.kind l.in_array l.text ≡ true →
    lines d (whole (add k f xs l).root (add k f xs l).classes) ≡ lines d (whole f xs) ++ l ∷ []
add-lines zero f xs l d low deep said = by_kind (is_class_kind l.kind) refl
  where
    g : Forest
    g = whole f xs

    o : Option ℕ
    o = next_place (last_place None g) l.name l.in_array

    here : d ≡ l.depth
    here = omega (arith, deep)

    by_kind : (t : Bool) → is_class_kind l.kind ≡ t → lines d (whole (put t g l).root (put t g l).classes) ≡ lines d g ++ l ∷ []
    by_kind true e =
        let kin = class-kind l.kind e in
        lines-append d g (branch l.name o end end)
        ∙ ap (λ x. lines d g ++ x ∷ []) (same-class d o l here (next-in_array (last_place None g) l.name l.in_array) kin (empty-text l.text (sym (ap (λ (k : Kind). may_be_text k l.in_array l.text) kin) ∙ said)))
    by_kind false e =
        lines-append d g (leaf (record { name = l.name; place = o; content = content_of l.kind l.text }) end)
        ∙ ap (λ x. lines d g ++ x ∷ []) (same-leaf d o l here (next-in_array (last_place None g) l.name l.in_array) e)
add-lines (suc k) f [] l d low deep said = absurd (omega (arith, low))
add-lines (suc k) f (x ∷ xs) l d low deep said =
    let r = add k x.members xs l in
    let c = class_line d x.name x.place in
    let W = lines (suc d) (whole x.members xs) in
    let inner = add-lines k x.members xs l (suc d) (omega (arith, low)) (omega (arith, deep)) said in
    lines-append d f (branch x.name x.place (whole r.root r.classes) end)
    ∙ ap (λ ws. lines d f ++ c ∷ ws) (append-nil (lines (suc d) (whole r.root r.classes)) ∙ inner)
    ∙ sym (ap (λ ys. ys ++ l ∷ []) (lines-append d f (branch x.name x.place (whole x.members xs) end) ∙ ap (λ ws. lines d f ++ c ∷ ws) (append-nil W)) ∙ append_assoc (lines d f) (c ∷ W) (l ∷ []))

add-numbered : (k : ℕ) (f : Forest) (xs : List Open) (l : Line) → AreNumbered f xs → AreNumbered (add k f xs l).root (add k f xs l).classes
add-numbered zero f xs l h = by_kind (is_class_kind l.kind)
  where
    g : Forest
    g = whole f xs

    by_kind : (t : Bool) → AreNumbered (put t g l).root (put t g l).classes
    by_kind true = (whole-numbered f xs h, next-numbered (last_place None g) l.name l.in_array, tt)
    by_kind false =
        numbered-append None g (leaf (record { name = l.name; place = next_place (last_place None g) l.name l.in_array; content = content_of l.kind l.text }) end)
        (whole-numbered f xs h) (next-numbered (last_place None g) l.name l.in_array, tt)
add-numbered (suc k) f [] l h = h
add-numbered (suc k) f (x ∷ xs) l h = (h.0, h.1, add-numbered k x.members xs l h.2)

add-deep : (k : ℕ) (f : Forest) (xs : List Open) (l : Line) → k ≤ length xs → suc (length (add k f xs l).classes) ≡ (if is_class_kind l.kind then suc (suc k) else suc k)
add-deep zero f xs l low = by_kind (is_class_kind l.kind)
  where
    by_kind : (t : Bool) → suc (length (put t (whole f xs) l).classes) ≡ (if t then 2 else 1)
    by_kind true = refl
    by_kind false = refl
add-deep (suc k) f [] l low = absurd (omega (arith, low))
add-deep (suc k) f (x ∷ xs) l low = ap suc (add-deep k x.members xs l (omega (arith, low))) ∙ by_kind (is_class_kind l.kind)
  where
    by_kind : (t : Bool) → suc (if t then suc (suc k) else suc k) ≡ (if t then suc (suc (suc k)) else suc (suc k))
    by_kind true = refl
    by_kind false = refl

-- ---- line by line

record Grown (ls : List Line) : Type 0 where
  spine : Spine
  numbered : AreNumbered spine.root spine.classes
  is : lines 1 (whole spine.root spine.classes) ≡ ls
  deep : suc (length spine.classes) ≡ deepest (back ls)

step : (done : List Line) (l : Line) → Grown done → may_come (back done) l ≡ true → Grown (done ++ l ∷ [])
step done l g fits =
    let k = came (back done) l fits in
    let j = l.depth - 1 in
    let positive = k.positive in
    let reached = k.reached in
    let deep = g.deep in
    let low : j ≤ length g.spine.classes = omega (arith, positive, reached, deep) in
    let at : suc j ≡ l.depth = omega (arith, positive) in
    record {
      spine = add j g.spine.root g.spine.classes l;
      numbered = add-numbered j g.spine.root g.spine.classes l g.numbered;
      is = add-lines j g.spine.root g.spine.classes l 1 low (omega (arith, positive)) (and_parts (is_within_depth l) _ k.sound).1 ∙ ap (λ xs. xs ++ l ∷ []) g.is;
      deep = add-deep j g.spine.root g.spine.classes l low ∙ ap (λ n. if is_class_kind l.kind then suc n else n) at ∙ sym (ap deepest (back-push done l));
    }

grow : (rest done : List Line) → Grown done → is_outline_after (back done) rest ≡ true → Grown (done ++ rest)
grow [] done g h = subst Grown (sym (append-nil done)) g
grow (l ∷ rest) done g h =
    let parts = and_parts (may_come (back done) l) (is_outline_after (l ∷ back done) rest) h in
    subst Grown (append_assoc done (l ∷ []) rest) (grow rest (done ++ l ∷ []) (step done l g parts.0) (ap (λ b. is_outline_after b rest) (back-push done l) ∙ parts.1))

pub outline-document : (ls : List Line) → is_outline ls ≡ true → IsDocument ls
outline-document ls h =
    let g = grow ls [] (record { spine = record { root = end; classes = [] }; numbered = tt; is = refl; deep = refl }) h in
    let f = whole g.spine.root g.spine.classes in
    (f, outline-sound f (ap is_outline g.is ∙ h) (whole-numbered g.spine.root g.spine.classes g.numbered), sym g.is)
