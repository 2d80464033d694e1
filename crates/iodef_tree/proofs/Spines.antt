-- The open classes of a document under construction.
use Rattle.std.proofs.Common.{◌≡◌, ℕ, suc, ◌+◌, ◌-◌, Bool, true, List, [], ◌∷◌, ◌++◌, length, refl, sym, ◌∙◌, ap, subst, append_assoc, arith, is_some}
use Rattle.{std.{proofs.lemmas.{Bool.and_parts, Grind.common_steps, List.{append-nil, length_push}}, specs.List.AllByRecursion}, json_pointer.specs.Text.Bytes}
use Rattle.iodef_tree.proofs.{Filled.object-filled, Outlines.{came, back-push}, Siblings.{all-append, all-split}, Sounds.outline-sound, Views.forest-members}
use Rattle.iodef_tree.{proofs.Views.body-Class, specs.Built.{IsGrown, Grows, open_line, lines_down, lines_of, IsOpenGrown, IsSpineGrown, Extends, HasLine}}
use Rattle.iodef_tree.specs.{Filled.IsFilled, Outline.{deepest, back, may_come, is_outline, is_within_depth}, Sound.IsSound, Texts.{may_be_text, is_empty_text}}
use Rattle.iodef_tree.specs.{Tree.{Content, text, value, Forest, end, Body, holds, says, in_front, place_of, class_line, kind_of, text_of, lines}, View.forest}
use Rattle.iodef_tree.specs.{View.body, declared.{builder.{Open.Open, Spine.Spine}, line.{Kind.Kind, Line.Line}, object.Item.TheVariants.Class}}
use Rattle.iodef_tree.specs.declared.line.Kind.TheVariants as kind

one-longer : (xs : List Open) (x : Open) → length (xs ++ x ∷ []) ≡ suc (length xs)
one-longer xs x = search (arith, length_push)

-- ---- lines

-- a class is opened, with what it holds so far
down-push : (d : ℕ) (f : Forest) (xs : List Open) (x : Open) →
    lines_down d f (xs ++ x ∷ []) ≡ lines_down d f xs ++ open_line (d + length xs) x ∷ lines (suc (d + length xs)) (forest x.object)
down-push d f [] x = ap (λ e. lines d f ++ open_line e x ∷ lines (suc e) (forest x.object)) (omega arith)
down-push d f (y ∷ xs) x =
    let R = open_line (d + length (y ∷ xs)) x ∷ lines (suc (d + length (y ∷ xs))) (forest x.object) in
    ap (λ ls. lines d f ++ open_line d y ∷ ls) (down-push (suc d) (forest y.object) xs x ∙ ap (λ e. lines_down (suc d) (forest y.object) xs ++ open_line e x ∷ lines (suc e) (forest x.object)) (omega arith))
    ∙ sym (append_assoc (lines d f) (open_line d y ∷ lines_down (suc d) (forest y.object) xs) R)

same-line : (d : ℕ) (x y : Open) → y.name ≡ x.name → y.in_array ≡ x.in_array → open_line d y ≡ open_line d x
same-line d x y n a = ap (λ (m : Bytes). class_line d m (place_of y.in_array 0)) n ∙ ap (λ (b : Bool). class_line d x.name (place_of b 0)) a

-- lines at the end of the innermost class are at the end of all
down-add : (d : ℕ) (f : Forest) (xs : List Open) (x y : Open) (R : List Line) → y.name ≡ x.name → y.in_array ≡ x.in_array →
    lines (suc (d + length xs)) (forest y.object) ≡ lines (suc (d + length xs)) (forest x.object) ++ R →
    lines_down d f (xs ++ y ∷ []) ≡ lines_down d f (xs ++ x ∷ []) ++ R
down-add d f xs x y R n a is = grind (arith, append_assoc, down-push, same-line)

-- ---- one thing more

pub put-class : (s t : Spine) (P : List Open) (x y : Open) (n : Bytes) (a : Bool) (b : Body) → IsSpineGrown s → t.root ≡ s.root →
    s.classes.items ≡ P ++ x ∷ [] → t.classes.items ≡ P ++ y ∷ [] → y.name ≡ x.name → y.in_array ≡ x.in_array →
    Grows x.object.members.items n a b y.object.members.items →
    Extends s (lines (suc (length s.classes.items)) (in_front n (place_of a 0) b end)) (length s.classes.items) t
put-class s t P x y n a b h root was is name array g = grind (arith, all-append, all-split, down-add, forest-members, one-longer)

-- what the innermost class keeps before a thing is put into it
pub innermost-grown : (s : Spine) (P : List Open) (x : Open) → s.classes.items ≡ P ++ x ∷ [] → IsSpineGrown s → IsGrown x.object.members.items
innermost-grown s P x was h = (all-split IsOpenGrown P x (subst (AllByRecursion IsOpenGrown) was h.classes)).1

pub opened : (s t : Spine) (x : Open) → IsSpineGrown s → t.root ≡ s.root → t.classes.items ≡ s.classes.items ++ x ∷ [] → x.object.members.items ≡ [] →
    Extends s (lines (suc (length s.classes.items)) (in_front x.name (place_of x.in_array 0) (holds end) end)) (suc (length s.classes.items)) t
opened s t x h root is none = grind (arith, all-append, down-push, forest-members, one-longer)

-- ---- closing

pub closed : (s o t : Spine) (x : Open) → o.root ≡ s.root → s.classes.items ≡ o.classes.items ++ x ∷ [] →
    Extends o (lines (suc (length o.classes.items)) (in_front x.name (place_of x.in_array 0) (body (Class x.object)) end)) (length o.classes.items) t →
    Extends s [] (length s.classes.items - 1) t
closed s o t x root was e = grind (arith, append-nil, body-Class, down-push, one-longer)

-- ---- a line

empty-text : (s : Bytes) → is_empty_text s ≡ true → s ≡ []
empty-text s h = grind arith

line-is : (d : ℕ) (a : Bool) (l : Line) (k : Kind) (s : Bytes) → d ≡ l.depth → l.kind ≡ k → l.text ≡ s →
    (let x : Line = record { depth = d; name = l.name; in_array = is_some (place_of l.in_array 0); kind = k; text = s } in x) ≡ l
line-is d a l k s deep kin is = grind arith

has-line : (s t u : Spine) (l : Line) (n : ℕ) (R : List Line) → lines_of t ≡ lines_of s ++ [] → Extends t R n u → R ≡ l ∷ [] → deepest (l ∷ []) ≡ suc n → HasLine s l u
has-line s t u l n R same e is deep = grind (arith, append-nil, back-push)

pub has-class : (s t u : Spine) (l : Line) → may_come (back (lines_of s)) l ≡ true → l.kind ≡ kind.Class → Extends s [] (l.depth - 1) t →
    Extends t (lines (suc (length t.classes.items)) (in_front l.name (place_of l.in_array 0) (holds end) end)) (suc (length t.classes.items)) u → HasLine s l u
has-class s t u l fits is e g =
    let k = came (back (lines_of s)) l fits in
    let deep : suc (length t.classes.items) ≡ l.depth = ap suc e.depth ∙ omega (arith, k.positive) in
    let said : may_be_text l.kind l.in_array l.text ≡ true = (and_parts (is_within_depth l) _ k.sound).1 in
    has-line s t u l (suc (length t.classes.items)) _ e.lines g
    (ap (λ x. x ∷ []) (line-is (suc (length t.classes.items)) l.in_array l kind.Class [] deep is (empty-text l.text (sym (ap (λ (j : Kind). may_be_text j l.in_array l.text) is) ∙ said))))
    (ap (λ (j : Kind). deepest ((let x : Line = record { depth = l.depth; name = l.name; in_array = l.in_array; kind = j; text = l.text } in x) ∷ [])) is ∙ ap suc (sym deep))

-- a plain line
pub has-plain : (s t u : Spine) (l : Line) (c : Content) (b : Body) → may_come (back (lines_of s)) l ≡ true → l.kind ≡ kind_of c → l.text ≡ text_of c → b ≡ says c →
    Extends s [] (l.depth - 1) t → Extends t (lines (suc (length t.classes.items)) (in_front l.name (place_of l.in_array 0) b end)) (length t.classes.items) u → HasLine s l u
has-plain s t u l c b fits is said held e g =
    let k = came (back (lines_of s)) l fits in
    let deep : suc (length t.classes.items) ≡ l.depth = ap suc e.depth ∙ omega (arith, k.positive) in
    has-line s t u l (length t.classes.items) _ e.lines g
    (ap (λ x. lines (suc (length t.classes.items)) (in_front l.name (place_of l.in_array 0) x end)) held
    ∙ ap (λ x. x ∷ []) (line-is (suc (length t.classes.items)) l.in_array l (kind_of c) (text_of c) deep is said))
    (ap (λ (j : Kind). deepest ((let x : Line = record { depth = l.depth; name = l.name; in_array = l.in_array; kind = j; text = l.text } in x) ∷ [])) is ∙ no-class c ∙ sym deep)
  where
    no-class : (b : Content) → deepest ((let x : Line = record { depth = l.depth; name = l.name; in_array = l.in_array; kind = kind_of b; text = l.text } in x) ∷ []) ≡ l.depth
    no-class (text s) = refl
    no-class (value s) = refl

-- ---- the whole

none-left : (xs : List Open) → length xs ≡ 0 → xs ≡ []
none-left xs h = grind (arith, common_steps)

-- if no class is open, the lines are those of the root
pub finished : (s t : Spine) → Extends s [] 0 t → lines 1 (forest t.root) ≡ lines_of s
finished s t e = sym (ap (lines_down 1 (forest t.root)) (none-left t.classes.items e.depth)) ∙ e.lines ∙ append-nil (lines_of s)

pub finished-sound : (s t : Spine) → Extends s [] 0 t → is_outline (lines_of s) ≡ true → IsSound (forest t.root)
finished-sound s t e h = grind (arith, finished, forest-members, outline-sound)

pub finished-filled : (s t : Spine) → Extends s [] 0 t → IsFilled t.root
finished-filled s t e = object-filled t.root e.grown.root.filled
