-- The state after the lines of a tree, one at a time, says whether its classes keep the marking rule.
use Rattle.std.proofs.Common.{◌≡◌, ℕ, suc, ◌-◌, Bool, true, false, not, ◌&&◌, ◌||◌, List, [], ◌∷◌, ◌++◌, length, take, drop, append-nil, append_assoc, refl}
use Rattle.std.{proofs.Common.{sym, ◌∙◌, ap, arith, if◌then◌else◌}, specs.{List.list_all, Option.option_or, Prelude.{Option, Some, None, option_map, is_some}}}
use Rattle.{std.specs.{Prelude.codes, Str.bytes_eq}, iodef_tree.specs.{Laws.IsDocument, Outline.is_outline, Paths.located, Text.{Bytes, Tokens}, Tree.Leaf}}
use Rattle.iodef_tree.specs.{Tree.{Content, text, value, Forest, end, leaf, branch, steps, leaf_line, class_line, lines}, declared.line.Line.Line}
use Rattle.marking.{proofs.Bad.{first_bad, no_class-kind}, specs.Label.{public, white, partner, green, need_to_know, amber, private, red, by_arrangement}}
use Rattle.marking.specs.{Label.{extended, spelled}, Marks.{Held, absent, one_text, other, is_rule_kept, first_bad_marking}, Members.{held_by_leaf, held_in}}
use Rattle.{marking.specs.{Members.is_rule_kept_in, inner.Pass.bad_below}, redact.{proofs.Grown.outline-document, specs.Marked.{brief_text, brief}}}
use Rattle.redact.specs.Marked.{extension_brief, first_restriction, first_extension, no_marking, held_with, are_fine, is_fine, Markings, none_noted}
use Rattle.redact.specs.Marked.{innermost_held_with, with_opened_marking, with_marked_line, with_marked_lines, is_accepted}
use Rattle.redact.specs.declared.marks.{Extension.Extension, Marking.Marking, Restriction.Restriction}
use Rattle.redact.specs.declared.marks.Restriction.TheVariants as restriction
use Rattle.redact.specs.declared.marks.Extension.TheVariants as extension

-- ---- what one class holds

abbrev brief_held : Held → Restriction
brief_held absent = restriction.Absent
brief_held (one_text t) = brief_text t
brief_held other = restriction.Other

abbrev extension_held : Held → Extension
extension_held absent = extension.Absent
extension_held (one_text t) = extension.Text
extension_held other = extension.Other

-- whether a text spells a label beside another text doesn't depend on that text
beside : (t e : Bytes) → is_some (spelled t (Some e)) ≡ is_some (spelled t (Some []))
beside t e =
    by_text (bytes_eq t (codes "public")) (bytes_eq t (codes "white")) (bytes_eq t (codes "partner")) (bytes_eq t (codes "green")) (bytes_eq t (codes "need-to-know"))
    (bytes_eq t (codes "amber")) (bytes_eq t (codes "private")) (bytes_eq t (codes "red")) (bytes_eq t (codes "default")) (bytes_eq t (codes "ext-value"))
  where
    chain : Option Bytes → (a b c d f g h i j k : Bool) → Bool
    chain ext a b c d f g h i j k =
        is_some (if a then Some public else if b then Some white else if c then Some partner else if d then Some green else if f then Some need_to_know
        else if g then Some amber else if h then Some private else if i then Some red else if j then Some by_arrangement else if k then option_map extended ext else None)

    by_text : (a b c d f g h i j k : Bool) → chain (Some e) a b c d f g h i j k ≡ chain (Some []) a b c d f g h i j k
    by_text true b c d f g h i j k = refl
    by_text false true c d f g h i j k = refl
    by_text false false true d f g h i j k = refl
    by_text false false false true f g h i j k = refl
    by_text false false false false true g h i j k = refl
    by_text false false false false false true h i j k = refl
    by_text false false false false false false true i j k = refl
    by_text false false false false false false false true j k = refl
    by_text false false false false false false false false true k = refl
    by_text false false false false false false false false false true = refl
    by_text false false false false false false false false false false = refl

alone-beside : (t : Bytes) → is_some (spelled t None) ≡ true → is_some (spelled t (Some [])) ≡ true
alone-beside t h =
    by_text (bytes_eq t (codes "public")) (bytes_eq t (codes "white")) (bytes_eq t (codes "partner")) (bytes_eq t (codes "green")) (bytes_eq t (codes "need-to-know"))
    (bytes_eq t (codes "amber")) (bytes_eq t (codes "private")) (bytes_eq t (codes "red")) (bytes_eq t (codes "default")) (bytes_eq t (codes "ext-value")) h
  where
    chain : Option Bytes → (a b c d f g h i j k : Bool) → Bool
    chain ext a b c d f g h i j k =
        is_some (if a then Some public else if b then Some white else if c then Some partner else if d then Some green else if f then Some need_to_know
        else if g then Some amber else if h then Some private else if i then Some red else if j then Some by_arrangement else if k then option_map extended ext else None)

    by_text : (a b c d f g h i j k : Bool) → chain None a b c d f g h i j k ≡ true → chain (Some []) a b c d f g h i j k ≡ true
    by_text true b c d f g h i j k e = refl
    by_text false true c d f g h i j k e = refl
    by_text false false true d f g h i j k e = refl
    by_text false false false true f g h i j k e = refl
    by_text false false false false true g h i j k e = refl
    by_text false false false false false true h i j k e = refl
    by_text false false false false false false true i j k e = refl
    by_text false false false false false false false true j k e = refl
    by_text false false false false false false false false true k e = refl
    by_text false false false false false false false false false true e = refl
    by_text false false false false false false false false false false e = e

-- the marking rule, by what is kept of a class
rule-noted : (r e : Held) → are_fine (brief_held r) (extension_held e) ≡ is_rule_kept r e
rule-noted absent absent = refl
rule-noted absent (one_text e) = refl
rule-noted absent other = refl
rule-noted (one_text t) absent = by_text (is_some (spelled t None)) (is_some (spelled t (Some [])))
  where
    by_text : (a b : Bool) → are_fine (if a then restriction.Label else if b then restriction.Extended else restriction.Other) extension.Absent ≡ a
    by_text true b = refl
    by_text false true = refl
    by_text false false = refl
rule-noted (one_text t) (one_text e) = by_text (is_some (spelled t None)) (is_some (spelled t (Some []))) (alone-beside t) ∙ sym (beside t e)
  where
    by_text : (a b : Bool) → (a ≡ true → b ≡ true) → are_fine (if a then restriction.Label else if b then restriction.Extended else restriction.Other) extension.Text ≡ b
    by_text true b h = sym (h refl)
    by_text false true h = refl
    by_text false false h = refl
rule-noted (one_text t) other = by_text (is_some (spelled t None)) (is_some (spelled t (Some [])))
  where
    by_text : (a b : Bool) → are_fine (if a then restriction.Label else if b then restriction.Extended else restriction.Other) extension.Other ≡ false
    by_text true b = refl
    by_text false true = refl
    by_text false false = refl
rule-noted other absent = refl
rule-noted other (one_text e) = refl
rule-noted other other = refl

-- the members of a class, one after another
abbrev held_all : ℕ → Forest → Marking → Marking
held_all d end m = m
held_all d (leaf i rest) m = held_all d rest (held_with (leaf_line d i) m)
held_all d (branch name place kids rest) m = held_all d rest (held_with (class_line d name place) m)

first-absent : (r : Restriction) → first_restriction r restriction.Absent ≡ r
first-absent restriction.Absent = refl
first-absent restriction.Label = refl
first-absent restriction.Extended = refl
first-absent restriction.Other = refl

first-none : (e : Extension) → first_extension e extension.Absent ≡ e
first-none extension.Absent = refl
first-none extension.Text = refl
first-none extension.Other = refl

-- if nothing was there before, the first counts
first-said : (r x : Restriction) (a b : Bool) →
    (let t = (if a then restriction.Label else if b then restriction.Extended else restriction.Other) in first_restriction (first_restriction r t) x ≡ first_restriction r t)
first-said restriction.Absent x true b = refl
first-said restriction.Absent x false true = refl
first-said restriction.Absent x false false = refl
first-said restriction.Label x a b = refl
first-said restriction.Extended x a b = refl
first-said restriction.Other x a b = refl

first-other : (r x : Restriction) → first_restriction (first_restriction r restriction.Other) x ≡ first_restriction r restriction.Other
first-other r x = first-said r x false false

first-text : (e x : Extension) → first_extension (first_extension e extension.Text) x ≡ first_extension e extension.Text
first-text extension.Absent x = refl
first-text extension.Text x = refl
first-text extension.Other x = refl

first-else : (e x : Extension) → first_extension (first_extension e extension.Other) x ≡ first_extension e extension.Other
first-else extension.Absent x = refl
first-else extension.Text x = refl
first-else extension.Other x = refl

leaf-says : (d : ℕ) (name : Bytes) (o : Option ℕ) (c : Content) (r x : Restriction) →
    (let i : Leaf = record { name = name; place = o; content = c } in first_restriction (first_restriction r (brief (leaf_line d i))) x ≡ first_restriction r (brief_held (held_by_leaf i)))
leaf-says d name (Some k) c r x = first-other r x
leaf-says d name None (text t) r x = first-said r x (is_some (spelled t None)) (is_some (spelled t (Some [])))
leaf-says d name None (value t) r x = first-other r x

leaf-extends : (d : ℕ) (name : Bytes) (o : Option ℕ) (c : Content) (e x : Extension) →
    (let i : Leaf = record { name = name; place = o; content = c } in first_extension (first_extension e (extension_brief (leaf_line d i))) x ≡ first_extension e (extension_held (held_by_leaf i)))
leaf-extends d name (Some k) c e x = first-else e x
leaf-extends d name None (text t) e x = first-text e x
leaf-extends d name None (value t) e x = first-else e x

class-says : (d : ℕ) (name : Bytes) (o : Option ℕ) (r x : Restriction) → first_restriction (first_restriction r (brief (class_line d name o))) x ≡ first_restriction r restriction.Other
class-says d name (Some k) r x = first-other r x
class-says d name None r x = first-other r x

class-extends : (d : ℕ) (name : Bytes) (o : Option ℕ) (e x : Extension) → first_extension (first_extension e (extension_brief (class_line d name o))) x ≡ first_extension e extension.Other
class-extends d name (Some k) e x = first-else e x
class-extends d name None e x = first-else e x

restriction-all : (d : ℕ) (f : Forest) (m : Marking) → (held_all d f m).restriction ≡ first_restriction m.restriction (brief_held (held_in (codes "restriction") f))
restriction-all d end m = sym (first-absent m.restriction)
restriction-all d (leaf i rest) m = restriction-all d rest (held_with (leaf_line d i) m) ∙ by_name (bytes_eq i.name (codes "restriction"))
  where
    by_name : (t : Bool) → first_restriction (if t then first_restriction m.restriction (brief (leaf_line d i)) else m.restriction) (brief_held (held_in (codes "restriction") rest))
        ≡ first_restriction m.restriction (brief_held (if t then held_by_leaf i else held_in (codes "restriction") rest))
    by_name true = leaf-says d i.name i.place i.content m.restriction (brief_held (held_in (codes "restriction") rest))
    by_name false = refl
restriction-all d (branch n o kids rest) m = restriction-all d rest (held_with (class_line d n o) m) ∙ by_name (bytes_eq n (codes "restriction"))
  where
    by_name : (t : Bool) → first_restriction (if t then first_restriction m.restriction (brief (class_line d n o)) else m.restriction) (brief_held (held_in (codes "restriction") rest))
        ≡ first_restriction m.restriction (brief_held (if t then other else held_in (codes "restriction") rest))
    by_name true = class-says d n o m.restriction (brief_held (held_in (codes "restriction") rest))
    by_name false = refl

extension-all : (d : ℕ) (f : Forest) (m : Marking) → (held_all d f m).extension ≡ first_extension m.extension (extension_held (held_in (codes "ext-restriction") f))
extension-all d end m = sym (first-none m.extension)
extension-all d (leaf i rest) m = extension-all d rest (held_with (leaf_line d i) m) ∙ by_name (bytes_eq i.name (codes "ext-restriction"))
  where
    by_name : (t : Bool) → first_extension (if t then first_extension m.extension (extension_brief (leaf_line d i)) else m.extension) (extension_held (held_in (codes "ext-restriction") rest))
        ≡ first_extension m.extension (extension_held (if t then held_by_leaf i else held_in (codes "ext-restriction") rest))
    by_name true = leaf-extends d i.name i.place i.content m.extension (extension_held (held_in (codes "ext-restriction") rest))
    by_name false = refl
extension-all d (branch n o kids rest) m = extension-all d rest (held_with (class_line d n o) m) ∙ by_name (bytes_eq n (codes "ext-restriction"))
  where
    by_name : (t : Bool) → first_extension (if t then first_extension m.extension (extension_brief (class_line d n o)) else m.extension) (extension_held (held_in (codes "ext-restriction") rest))
        ≡ first_extension m.extension (extension_held (if t then other else held_in (codes "ext-restriction") rest))
    by_name true = class-extends d n o m.extension (extension_held (held_in (codes "ext-restriction") rest))
    by_name false = refl

fine-all : (d : ℕ) (f : Forest) → is_fine (held_all d f no_marking) ≡ is_rule_kept_in f
fine-all d f =
    ap (λ r. are_fine r (held_all d f no_marking).extension) (restriction-all d f no_marking)
    ∙ ap (are_fine (brief_held (held_in (codes "restriction") f))) (extension-all d f no_marking)
    ∙ rule-noted (held_in (codes "restriction") f) (held_in (codes "ext-restriction") f)

-- ---- the open classes

take-front : (P Q : List Marking) → take (length P) (P ++ Q) ≡ P
take-front [] Q = refl
take-front (x ∷ P) Q = ap (λ xs. x ∷ xs) (take-front P Q)

drop-front : (P Q : List Marking) → drop (length P) (P ++ Q) ≡ Q
drop-front [] Q = refl
drop-front (x ∷ P) Q = drop-front P Q

one-longer : (P : List Marking) (x : Marking) → length (P ++ x ∷ []) ≡ suc (length P)
one-longer [] x = refl
one-longer (y ∷ P) x = ap suc (one-longer P x)

same-length : (l : Line) (P : List Marking) → length (innermost_held_with l P) ≡ length P
same-length l [] = refl
same-length l (x ∷ []) = refl
same-length l (x ∷ y ∷ P) = ap suc (same-length l (y ∷ P))

holding-last : (l : Line) (H : List Marking) (x : Marking) → innermost_held_with l (H ++ x ∷ []) ≡ H ++ held_with l x ∷ []
holding-last l [] x = refl
holding-last l (y ∷ []) x = refl
holding-last l (y ∷ z ∷ H) x = ap (λ xs. y ∷ xs) (holding-last l (z ∷ H) x)

-- the innermost holds the members, one after another
abbrev holding_all : ℕ → Forest → List Marking → List Marking
holding_all d end P = P
holding_all d (leaf i rest) P = holding_all d rest (innermost_held_with (leaf_line d i) P)
holding_all d (branch n o kids rest) P = holding_all d rest (innermost_held_with (class_line d n o) P)

all-last : (d : ℕ) (f : Forest) (H : List Marking) (x : Marking) → holding_all d f (H ++ x ∷ []) ≡ H ++ held_all d f x ∷ []
all-last d end H x = refl
all-last d (leaf i rest) H x = ap (holding_all d rest) (holding-last (leaf_line d i) H x) ∙ all-last d rest H (held_with (leaf_line d i) x)
all-last d (branch n o kids rest) H x = ap (holding_all d rest) (holding-last (class_line d n o) H x) ∙ all-last d rest H (held_with (class_line d n o) x)

none-held : (d : ℕ) (f : Forest) → holding_all d f [] ≡ []
none-held d end = refl
none-held d (leaf i rest) = none-held d rest
none-held d (branch n o kids rest) = none-held d rest

-- ---- all classes

abbrev is_bad : Forest → Bool
is_bad f = is_some (bad_below f)

noted-append : (xs ys : List Line) (m : Markings) → with_marked_lines m (xs ++ ys) ≡ with_marked_lines (with_marked_lines m xs) ys
noted-append [] ys m = refl
noted-append (x ∷ xs) ys m = noted-append xs ys (with_marked_line m x)

-- a line one deeper than some open classes closes those behind them
closes : (n : ℕ) (P Q : List Marking) (b : Bool) (l : Line) → length P ≡ n → l.depth ≡ suc n →
    with_marked_line (record { classes = P ++ Q; broken = b }) l ≡ record { classes = with_opened_marking l (innermost_held_with l P); broken = b || not (list_all is_fine Q) }
closes n P Q b l h deep =
    let k : l.depth - 1 ≡ n = omega (arith, deep) in
    let front : take (l.depth - 1) (P ++ Q) ≡ P = ap (λ j. take j (P ++ Q)) (k ∙ sym h) ∙ take-front P Q in
    let back : drop (l.depth - 1) (P ++ Q) ≡ Q = ap (λ j. drop j (P ++ Q)) (k ∙ sym h) ∙ drop-front P Q in
    λ i. record { classes = with_opened_marking l (innermost_held_with l (front i)); broken = b || not (list_all is_fine (back i)) }

bad-branch : (n : Bytes) (o : Option ℕ) (kids rest : Forest) → is_bad (branch n o kids rest) ≡ ((not (is_rule_kept_in kids) || is_bad kids) || is_bad rest)
bad-branch n o kids rest = by_value (is_rule_kept_in kids) (bad_below kids) (bad_below rest)
  where
    by_value : (b : Bool) (k r : Option Tokens) → is_some (option_or (option_map (λ t. steps n o ++ t) (if b then k else Some [])) r) ≡ ((not b || is_some k) || is_some r)
    by_value true None r = refl
    by_value true (Some t) r = refl
    by_value false k r = refl

or-false : (b : Bool) → (b || false) ≡ b
or-false true = refl
or-false false = refl

-- the state at the end of the members
record Ends (m : Markings) (P : List Marking) (bad : Bool) : Type 0 where
  behind : List Marking
  broken : Bool
  is : m ≡ record { classes = P ++ behind; broken = broken }
  says : (broken || not (list_all is_fine behind)) ≡ bad

joined : (b2 a1 fy b1 kb kept rest : Bool) → (b2 || not a1) ≡ ((b1 || false) || kb) → fy ≡ kept → ((b2 || not (fy && a1)) || rest) ≡ (b1 || ((not kept || kb) || rest))
joined b2 a1 fy b1 kb kept rest h k = grind (arith, h, k)

run : (f : Forest) (n : ℕ) (P Q : List Marking) (b : Bool) → length P ≡ n →
    Ends (with_marked_lines (record { classes = P ++ Q; broken = b }) (lines (suc n) f)) (holding_all (suc n) f P) ((b || not (list_all is_fine Q)) || is_bad f)
run end n P Q b h = record { behind = Q; broken = b; is = refl; says = sym (or-false (b || not (list_all is_fine Q))) }
run (leaf i rest) n P Q b h =
    let l = leaf_line (suc n) i in
    let b1 = b || not (list_all is_fine Q) in
    let next : with_marked_line (record { classes = P ++ Q; broken = b }) l ≡ record { classes = innermost_held_with l P ++ []; broken = b1 } =
    closes n P Q b l h refl ∙ ap (λ (xs : List Marking). record { classes = xs; broken = b1 }) (ap (λ t. if t then innermost_held_with l P ++ no_marking ∷ [] else innermost_held_with l P) (no_class-kind i.content) ∙ sym (append-nil (innermost_held_with l P))) in
    let later = run rest n (innermost_held_with l P) [] b1 (same-length l P ∙ h) in
    record {
      behind = later.behind;
      broken = later.broken;
      is = ap (λ (m : Markings). with_marked_lines m (lines (suc n) rest)) next ∙ later.is;
      says = later.says ∙ ap (λ t. t || is_bad rest) (or-false b1);
    }
run (branch name o kids rest) n P Q b h =
    let l = class_line (suc n) name o in
    let b1 = b || not (list_all is_fine Q) in
    let H = innermost_held_with l P in
    let long : length H ≡ n = same-length l P ∙ h in
    let next : with_marked_line (record { classes = P ++ Q; broken = b }) l ≡ record { classes = (H ++ no_marking ∷ []) ++ []; broken = b1 } =
    closes n P Q b l h refl ∙ ap (λ (xs : List Marking). record { classes = xs; broken = b1 }) (sym (append-nil (H ++ no_marking ∷ []))) in
    let inner = run kids (suc n) (H ++ no_marking ∷ []) [] b1 (one-longer H no_marking ∙ ap suc long) in
    let y = held_all (suc (suc n)) kids no_marking in
    let left : with_marked_lines (record { classes = P ++ Q; broken = b }) (l ∷ lines (suc (suc n)) kids) ≡ record { classes = H ++ y ∷ inner.behind; broken = inner.broken } =
    ap (λ (m : Markings). with_marked_lines m (lines (suc (suc n)) kids)) next ∙ inner.is
    ∙ ap (λ (xs : List Marking). record { classes = xs; broken = inner.broken }) (ap (λ xs. xs ++ inner.behind) (all-last (suc (suc n)) kids H no_marking) ∙ append_assoc H (y ∷ []) inner.behind) in
    let later = run rest n H (y ∷ inner.behind) inner.broken long in
    record {
      behind = later.behind;
      broken = later.broken;
      is = noted-append (l ∷ lines (suc (suc n)) kids) (lines (suc n) rest) (record { classes = P ++ Q; broken = b }) ∙ ap (λ (m : Markings). with_marked_lines m (lines (suc n) rest)) left ∙ later.is;
      says = later.says
          ∙ joined inner.broken (list_all is_fine inner.behind) (is_fine y) b1 (is_bad kids) (is_rule_kept_in kids) (is_bad rest) inner.says (fine-all (suc (suc n)) kids)
          ∙ ap (λ t. b1 || t) (sym (bad-branch name o kids rest));
    }

accepted-says : (m : Markings) (P : List Marking) (bad : Bool) → P ≡ [] → Ends m P bad → is_accepted m ≡ not bad
accepted-says m P bad none e =
    ap is_accepted (e.is ∙ ap (λ (xs : List Marking). record { classes = xs ++ e.behind; broken = e.broken }) none)
    ∙ by_value e.broken (list_all is_fine e.behind) ∙ ap not e.says
  where
    by_value : (b a : Bool) → (not b && a) ≡ not (b || not a)
    by_value true a = refl
    by_value false true = refl
    by_value false false = refl

-- The state after all lines of a document says that all its classes keep the marking rule.
pub accepted-is : (ls : List Line) → IsDocument ls → is_accepted (with_marked_lines none_noted ls) ≡ not (is_some (first_bad_marking (located ls)))
accepted-is ls d =
    ap (λ xs. is_accepted (with_marked_lines none_noted xs)) d.2
    ∙ accepted-says (with_marked_lines none_noted (lines 1 d.0)) (holding_all 1 d.0 []) (is_bad d.0) (none-held 1 d.0) (run d.0 0 [] [] false refl)
    ∙ ap (λ o. not (is_some o)) (sym (first_bad d.0 d.1) ∙ ap (λ xs. first_bad_marking (located xs)) (sym d.2))

-- the same of lines that are an outline
pub accepted-outline : (ls : List Line) → is_outline ls ≡ true → is_accepted (with_marked_lines none_noted ls) ≡ not (is_some (first_bad_marking (located ls)))
accepted-outline ls h = accepted-is ls (outline-document ls h)
