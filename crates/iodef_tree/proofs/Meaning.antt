-- The text of a tree is that of the JSON object that its lines mean.
use Rattle.std.proofs.Common.{◌≡◌, ℕ, zero, suc, ◌<◌, Bool, true, false, ◌&&◌, List, [], ◌∷◌, ◌++◌, refl, sym, ◌∙◌, ap, append_assoc, append-nil, arith}
use Rattle.std.proofs.{Common.{if◌then◌else◌, true≢false, Option, Some, None, is_some, unwrap_or, bytes_eq}, lemmas.Bool.{cond-true, cond-false, and_parts}}
use Rattle.{std.{proofs.lemmas.{Bool.and_right, Slice.Eq.bytes_eq-Decides}, specs.Option.option_map_or}, json.specs.Print.quoted, serde_json.specs.Data.Data}
use Rattle.{serde_json.specs.Written.{comma_if, compact_text, items_text, members_text}, json_pointer.specs.Text.Bytes, iodef_tree.proofs.JsonOf.json-ordered}
use Rattle.iodef_tree.proofs.{JsonOf.{starts, alone-behind}, Order.bytes_lt-ne, Outlines.{above-line, at-line, past-line}, Sounds.as_sibling, TreeBack.skip}
use Rattle.iodef_tree.{proofs.{TreeBack.{Stops, stops-below, tree-ordered}, Writing.named-front}, specs.Json.{content_data, json_of, data_of}}
use Rattle.iodef_tree.specs.{Outline.sibling, Sound.{SiblingPlace, may_stand, IsOrderedBehind, IsSound}, Texts.{may_be_value, may_be_text, HasTexts}}
use Rattle.iodef_tree.specs.{Tree.{Content, Forest, end, leaf, branch, kind_of, text_of, leaf_line, class_line, lines}, declared.line.Line.Line}
use Rattle.iodef_tree.specs.{declared.shape.Sibling.Sibling, inner.{FlatJson.{continues, datum, members_from, items_from, flat_data}, Written.content_text}}
use Rattle.iodef_tree.specs.inner.Written.{front_text, is_later_place, goes_on, close_text, written, placed_member, placed_item, members_of, items_of}
use Rattle.serde_json.specs.Data as json

-- ---- the text of the value that a tree is

value-text : (a : Bool) (s : Bytes) (o : Option Data) → option_map_or (λ d. may_be_value a d && bytes_eq (compact_text d) s) o false ≡ true → compact_text (unwrap_or o json.null) ≡ s
value-text a s o h = grind (arith, and_parts, bytes_eq-Decides)

content-means : (a : Bool) (c : Content) → may_be_text (kind_of c) a (text_of c) ≡ true → content_text c ≡ compact_text (content_data c)
content-means a c h = grind (arith, value-text)

-- The text of a tree is that of its members, or goes on with the elements of an array.
record Means (w : Bool → Bytes) (goes : Bool) (close : Bytes) (ds : json.Items) (ms : json.Members) : Type 0 where
  pub members : (later : Bool) → goes ≡ false → w later ++ 125 ∷ [] ≡ members_text later ms
  pub items : close ++ (w true ++ 125 ∷ []) ≡ items_text true ds ++ members_text true ms

inner : (a t c w e : Bytes) → (a ++ (t ++ (c ++ w))) ++ e ≡ a ++ (t ++ (c ++ (w ++ e)))
inner a t c w e =
    append_assoc a (t ++ (c ++ w)) e ∙ ap (λ x. a ++ x) (append_assoc t (c ++ w) e ∙ ap (λ x. t ++ x) (append_assoc c w e))

abbrev closing : Bool → Bytes
closing goes = if goes then [] else 93 ∷ []

-- one thing in front
in_front-means : (n : Bytes) (p : Option ℕ) (t : Bytes) (d : Data) (rest : Forest) → t ≡ compact_text d → (p ≡ None → goes_on rest ≡ false) →
    Means (λ later. written later rest) (goes_on rest) (closing (goes_on rest)) (items_of rest) (members_of rest) →
    Means (λ later. front_text later n p ++ (t ++ (close_text p rest ++ written true rest))) (is_later_place p) (closing (is_later_place p)) (placed_item p d (items_of rest)) (placed_member n p d (items_of rest) (members_of rest))
in_front-means n None t d rest is alone k =
    let said = λ (later : Bool).
    inner (comma_if later ++ (quoted n ++ 58 ∷ [])) t [] (written true rest) (125 ∷ [])
    ∙ named-front later n [] (t ++ (written true rest ++ 125 ∷ []))
    ∙ ap (λ x. comma_if later ++ (quoted n ++ 58 ∷ (t ++ x))) (k.members true (alone refl))
    ∙ ap (λ x. comma_if later ++ (quoted n ++ 58 ∷ (x ++ members_text true (members_of rest)))) is in
    record { members = λ later h. said later; items = ap (λ x. 93 ∷ x) (said true) }
in_front-means n (Some zero) t d rest is alone k =
    let said = λ (later : Bool).
    inner (comma_if later ++ (quoted n ++ 58 ∷ 91 ∷ [])) t (closing (goes_on rest)) (written true rest) (125 ∷ [])
    ∙ named-front later n (91 ∷ []) (t ++ (closing (goes_on rest) ++ (written true rest ++ 125 ∷ [])))
    ∙ ap (λ x. comma_if later ++ (quoted n ++ 58 ∷ 91 ∷ (t ++ x))) k.items
    ∙ ap (λ x. comma_if later ++ (quoted n ++ 58 ∷ 91 ∷ (x ++ (items_text true (items_of rest) ++ members_text true (members_of rest))))) is
    ∙ ap (λ x. comma_if later ++ (quoted n ++ 58 ∷ 91 ∷ x)) (sym (append_assoc (compact_text d) (items_text true (items_of rest)) (members_text true (members_of rest)))) in
    record { members = λ later h. said later; items = ap (λ x. 93 ∷ x) (said true) }
in_front-means n (Some (suc j)) t d rest is alone k = record {
  members = λ later h. absurd (true≢false h);
  items =
      inner (44 ∷ []) t (closing (goes_on rest)) (written true rest) (125 ∷ [])
      ∙ ap (λ x. 44 ∷ (t ++ x)) k.items
      ∙ ap (λ x. 44 ∷ (x ++ (items_text true (items_of rest) ++ members_text true (members_of rest)))) is
      ∙ ap (λ x. 44 ∷ x) (sym (append_assoc (compact_text d) (items_text true (items_of rest)) (members_text true (members_of rest))));
}

means : (f : Forest) (o : Option SiblingPlace) → IsOrderedBehind o f → HasTexts f → Means (λ later. written later f) (goes_on f) (closing (goes_on f)) (items_of f) (members_of f)
means end o h k = record { members = λ later e. refl; items = refl }
means (leaf i rest) o h k =
    in_front-means i.name i.place (content_text i.content) (content_data i.content) rest (content-means (is_some i.place) i.content k.0) (alone-behind i.name i.place rest h.1) (means rest (Some (i.name, i.place)) h.1 k.1)
means (branch n p kids rest) o h k =
    in_front-means n p (123 ∷ (written false kids ++ 125 ∷ [])) (json.object (members_of kids)) rest
    (ap (λ x. 123 ∷ x) ((means kids None h.1 k.0).members false (starts None kids refl h.1)))
    (alone-behind n p rest h.2)
    (means rest (Some (n, p)) h.2 k.1)

-- ---- the value that the lines mean

-- a line continues the array of its sibling if its place is a later one
continues-is : (o : Option SiblingPlace) (l : Line) (p : Option ℕ) → l.in_array ≡ is_some p → may_stand o l.name p ≡ true → continues (as_sibling o) l ≡ is_later_place p
continues-is o l p a h = grind (arith, and_parts, and_right, bytes_lt-ne)

-- ---- deeper lines change nothing

skip-members : (f : Forest) (n d : ℕ) (o : Option Sibling) (X : List Line) → d < n → members_from d o (lines n f ++ X) ≡ members_from d o X
skip-members f n d o X h = skip (members_from d o) d (λ l ls k. past-line l.depth d _ _ _ k) f n X h

skip-items : (f : Forest) (n d : ℕ) (o : Option Sibling) (X : List Line) → d < n → items_from d o (lines n f ++ X) ≡ items_from d o X
skip-items f n d o X h = skip (items_from d o) d (λ l ls k. past-line l.depth d _ _ _ k) f n X h

stops-members : (X : List Line) (d : ℕ) (o : Option Sibling) → Stops d X → members_from d o X ≡ json.no_members
stops-members X d o h = grind (arith, above-line)

stops-items : (X : List Line) (d : ℕ) (o : Option Sibling) → Stops d X → items_from d o X ≡ json.no_items
stops-items X d o h = grind (arith, above-line)

-- ---- line by line

choose-member : (n : Bytes) (p : Option ℕ) (c a : Bool) (D : Data) (ds : json.Items) (ms : json.Members) → c ≡ is_later_place p → a ≡ is_some p →
    (if c then ms else (if a then json.member n (json.array (json.item D ds)) ms else json.member n D ms)) ≡ placed_member n p D ds ms
choose-member n p c a D ds ms e g = grind (arith, cond-false, cond-true)

choose-item : (p : Option ℕ) (c : Bool) (D : Data) (ds : json.Items) → c ≡ is_later_place p → (if c then json.item D ds else json.no_items) ≡ placed_item p D ds
choose-item p c D ds e = grind (arith, cond-false, cond-true)

plain-datum : (c : Content) (ms : json.Members) → datum (kind_of c) (text_of c) ms ≡ content_data c
plain-datum c ms = grind arith

record Tells (d : ℕ) (o : Option SiblingPlace) (ls : List Line) (ds : json.Items) (ms : json.Members) : Type 0 where
  pub members : members_from d (as_sibling o) ls ≡ ms
  pub items : items_from d (as_sibling o) ls ≡ ds

one-tells : (d : ℕ) (o : Option SiblingPlace) (l : Line) (p : Option ℕ) (ls : List Line) (D : Data) (ds : json.Items) (ms : json.Members) → l.depth ≡ d → l.in_array ≡ is_some p →
    may_stand o l.name p ≡ true → datum l.kind l.text (members_from (suc d) None ls) ≡ D →
    members_from d (Some (sibling l)) ls ≡ ms → items_from d (Some (sibling l)) ls ≡ ds → Tells d o (l ∷ ls) (placed_item p D ds) (placed_member l.name p D ds ms)
one-tells d o l p ls D ds ms deep a fits is m i = grind (arith, at-line, choose-item, choose-member, continues-is)

tells : (f : Forest) (d : ℕ) (o : Option SiblingPlace) (X : List Line) → IsOrderedBehind o f → Stops d X → Tells d o (lines d f ++ X) (items_of f) (members_of f)
tells end d o X h k = record { members = stops-members X d (as_sibling o) k; items = stops-items X d (as_sibling o) k }
tells (leaf i rest) d o X h k =
    let r = tells rest d (Some (i.name, i.place)) X h.1 k in
    let ls = lines d rest ++ X in
    one-tells d o (leaf_line d i) i.place ls (content_data i.content) (items_of rest) (members_of rest) refl refl h.0 (plain-datum i.content (members_from (suc d) None ls)) r.members r.items
tells (branch n p kids rest) d o X h k =
    let l = class_line d n p in
    let Y = lines d rest ++ X in
    let ls = (lines (suc d) kids ++ lines d rest) ++ X in
    let joined : ls ≡ lines (suc d) kids ++ Y = append_assoc (lines (suc d) kids) (lines d rest) X in
    let inside = tells kids (suc d) None Y h.1 (stops-below rest d X k) in
    let r = tells rest d (Some (n, p)) X h.2 k in
    one-tells d o l p ls (json.object (members_of kids)) (items_of rest) (members_of rest) refl refl h.0
    (ap json.object (ap (members_from (suc d) None) joined ∙ inside.members))
    (ap (members_from d (Some (sibling l))) joined ∙ skip-members kids (suc d) d (Some (sibling l)) Y (omega arith) ∙ r.members)
    (ap (items_from d (Some (sibling l))) joined ∙ skip-items kids (suc d) d (Some (sibling l)) Y (omega arith) ∙ r.items)

flat-ordered : (f : Forest) → IsOrderedBehind None f → flat_data (lines 1 f) ≡ members_of f
flat-ordered f h = ap (members_from 1 None) (sym (append-nil (lines 1 f))) ∙ (tells f 1 None [] h tt).members

pub data-ordered : (f : Forest) → IsOrderedBehind None f → data_of (lines 1 f) ≡ members_of f
data-ordered f h = ap json_of (tree-ordered f h) ∙ json-ordered f h

pub json-flat : (f : Forest) → IsSound f → data_of (lines 1 f) ≡ flat_data (lines 1 f)
json-flat f h = data-ordered f h.ordered ∙ sym (flat-ordered f h.ordered)

pub data-is : (f : Forest) → IsSound f → data_of (lines 1 f) ≡ members_of f
data-is f h = data-ordered f h.ordered

-- the text of a document's tree is the compact JSON of the object that its lines mean
pub text-is : (f : Forest) → IsSound f → 123 ∷ (written false f ++ 125 ∷ []) ≡ compact_text (json.object (data_of (lines 1 f)))
text-is f h = grind (arith, data-is, means)
