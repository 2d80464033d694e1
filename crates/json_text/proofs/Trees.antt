-- The texts of objects and arrays, joined.
use Rattle.std.proofs.Common.{◌≡◌, ℕ, ◌+◌, ◌<◌, ◌≤◌, List, [], ◌∷◌, ◌++◌, map, Bool, true, false, cond, ◌&&◌, length, drop, get_or, refl, sym, ap, ◌∙◌}
use Rattle.{std.proofs.{Common.{append_assoc, append-nil, drop_of_length-le, arith}, lemmas.Grind.common_steps}, json.specs.Print.quoted}
use Rattle.{serde_json.specs.Written.comma_if, json_pointer.specs.declared.text.Text.Text, iodef_tree.proofs.{Filled.has_elements, Writing.write-member}}
use Rattle.iodef_tree.specs.{Tree.Bodies, View.{body, bodies, members_forest}, declared.object.{Item.Item, Member.Member}, inner.Written.{written, body_text}}
use Rattle.{iodef_tree.specs.inner.Written.{bodies_text, array_text, member_text}, json_text.proofs.Texts.{separator-begins, separator-ends}}

-- a member: its name and its value
pub member-is : (a after : Bool) (s n t : List ℕ) (held : Bodies) → s ≡ n → after ≡ false → t ≡ bodies_text held →
    (cond {A = List ℕ} (a && true) (44 ∷ []) [] ++ (quoted s ++ 58 ∷ [])) ++ (comma_if after ++ t) ≡ member_text a n held
member-is a after s n t held e fresh is =
    ap (λ x. (cond {A = List ℕ} (a && true) (44 ∷ []) [] ++ (quoted s ++ 58 ∷ [])) ++ (comma_if x ++ t)) fresh
    ∙ append_assoc (cond {A = List ℕ} (a && true) (44 ∷ []) []) (quoted s ++ 58 ∷ []) t
    ∙ ap (λ x. cond {A = List ℕ} (a && true) (44 ∷ []) [] ++ x) (append_assoc (quoted s) (58 ∷ []) t)
    ∙ ap (λ x. x ++ (quoted s ++ 58 ∷ t)) (separator-begins a)
    ∙ ap (λ x. comma_if a ++ (quoted x ++ 58 ∷ t)) e
    ∙ ap (λ x. comma_if a ++ (quoted n ++ 58 ∷ x)) is

-- one more element
element-more : (done all : List ℕ) (a : Bool) (xs : List Item) (i : ℕ) (x : Item) → i < length xs → x ≡ get_or xs i x →
    done ++ array_text a (map body (drop i xs)) ≡ all → (done ++ (comma_if a ++ body_text (body x))) ++ array_text true (map body (drop (i + 1) xs)) ≡ all
element-more done all a xs i x h is e = grind (arith, common_steps, append_assoc)

pub item-more : (done all : List ℕ) (a after : Bool) (xs : List Item) (i : ℕ) (x : Item) → i < length xs → x ≡ get_or xs i x → after ≡ true →
    done ++ array_text a (map body (drop i xs)) ≡ all → (done ++ (comma_if a ++ body_text (body x))) ++ array_text after (map body (drop (i + 1) xs)) ≡ all
item-more done all a after xs i x h is ends e =
    ap (λ y. (done ++ (comma_if a ++ body_text (body x))) ++ array_text y (map body (drop (i + 1) xs))) ends ∙ element-more done all a xs i x h is e

-- one more member
pub member-more : (done all : List ℕ) (a after : Bool) (xs : List (Text × Member)) (i : ℕ) (m : Text × Member) → i < length xs → m ≡ get_or xs i m →
    has_elements (bodies m.1) ≡ true → after ≡ true → done ++ written a (members_forest (drop i xs)) ≡ all →
    (done ++ member_text a m.0 (bodies m.1)) ++ written after (members_forest (drop (i + 1) xs)) ≡ all
member-more done all a after xs i m h is filled ends e =
    ap (λ y. (done ++ member_text a m.0 (bodies m.1)) ++ written y (members_forest (drop (i + 1) xs))) ends
    ∙ write-member done (done ++ member_text a m.0 (bodies m.1)) all a xs i m h is filled refl e

-- the closing brace behind the last member
pub object-ends : (a : Bool) (done c w : List ℕ) (xs : List (Text × Member)) (i : ℕ) → done ++ written a (members_forest (drop i xs)) ≡ (c ++ 123 ∷ []) ++ w → length xs ≤ i →
    done ++ (cond {A = List ℕ} (a && false) (44 ∷ []) [] ++ 125 ∷ []) ≡ c ++ 123 ∷ (w ++ 125 ∷ [])
object-ends a done c w xs i e end =
    ap (λ x. done ++ (x ++ 125 ∷ [])) (separator-ends a)
    ∙ ap (λ x. x ++ 125 ∷ []) (sym (append-nil done) ∙ ap (λ x. done ++ written a (members_forest x)) (sym (drop_of_length-le xs end)) ∙ e)
    ∙ append_assoc (c ++ 123 ∷ []) w (125 ∷ [])
    ∙ append_assoc c (123 ∷ []) (w ++ 125 ∷ [])
