-- The fold over a tree gives its members.
use Rattle.std.proofs.Common.{◌≡◌, ℕ, zero, suc, Bool, true, false, [], refl, sym, ◌∙◌, ap, arith, if◌then◌else◌, ◌==◌, Option, Some, None, is_some, bytes_eq}
use Rattle.{std.proofs.lemmas.Bool.{cond-true, cond-false, and_parts, false≢true}, serde_json.specs.Data.Data, json_pointer.specs.Text.Bytes}
use Rattle.iodef_tree.{proofs.Order.{bytes_lt-ne, bytes_eq-refl, bytes_eq-true}, specs.Json.{content_data, element_front, json_front, json_of}}
use Rattle.iodef_tree.specs.{Sound.{SiblingPlace, may_stand, may_stand_behind, IsOrderedBehind}, Tree.{Forest, end, leaf, branch}, inner.Written.is_later_place}
use Rattle.iodef_tree.specs.inner.Written.{goes_on, placed_member, placed_item, members_of, items_of}
use Rattle.serde_json.specs.Data as json

abbrev pub is_element : Option SiblingPlace → Bool
is_element None = false
is_element (Some s) = is_some s.1

-- no array goes on at the beginning, or behind a line that is no element
pub starts : (o : Option SiblingPlace) (f : Forest) → is_element o ≡ false → IsOrderedBehind o f → goes_on f ≡ false
starts o f e h = grind arith

pub alone-behind : (n : Bytes) (p : Option ℕ) (rest : Forest) → IsOrderedBehind (Some (n, p)) rest → p ≡ None → goes_on rest ≡ false
alone-behind n p rest h e = grind arith

-- ---- an element in front

-- members in front of which the elements of an array are, if any go on
abbrev shown : Bool → Bytes → json.Items → json.Members → json.Members
shown goes name ds ms = if goes then json.member name (json.array ds) ms else ms

abbrev name_of : Option SiblingPlace → Bytes
name_of None = []
name_of (Some s) = s.0

-- an element begins an array in front of a member of another name
apart : (n m : Bytes) (D E : Data) (ms : json.Members) → bytes_eq n m ≡ false → element_front n D (json.member m E ms) ≡ json.member n (json.array (json.item D json.no_items)) (json.member m E ms)
apart n m D json.null ms h = refl
apart n m D (json.boolean b) ms h = refl
apart n m D (json.number x) ms h = refl
apart n m D (json.string s) ms h = refl
apart n m D (json.array ds) ms h = cond-false (bytes_eq n m) _ _ h
apart n m D (json.object os) ms h = refl

joins : (n : Bytes) (D : Data) (ds : json.Items) (ms : json.Members) → element_front n D (json.member n (json.array ds) ms) ≡ json.member n (json.array (json.item D ds)) ms
joins n D ds ms = cond-true (bytes_eq n n) _ _ (bytes_eq-refl n)

-- in front of one thing more
front-one : (n : Bytes) (k : ℕ) (D : Data) (m : Bytes) (q : Option ℕ) (E : Data) (ds : json.Items) (ms : json.Members) → may_stand_behind (n, Some k) m q ≡ true →
    element_front n D (shown (is_later_place q) n (placed_item q E ds) (placed_member m q E ds ms)) ≡ json.member n (json.array (json.item D (placed_item q E ds))) (placed_member m q E ds ms)
front-one n k D m None E ds ms h = apart n m D E ms (bytes_lt-ne n m h)
front-one n k D m (Some zero) E ds ms h = apart n m D (json.array (json.item E ds)) ms (bytes_lt-ne n m h)
front-one n k D m (Some (suc j)) E ds ms h = joins n D (json.item E ds) ms

front-is : (n : Bytes) (k : ℕ) (D : Data) (f : Forest) → IsOrderedBehind (Some (n, Some k)) f →
    element_front n D (shown (goes_on f) n (items_of f) (members_of f)) ≡ json.member n (json.array (json.item D (items_of f))) (members_of f)
front-is n k D end h = refl
front-is n k D (leaf i rest) h = front-one n k D i.name i.place (content_data i.content) (items_of rest) (members_of rest) h.0
front-is n k D (branch m q kids rest) h = front-one n k D m q (json.object (members_of kids)) (items_of rest) (members_of rest) h.0

-- ---- the fold

one-json : (o : Option SiblingPlace) (n : Bytes) (p : Option ℕ) (D : Data) (rest : Forest) → may_stand o n p ≡ true → IsOrderedBehind (Some (n, p)) rest →
    json_of rest ≡ shown (goes_on rest) n (items_of rest) (members_of rest) →
    json_front n p D (json_of rest) ≡ shown (is_later_place p) (name_of o) (placed_item p D (items_of rest)) (placed_member n p D (items_of rest) (members_of rest))
one-json o n None D rest h ordered is =
    ap (json.member n D) (is ∙ cond-false (goes_on rest) _ _ (alone-behind n None rest ordered refl))
one-json o n (Some zero) D rest h ordered is = ap (element_front n D) is ∙ front-is n zero D rest ordered
one-json None n (Some (suc k)) D rest h ordered is = absurd (false≢true h)
one-json (Some (m, None)) n (Some (suc k)) D rest h ordered is = absurd (false≢true h)
one-json (Some (m, Some j)) n (Some (suc k)) D rest h ordered is =
    let name : m ≡ n = bytes_eq-true m n (and_parts (bytes_eq m n) (j == k) h).0 in
    ap (element_front n D) is ∙ front-is n (suc k) D rest ordered ∙ sym (ap (λ x. json.member x (json.array (json.item D (items_of rest))) (members_of rest)) name)

json-is : (f : Forest) (o : Option SiblingPlace) → IsOrderedBehind o f → json_of f ≡ shown (goes_on f) (name_of o) (items_of f) (members_of f)
json-is end o h = refl
json-is (leaf i rest) o h =
    one-json o i.name i.place (content_data i.content) rest h.0 h.1 (json-is rest (Some (i.name, i.place)) h.1)
json-is (branch n p kids rest) o h =
    let inside : json_of kids ≡ members_of kids = json-is kids None h.1 ∙ cond-false (goes_on kids) _ _ (starts None kids refl h.1) in
    ap (λ ms. json_front n p (json.object ms) (json_of rest)) inside
    ∙ one-json o n p (json.object (members_of kids)) rest h.0 h.2 (json-is rest (Some (n, p)) h.2)

pub json-ordered : (f : Forest) → IsOrderedBehind None f → json_of f ≡ members_of f
json-ordered f h = json-is f None h ∙ cond-false (goes_on f) _ _ (starts None f refl h)
