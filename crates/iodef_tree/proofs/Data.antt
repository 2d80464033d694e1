-- A tree as data, member by member.
use Rattle.std.proofs.Common.{◌≡◌, ℕ, suc, ◌+◌, ◌<◌, Bool, true, false, List, [], ◌∷◌, map, length, drop, drop-cons, get_or, refl, sym, ◌∙◌, ap, subst, arith}
use Rattle.std.proofs.{Common.{true≢false, Greater, Option, Some, None, is_some, ◌==◌, bytes_eq}, lemmas.{Bool.and_parts, Cmp.nat_list_cmp_total}}
use Rattle.std.{proofs.lemmas.Grind.common_steps, specs.{Cmp.Lexicographic.slice_cmp, List.AllByRecursion, Ordering.{nat_cmp, ordering_reverse}}}
use Rattle.{serde_json.specs.{Data.{Data, put}, View.{view, members_view, items_of as listed}, declared.value.Value.Value}, json_pointer.specs.Text.Bytes}
use Rattle.{json_pointer.specs.{Text.bytes_lt, declared.text.Text.Text}, iodef_tree.proofs.{Filled.has_elements, FromValues.MapEntry, Members.members-next}}
use Rattle.iodef_tree.{proofs.{Order.{bytes_eq-true, bytes_lt-less, bytes_lt-trans}, Views.forest-members}, specs.{Json.content_data, Sound.SiblingPlace}}
use Rattle.iodef_tree.specs.{Sound.{may_stand, IsOrderedBehind, IsOrdered}, Tree.{Forest, end, leaf, branch, Body, Bodies, one, many, in_front, elements}}
use Rattle.iodef_tree.specs.{Tree.member_front, View.{forest, forest_of_members, bodies, named, members_forest}, declared.object.{Member.Member, Object.Object}}
use Rattle.iodef_tree.specs.inner.{FitValues.{IsBodyOrdered, AreBodiesOrdered}, Written.{placed_member, placed_item, members_of, items_of, body_data}}
use Rattle.iodef_tree.specs.inner.Written.{bodies_data, put_all}
use Rattle.serde_json.specs.Data as json

-- ---- one member in front

front-members : (n : Bytes) (p : Option ℕ) (b : Body) (rest : Forest) → members_of (in_front n p b rest) ≡ placed_member n p (body_data b) (items_of rest) (members_of rest)
front-members n p b rest = grind arith

pub front-items : (n : Bytes) (p : Option ℕ) (b : Body) (rest : Forest) → items_of (in_front n p b rest) ≡ placed_item p (body_data b) (items_of rest)
front-items n p b rest = grind arith

-- an array from its second element on
later-members : (n : Bytes) (k : ℕ) (bs : List Body) (rest : Forest) → members_of (elements n (suc k) bs rest) ≡ members_of rest
later-members n k [] rest = refl
later-members n k (b ∷ bs) rest = front-members n (Some (suc k)) b (elements n (suc (suc k)) bs rest) ∙ later-members n (suc k) bs rest

later-items : (n : Bytes) (k : ℕ) (bs : List Body) (rest : Forest) → items_of rest ≡ json.no_items → items_of (elements n (suc k) bs rest) ≡ listed (map body_data bs)
later-items n k [] rest h = h
later-items n k (b ∷ bs) rest h = front-items n (Some (suc k)) b (elements n (suc (suc k)) bs rest) ∙ ap (json.item (body_data b)) (later-items n (suc k) bs rest h)

-- no member begins amid an array
pub no-items : (ms : List (Bytes × Bodies)) → items_of (forest_of_members ms) ≡ json.no_items
no-items ((n, many []) ∷ ms) = no-items ms
no-items ms = grind arith

pub member-data : (n : Bytes) (m : Bodies) (rest : Forest) → items_of rest ≡ json.no_items → has_elements m ≡ true → members_of (member_front n m rest) ≡ json.member n (bodies_data m) (members_of rest)
member-data n m rest fresh filled = grind (arith, later-items, later-members)

-- ---- the parts of an ordered tree are ordered

front-ordered : (o : Option SiblingPlace) (n : Bytes) (p : Option ℕ) (b : Body) (rest : Forest) → IsOrderedBehind o (in_front n p b rest) → IsBodyOrdered b × IsOrderedBehind (Some (n, p)) rest
front-ordered o n p b rest h = grind arith

-- If a property of members passes to the first and to those behind it, it holds inside each of them.
module _ (R : Option SiblingPlace → Forest → Type 0) (B : Bool → Body → Type 0)
    (front : (o : Option SiblingPlace) (n : Bytes) (p : Option ℕ) (b : Body) (rest : Forest) → R o (in_front n p b rest) → B (is_some p) b × R (Some (n, p)) rest) where
  elements-each : (o : Option SiblingPlace) (n : Bytes) (k : ℕ) (bs : List Body) (rest : Forest) → R o (elements n k bs rest) → AllByRecursion (B true) bs × ((s : Option SiblingPlace) × R s rest)
  elements-each o n k [] rest h = (tt, (o, h))
  elements-each o n k (b ∷ bs) rest h =
      let parts = front o n (Some k) b (elements n (suc k) bs rest) h in
      let more = elements-each (Some (n, Some k)) n (suc k) bs rest parts.1 in
      ((parts.0, more.0), more.1)

  pub members-each : (C : Bodies → Type 0) → ((b : Body) → B false b → C (one b)) → ((bs : List Body) → AllByRecursion (B true) bs → C (many bs)) →
      (ms : List (Bytes × Bodies)) (o : Option SiblingPlace) → R o (forest_of_members ms) → AllByRecursion (λ m. C m.1) ms
  members-each C of_one of_many [] o h = tt
  members-each C of_one of_many ((n, one b) ∷ ms) o h =
      let parts = front o n None b (forest_of_members ms) h in (of_one b parts.0, members-each C of_one of_many ms (Some (n, None)) parts.1)
  members-each C of_one of_many ((n, many bs) ∷ ms) o h =
      let parts = elements-each o n 0 bs (forest_of_members ms) h in (of_many bs parts.0, members-each C of_one of_many ms parts.1.0 parts.1.1)

-- ---- names that ascend

abbrev pub AreAfter : Bytes → json.Members → Type 0
AreAfter n json.no_members = Unit {0}
AreAfter n (json.member l d ms) = (bytes_lt n l ≡ true) × AreAfter n ms

abbrev pub Ascend : json.Members → Type 0
Ascend json.no_members = Unit {0}
Ascend (json.member l d ms) = AreAfter l ms × Ascend ms

abbrev joined : json.Members → json.Members → json.Members
joined json.no_members others = others
joined (json.member n d ms) others = json.member n d (joined ms others)

pub after-trans : (n m : Bytes) (ms : json.Members) → bytes_lt n m ≡ true → AreAfter m ms → AreAfter n ms
after-trans n m json.no_members h k = tt
after-trans n m (json.member l d ms) h k = (bytes_lt-trans n m l h k.0, after-trans n m ms h k.1)

placed-after : (n : Bytes) (q : Option ℕ) (name : Bytes) (p : Option ℕ) (d : Data) (ds : json.Items) (ms : json.Members) → may_stand (Some (n, q)) name p ≡ true → AreAfter name ms →
    AreAfter n (placed_member name p d ds ms)
placed-after n None name (Some (suc i)) d ds ms h k = absurd (true≢false (sym h))
placed-after n (Some j) name (Some (suc i)) d ds ms h k = subst (λ x. AreAfter x ms) (sym (bytes_eq-true n name ((and_parts (bytes_eq n name) (j == i) h).0))) k
placed-after n q name _ d ds ms h k = (h, after-trans n name ms h k)

after : (f : Forest) (n : Bytes) (q : Option ℕ) → IsOrderedBehind (Some (n, q)) f → AreAfter n (members_of f)
after end n q h = tt
after (leaf i rest) n q h = placed-after n q i.name i.place (content_data i.content) (items_of rest) (members_of rest) h.0 (after rest i.name i.place h.1)
after (branch name p kids rest) n q h = placed-after n q name p (json.object (members_of kids)) (items_of rest) (members_of rest) h.0 (after rest name p h.2)

placed-ascend : (name : Bytes) (p : Option ℕ) (d : Data) (ds : json.Items) (ms : json.Members) → AreAfter name ms → Ascend ms → Ascend (placed_member name p d ds ms)
placed-ascend name p d ds ms h k = grind arith

ascend : (f : Forest) (o : Option SiblingPlace) → IsOrderedBehind o f → Ascend (members_of f)
ascend end o h = tt
ascend (leaf i rest) o h = placed-ascend i.name i.place (content_data i.content) (items_of rest) (members_of rest) (after rest i.name i.place h.1) (ascend rest (Some (i.name, i.place)) h.1)
ascend (branch name p kids rest) o h = placed-ascend name p (json.object (members_of kids)) (items_of rest) (members_of rest) (after rest name p h.2) (ascend rest (Some (name, p)) h.2)

-- ---- members put in one after another are the members themselves

greater : (l n : Bytes) → bytes_lt l n ≡ true → slice_cmp nat_cmp n l ≡ Greater
greater l n h = nat_list_cmp_total.antisymm n l ∙ ap ordering_reverse (bytes_lt-less l n h)

-- one name is later than another, in whatever comes behind it
after-joined : (l : Bytes) (found : json.Members) (n : Bytes) (d : Data) (ms : json.Members) → AreAfter l (joined found (json.member n d ms)) → bytes_lt l n ≡ true
after-joined l json.no_members n d ms h = h.0
after-joined l (json.member k e found) n d ms h = after-joined l found n d ms h.1

put-last : (found : json.Members) (n : Bytes) (d : Data) (ms : json.Members) → Ascend (joined found (json.member n d ms)) → put n d found ≡ joined found (json.member n d json.no_members)
put-last json.no_members n d ms h = refl
put-last (json.member l e found) n d ms h = grind (arith, after-joined, greater, (put-last found n d ms h.1))

joined-one : (found : json.Members) (n : Bytes) (d : Data) (ms : json.Members) → joined (joined found (json.member n d json.no_members)) ms ≡ joined found (json.member n d ms)
joined-one json.no_members n d ms = refl
joined-one (json.member l e more) n d ms = ap (json.member l e) (joined-one more n d ms)

put-joined : (ms found : json.Members) → Ascend (joined found ms) → put_all ms found ≡ joined found ms
put-joined json.no_members found h = sym (joined-none found)
  where
    joined-none : (xs : json.Members) → joined xs json.no_members ≡ xs
    joined-none json.no_members = refl
    joined-none (json.member l e xs) = ap (json.member l e) (joined-none xs)
put-joined (json.member n d ms) found h =
    let more = joined found (json.member n d json.no_members) in
    ap (put_all ms) (put-last found n d ms h) ∙ put-joined ms more (subst Ascend (sym (joined-one found n d ms)) h) ∙ joined-one found n d ms

pub put-ascending : (ms : json.Members) → Ascend ms → put_all ms json.no_members ≡ ms
put-ascending ms h = put-joined ms json.no_members h

put-ordered : (f : Forest) → IsOrdered f → put_all (members_of f) json.no_members ≡ members_of f
put-ordered f h = put-ascending (members_of f) (ascend f None h)

-- ---- one member after another

one-more : (i : ℕ) → suc i ≡ i + 1
one-more i = omega arith

pub put-member : (old new : List MapEntry) (v : Value) (R : json.Members) (xs : List (Text × Member)) (i : ℕ) (m : Text × Member) → i < length xs → m ≡ get_or xs i m →
    has_elements (bodies m.1) ≡ true → view v ≡ bodies_data (bodies m.1) → members_view new ≡ put m.0 (view v) (members_view old) →
    put_all (members_of (members_forest (drop i xs))) (members_view old) ≡ R → put_all (members_of (members_forest (drop (i + 1) xs))) (members_view new) ≡ R
put-member old new v R xs i m h e filled means put_in left = grind (arith, common_steps, member-data, members-next, no-items)

-- a property of all members left holds of the first of them and of the others
pub all-left : (P : Bytes × Bodies → Type 0) (xs : List (Text × Member)) (i : ℕ) (m : Text × Member) → i < length xs → m ≡ get_or xs i m → AllByRecursion P (map named (drop i xs)) →
    P (named m) × AllByRecursion P (map named (drop (i + 1) xs))
all-left P xs i m h e all = grind (arith, drop-cons, one-more)

-- ---- at the start

pub put-started : (o : Object) (xs : List (Text × Member)) (es : List MapEntry) → IsOrdered (forest o) → xs ≡ o.members.items → es ≡ [] → put_all (members_of (members_forest xs)) (members_view es) ≡ members_of (forest o)
put-started o xs es h is none = grind (arith, forest-members, put-ordered)

pub object-ordered : (o : Object) (xs : List (Text × Member)) → IsOrdered (forest o) → xs ≡ o.members.items → AllByRecursion (λ m. AreBodiesOrdered m.1) (map named xs)
object-ordered o xs h is =
    members-each IsOrderedBehind (λ a b. IsBodyOrdered b) front-ordered AreBodiesOrdered (λ b k. k) (λ bs k. k) (map named xs) None (subst IsOrdered (forest-members o ∙ ap members_forest (sym is)) h)
