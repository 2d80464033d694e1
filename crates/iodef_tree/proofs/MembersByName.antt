-- The member of a name, and the IncidentID.
use Rattle.std.proofs.Common.{◌≡◌, ℕ, ◌+◌, ◌<◌, Bool, true, false, if◌then◌else◌, List, [], ◌∷◌, map, length, drop, get_or, sym, ◌∙◌, ap, subst, true≢false}
use Rattle.std.proofs.{Common.{Ordering, is_eq, Option, Some, None, is_some, option_map, option_and_then, codes, bytes_eq, arith}, lemmas.Grind.common_steps}
use Rattle.std.{proofs.lemmas.Map.Text.is_eq-slice_cmp, specs.{Cmp.Lexicographic.slice_cmp, List.AllByRecursion, Ordering.{nat_cmp, match_ordering}}}
use Rattle.{serde_json.specs.{Data.Data, Find.{get_member, as_object}, Written.compact_text}, json_pointer.specs.{Text.Bytes, declared.text.Text.Text}}
use Rattle.iodef_tree.proofs.{Data.{members-each, no-items, member-data}, Filled.has_elements, Meaning.data-is, Members.members-next, Order.is_false}
use Rattle.iodef_tree.{proofs.{Order.{bytes_eq-true, bytes_eq-refl}, Views.forest-members}, specs.{Json.{zeroth, id_in, incident_id}, Sound.SiblingPlace}}
use Rattle.iodef_tree.specs.{Sound.{IsOrderedBehind, IsSound}, Texts.HasTexts, Tree.{Forest, Body, Bodies, one, many, in_front, lines}, View.{forest, bodies}}
use Rattle.iodef_tree.specs.{View.{named, members_forest}, declared.{line.Line.Line, object.{Member.Member, Object.Object}}, inner.FitValues.IsBodyOrdered}
use Rattle.iodef_tree.specs.inner.{FitValues.AreBodiesOrdered, SoundParts.{IsKept, IsBodyKept, AreKept}, Written.{members_of, bodies_data}}
use Rattle.serde_json.specs.Data as json

-- ---- the first member of a name

chosen : (o : Ordering) (b : Bool) (a : Option Data) (d : Data) → is_eq o ≡ b → match_ordering o a (Some d) a ≡ (if b then Some d else a)
chosen o b a d h = grind arith

same : (x k : Bytes) (b : Bool) → bytes_eq x k ≡ b → bytes_eq k x ≡ b
same x k true h = ap (bytes_eq k) (bytes_eq-true x k h) ∙ bytes_eq-refl k
same x k false h = is_false (bytes_eq k x) (λ e. true≢false (sym (bytes_eq-refl k) ∙ ap (λ y. bytes_eq y k) (bytes_eq-true k x e) ∙ h))

get-first : (k n : Bytes) (b : Bool) (d : Data) (ms : json.Members) → bytes_eq n k ≡ b → get_member k (json.member n d ms) ≡ (if b then Some d else get_member k ms)
get-first k n b d ms h = chosen (slice_cmp nat_cmp k n) b (get_member k ms) d (is_eq-slice_cmp k n ∙ same n k b h)

-- the first of these members has the name, or it is one of the others
pub member-next : (k : Bytes) (xs : List (Text × Member)) (i : ℕ) (m : Text × Member) (b : Bool) → i < length xs → m ≡ get_or xs i m → bytes_eq m.0 k ≡ b → has_elements (bodies m.1) ≡ true →
    get_member k (members_of (members_forest (drop i xs))) ≡ (if b then Some (bodies_data (bodies m.1)) else get_member k (members_of (members_forest (drop (i + 1) xs))))
member-next k xs i m b h e is filled = grind (arith, common_steps, get-first, member-data, members-next, no-items)

-- ---- a property that holds inside each member

front-kept : (o : Option SiblingPlace) (n : Bytes) (p : Option ℕ) (b : Body) (rest : Forest) → IsOrderedBehind o (in_front n p b rest) × HasTexts (in_front n p b rest) →
    IsBodyKept (is_some p) b × (IsOrderedBehind (Some (n, p)) rest × HasTexts rest)
front-kept o n p b rest h = grind arith

pub object-members : (o : Object) (xs : List (Text × Member)) → xs ≡ o.members.items → members_forest xs ≡ forest o
object-members o xs is = ap members_forest is ∙ sym (forest-members o)

pub kept-members : (o : Object) (xs : List (Text × Member)) → IsKept (forest o) → xs ≡ o.members.items → AllByRecursion (λ m. AreKept m.1) (map named xs)
kept-members o xs k is = let inside : IsKept (members_forest xs) = subst IsKept (sym (object-members o xs is)) k in members-each (λ s f. IsOrderedBehind s f × HasTexts f) IsBodyKept front-kept AreKept (λ b h. h) (λ bs h. h) (map named xs) None (inside.ordered, inside.texts)

body-ordered : (a : Bool) (b : Body) → IsBodyKept a b → IsBodyOrdered b
body-ordered a b k = grind arith

pub kept-ordered : (m : Bodies) → AreKept m → AreBodiesOrdered m
kept-ordered (one b) k = body-ordered false b k
kept-ordered (many bs) k = each bs k
  where
    each : (xs : List Body) → AllByRecursion (IsBodyKept true) xs → AllByRecursion IsBodyOrdered xs
    each [] all = tt
    each (x ∷ xs) all = (body-ordered true x all.0, each xs all.1)

-- ---- the IncidentID

pub id-found : (ms own : json.Members) (d : Data) (r : Option Data) → Some d ≡ get_member (codes "Incident") ms → Some own ≡ option_and_then as_object (zeroth d) → r ≡ get_member (codes "IncidentID") own →
    r ≡ id_in (json.object ms)
id-found ms own d r first at is = grind arith

-- the text of the IncidentID
pub id-is : (f : Forest) (ls : List Line) (o : Option Data) (r : Option Bytes) → IsSound f → lines 1 f ≡ ls → o ≡ id_in (json.object (members_of f)) → r ≡ option_map compact_text o → r ≡ incident_id ls
id-is f ls o r h seen found said = grind (arith, data-is)
