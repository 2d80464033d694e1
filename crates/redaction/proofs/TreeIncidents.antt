-- The one Incident of a tree, as the program finds it, is that of the JSON object that the tree means.
use Rattle.std.proofs.Common.{◌≡◌, ℕ, zero, suc, max, Bool, true, false, not, ◌&&◌, ◌||◌, if◌then◌else◌, List, [], ◌∷◌, refl, sym, ap, ◌∙◌, subst, arith}
use Rattle.std.proofs.{Common.{true≢false, Option, Some, None, is_some, is_none, nat_le, bytes_eq, codes}, lemmas.{Bool.{le-leb, leb-true}, Grind.common_steps}}
use Rattle.{std.specs.{List.list_all, Option.option_map_or}, serde_json.specs.{Data.Data, Find.get_member}, iodef_tree.proofs.Counts.length-lines}
use Rattle.iodef_tree.{proofs.{Filled.has_elements, Meaning.data-is}, specs.{Json.content_data, Reading.lacking, Sound.{SiblingPlace, may_stand}}}
use Rattle.iodef_tree.specs.{Sound.{IsOrderedBehind, IsSound}, Text.Bytes, Texts.HasTexts, Tree.{Content, Forest, end, leaf, branch, Body, holds, says, Bodies}}
use Rattle.iodef_tree.specs.{Tree.{one, many, in_front, elements, member_front, lines, height}, View.forest_of_members, declared.TheConstants.DEPTH_LIMIT}
use Rattle.iodef_tree.specs.{declared.{TheConstants.LINE_LIMIT, line.Line.Line}, inner.{FitValues.line_count, Written.{placed_member, placed_item, members_of}}}
use Rattle.{iodef_tree.specs.inner.Written.{items_of, goes_on, is_later_place}, redaction.proofs.{MeantTrees.same-name, MeantValues.MayBe}}
use Rattle.redaction.proofs.{MeantValues.{content-incomplete, content-no_incident}, ReadExactly.{get-first, shallow-lines, lines-shallow}}
use Rattle.redaction.specs.{Readable.{is_complete_incident, has_complete_incident, is_shallow, is_readable}, inner.Trees.{has_name, is_complete, only_class}}
use Rattle.redaction.specs.inner.Trees.{incident_in, has_complete_incident_in, body_height, tallest, bodies_height}
use Rattle.serde_json.specs.Data as json
use Rattle.iodef_tree.specs.declared.fault.Required.TheVariants as required

abbrev incident : Bytes
incident = codes "Incident"

-- ---- a name, member by member

or-twice : (a b : Bool) → (a || (a || b)) ≡ (a || b)
or-twice true b = refl
or-twice false b = refl

has-one : (name n : Bytes) (place : Option ℕ) (b : Body) (rest : Forest) → has_name name (in_front n place b rest) ≡ (bytes_eq n name || has_name name rest)
has-one name n place (holds kids) rest = refl
has-one name n place (says c) rest = refl

has-elements : (name n : Bytes) (k : ℕ) (b : Body) (bs : List Body) (rest : Forest) → has_name name (elements n k (b ∷ bs) rest) ≡ (bytes_eq n name || has_name name rest)
has-elements name n k b [] rest = has-one name n (Some k) b rest
has-elements name n k b (c ∷ bs) rest =
    has-one name n (Some k) b (elements n (suc k) (c ∷ bs) rest) ∙ ap (λ x. bytes_eq n name || x) (has-elements name n (suc k) c bs rest) ∙ or-twice (bytes_eq n name) (has_name name rest)

pub has-front : (name n : Bytes) (m : Bodies) (rest : Forest) → has_elements m ≡ true → has_name name (member_front n m rest) ≡ (bytes_eq n name || has_name name rest)
has-front name n (one b) rest filled = has-one name n None b rest
has-front name n (many []) rest filled = absurd (true≢false (sym filled))
has-front name n (many (b ∷ bs)) rest filled = has-elements name n 0 b bs rest

-- ---- the Incident, member by member

-- no array goes on where a member begins
pub goes-none : (ms : List (Bytes × Bodies)) → goes_on (forest_of_members ms) ≡ false
goes-none [] = refl
goes-none ((n, one (holds kids)) ∷ ms) = refl
goes-none ((n, one (says c)) ∷ ms) = refl
goes-none ((n, many []) ∷ ms) = goes-none ms
goes-none ((n, many (holds kids ∷ bs)) ∷ ms) = refl
goes-none ((n, many (says c ∷ bs)) ∷ ms) = refl

skip-one : (n : Bytes) (place : Option ℕ) (b : Body) (rest : Forest) → bytes_eq n incident ≡ false → incident_in (in_front n place b rest) ≡ incident_in rest
skip-one n place (holds kids) rest e = ap (λ x. if x then (if is_some place && not (goes_on rest) then Some kids else None) else incident_in rest) e
skip-one n place (says c) rest e = ap (λ x. if x then None else incident_in rest) e

skip-elements : (n : Bytes) (k : ℕ) (bs : List Body) (rest : Forest) → bytes_eq n incident ≡ false → incident_in (elements n k bs rest) ≡ incident_in rest
skip-elements n k [] rest e = refl
skip-elements n k (b ∷ bs) rest e = skip-one n (Some k) b (elements n (suc k) bs rest) e ∙ skip-elements n (suc k) bs rest e

pub other-member : (n : Bytes) (m : Bodies) (rest : Forest) → bytes_eq n incident ≡ false → incident_in (member_front n m rest) ≡ incident_in rest
other-member n (one b) rest e = skip-one n None b rest e
other-member n (many bs) rest e = skip-elements n 0 bs rest e

first-one : (n : Bytes) (place : Option ℕ) (kids rest : Forest) → bytes_eq n incident ≡ true → incident_in (branch n place kids rest) ≡ (if is_some place && not (goes_on rest) then Some kids else None)
first-one n place kids rest e = ap (λ x. if x then (if is_some place && not (goes_on rest) then Some kids else None) else incident_in rest) e

first-plain : (n : Bytes) (place : Option ℕ) (c : Content) (rest : Forest) → bytes_eq n incident ≡ true → incident_in (in_front n place (says c) rest) ≡ None
first-plain n place c rest e = ap (λ x. if x then None else incident_in rest) e

goes-elements : (n : Bytes) (k : ℕ) (b : Body) (rest : Forest) → goes_on (in_front n (Some (suc k)) b rest) ≡ true
goes-elements n k (holds kids) rest = refl
goes-elements n k (says c) rest = refl

pub this-member : (n : Bytes) (m : Bodies) (rest : Forest) → has_elements m ≡ true → goes_on rest ≡ false → bytes_eq n incident ≡ true → incident_in (member_front n m rest) ≡ only_class m
this-member n (one (holds kids)) rest filled ends e = first-one n None kids rest e
this-member n (one (says c)) rest filled ends e = first-plain n None c rest e
this-member n (many []) rest filled ends e = absurd (true≢false (sym filled))
this-member n (many (holds kids ∷ [])) rest filled ends e = first-one n (Some 0) kids rest e ∙ ap (λ g. if not g then Some kids else None) ends
this-member n (many (says c ∷ [])) rest filled ends e = first-plain n (Some 0) c rest e
this-member n (many (holds kids ∷ (b ∷ bs))) rest filled ends e =
    first-one n (Some 0) kids (elements n 1 (b ∷ bs) rest) e ∙ ap (λ g. if not g then Some kids else None) (goes-elements n 0 b (elements n 2 bs rest))
this-member n (many (says c ∷ (b ∷ bs))) rest filled ends e = first-plain n (Some 0) c (elements n 1 (b ∷ bs) rest) e

-- ---- the names of an ordered tree are those of what it means

-- the sibling before has another name
abbrev IsOther : Bytes → Option SiblingPlace → Type 0
IsOther name None = Unit {0}
IsOther name (Some s) = bytes_eq s.0 name ≡ false

-- so has a later element of its array
later-other : (name : Bytes) (o : Option SiblingPlace) (n : Bytes) (k : ℕ) → may_stand o n (Some (suc k)) ≡ true → IsOther name o → bytes_eq n name ≡ false
later-other name None n k h other = absurd (true≢false (sym h))
later-other name (Some (m, q)) n k h other = subst (λ x. bytes_eq x name ≡ false) (same-name m q n k h).0 other

placed-name : (name : Bytes) (o : Option SiblingPlace) (n : Bytes) (place : Option ℕ) (d : Data) (ds : json.Items) (ms : json.Members) (b r : Bool) → bytes_eq n name ≡ b → may_stand o n place ≡ true → IsOther name o →
    (b ≡ false → is_some (get_member name ms) ≡ r) → is_some (get_member name (placed_member n place d ds ms)) ≡ (b || r)
placed-name name o n None d ds ms true r e h other behind = ap is_some (get-first name n true d ms e)
placed-name name o n None d ds ms false r e h other behind = ap is_some (get-first name n false d ms e) ∙ behind refl
placed-name name o n (Some zero) d ds ms true r e h other behind = ap is_some (get-first name n true (json.array (json.item d ds)) ms e)
placed-name name o n (Some zero) d ds ms false r e h other behind = ap is_some (get-first name n false (json.array (json.item d ds)) ms e) ∙ behind refl
placed-name name o n (Some (suc k)) d ds ms true r e h other behind = absurd (true≢false (sym e ∙ later-other name o n k h other))
placed-name name o n (Some (suc k)) d ds ms false r e h other behind = behind refl

names-given : (name : Bytes) (f : Forest) (o : Option SiblingPlace) → IsOrderedBehind o f → IsOther name o → is_some (get_member name (members_of f)) ≡ has_name name f
names-given name end o h other = refl
names-given name (leaf i rest) o h other =
    placed-name name o i.name i.place (content_data i.content) (items_of rest) (members_of rest) (bytes_eq i.name name) (has_name name rest) refl h.0 other (λ e. names-given name rest (Some (i.name, i.place)) h.1 e)
names-given name (branch n place kids rest) o h other =
    placed-name name o n place (json.object (members_of kids)) (items_of rest) (members_of rest) (bytes_eq n name) (has_name name rest) refl h.0 other (λ e. names-given name rest (Some (n, place)) h.2 e)

lacks-none : (a b c d : Option Data) →
    is_none (if is_none a then Some required.Contact else (if is_none b then Some required.GenerationTime else (if is_none c then Some required.IncidentId else (if is_none d then Some required.Purpose else None))))
    ≡ ((is_some a && is_some b) && (is_some c && is_some d))
lacks-none None b c d = refl
lacks-none (Some x) None c d = refl
lacks-none (Some x) (Some y) None d = refl
lacks-none (Some x) (Some y) (Some z) None = refl
lacks-none (Some x) (Some y) (Some z) (Some w) = refl

complete-class : (kids : Forest) → IsOrderedBehind None kids → is_none (lacking (json.object (members_of kids))) ≡ is_complete kids
complete-class kids h =
    let ms = members_of kids in
    lacks-none (get_member (codes "Contact") ms) (get_member (codes "GenerationTime") ms) (get_member (codes "IncidentID") ms) (get_member (codes "purpose") ms)
    ∙ (λ i. (names-given (codes "Contact") kids None h tt i && names-given (codes "GenerationTime") kids None h tt i) && (names-given (codes "IncidentID") kids None h tt i && names-given (codes "purpose") kids None h tt i))

-- ---- so is the Incident

-- whether members have one Incident, with each member that an Incident must have
abbrev is_found : Option Data → Bool
is_found o = option_map_or is_complete_incident o false

element-incomplete : (d : Data) (ds : json.Items) → is_none (lacking d) ≡ false → is_complete_incident (json.array (json.item d ds)) ≡ false
element-incomplete d json.no_items h = h
element-incomplete d (json.item e es) h = refl

leaf-found : (o : Option SiblingPlace) (n : Bytes) (place : Option ℕ) (c : Content) (rest : Forest) (b : Bool) → bytes_eq n incident ≡ b → may_stand o n place ≡ true → MayBe (is_some place) c → IsOther incident o →
    (b ≡ false → has_complete_incident_in rest ≡ is_found (get_member incident (members_of rest))) →
    option_map_or is_complete (if b then None else incident_in rest) false ≡ is_found (get_member incident (placed_member n place (content_data c) (items_of rest) (members_of rest)))
leaf-found o n None c rest true e h may other behind = sym (ap is_found (get-first incident n true (content_data c) (members_of rest) e) ∙ content-no_incident c may)
leaf-found o n None c rest false e h may other behind = behind refl ∙ sym (ap is_found (get-first incident n false (content_data c) (members_of rest) e))
leaf-found o n (Some zero) c rest true e h may other behind =
    sym (ap is_found (get-first incident n true (json.array (json.item (content_data c) (items_of rest))) (members_of rest) e) ∙ element-incomplete (content_data c) (items_of rest) (content-incomplete true c may))
leaf-found o n (Some zero) c rest false e h may other behind = behind refl ∙ sym (ap is_found (get-first incident n false (json.array (json.item (content_data c) (items_of rest))) (members_of rest) e))
leaf-found o n (Some (suc k)) c rest true e h may other behind = absurd (true≢false (sym e ∙ later-other incident o n k h other))
leaf-found o n (Some (suc k)) c rest false e h may other behind = behind refl

-- whether an array goes on says whether there are more elements
only-element : (d : Data) (place : Option ℕ) (e : Data) (es : json.Items) → is_complete_incident (json.array (json.item d (placed_item place e es))) ≡ (if not (is_later_place place) then is_none (lacking d) else false)
only-element d None e es = refl
only-element d (Some zero) e es = refl
only-element d (Some (suc k)) e es = refl

alone : (d : Data) (rest : Forest) → is_complete_incident (json.array (json.item d (items_of rest))) ≡ (if not (goes_on rest) then is_none (lacking d) else false)
alone d end = refl
alone d (leaf i rest) = only-element d i.place (content_data i.content) (items_of rest)
alone d (branch n place kids rest) = only-element d place (json.object (members_of kids)) (items_of rest)

if-alone : (g c : Bool) (kids : Forest) → c ≡ is_complete kids → option_map_or is_complete (if not g then Some kids else None) false ≡ (if not g then c else false)
if-alone true c kids e = refl
if-alone false c kids e = sym e

branch-found : (o : Option SiblingPlace) (n : Bytes) (place : Option ℕ) (kids rest : Forest) (b : Bool) → bytes_eq n incident ≡ b → may_stand o n place ≡ true → IsOrderedBehind None kids → IsOther incident o →
    (b ≡ false → has_complete_incident_in rest ≡ is_found (get_member incident (members_of rest))) →
    option_map_or is_complete (if b then (if is_some place && not (goes_on rest) then Some kids else None) else incident_in rest) false
    ≡ is_found (get_member incident (placed_member n place (json.object (members_of kids)) (items_of rest) (members_of rest)))
branch-found o n None kids rest true e h ordered other behind = sym (ap is_found (get-first incident n true (json.object (members_of kids)) (members_of rest) e))
branch-found o n None kids rest false e h ordered other behind = behind refl ∙ sym (ap is_found (get-first incident n false (json.object (members_of kids)) (members_of rest) e))
branch-found o n (Some zero) kids rest true e h ordered other behind =
    let own = json.object (members_of kids) in
    if-alone (goes_on rest) (is_none (lacking own)) kids (complete-class kids ordered)
    ∙ sym (ap is_found (get-first incident n true (json.array (json.item own (items_of rest))) (members_of rest) e) ∙ alone own rest)
branch-found o n (Some zero) kids rest false e h ordered other behind =
    behind refl ∙ sym (ap is_found (get-first incident n false (json.array (json.item (json.object (members_of kids)) (items_of rest))) (members_of rest) e))
branch-found o n (Some (suc k)) kids rest true e h ordered other behind = absurd (true≢false (sym e ∙ later-other incident o n k h other))
branch-found o n (Some (suc k)) kids rest false e h ordered other behind = behind refl

found-behind : (f : Forest) (o : Option SiblingPlace) → IsOrderedBehind o f → HasTexts f → IsOther incident o → has_complete_incident_in f ≡ is_found (get_member incident (members_of f))
found-behind end o h k other = refl
found-behind (leaf i rest) o h k other =
    leaf-found o i.name i.place i.content rest (bytes_eq i.name incident) refl h.0 k.0 other (λ e. found-behind rest (Some (i.name, i.place)) h.1 k.1 e)
found-behind (branch n place kids rest) o h k other =
    branch-found o n place kids rest (bytes_eq n incident) refl h.0 h.1 other (λ e. found-behind rest (Some (n, place)) h.2 k.1 e)

-- ---- the limits

same-test : (a b : Bool) → (a ≡ true → b ≡ true) → (b ≡ true → a ≡ true) → a ≡ b
same-test true b f g = sym (f refl)
same-test false true f g = g refl
same-test false false f g = refl

low-lines : (f : Forest) → nat_le (height f) DEPTH_LIMIT ≡ list_all is_shallow (lines 1 f)
low-lines f = same-test _ _ (λ e. lines-shallow f 0 (let low = leb-true (height f) DEPTH_LIMIT e in omega (arith, low))) (λ e. le-leb (height f) DEPTH_LIMIT (let low = shallow-lines f 0 e (omega arith) in omega (arith, low)))

-- a tree that passes is readable by its lines
pub readable-is : (f : Forest) (ls : List Line) → IsSound f → lines 1 f ≡ ls → (has_complete_incident_in f && (nat_le (line_count f) LINE_LIMIT && nat_le (height f) DEPTH_LIMIT)) ≡ is_readable ls
readable-is f ls sound same =
    let own : has_complete_incident_in f ≡ has_complete_incident (lines 1 f) = found-behind f None sound.ordered sound.texts tt ∙ ap (λ xs. is_found (get_member incident xs)) (sym (data-is f sound)) in
    let all : (has_complete_incident_in f && (nat_le (line_count f) LINE_LIMIT && nat_le (height f) DEPTH_LIMIT)) ≡ is_readable (lines 1 f) =
    (λ i. own i && (nat_le (sym (length-lines f 1) i) LINE_LIMIT && low-lines f i)) in
    all ∙ ap is_readable same

-- ---- the height, member by member

height-elements : (name : Bytes) (k : ℕ) (bs : List Body) (rest : Forest) → height (elements name k bs rest) ≡ max (tallest bs) (height rest)
height-elements name k [] rest = omega arith
height-elements name k (b ∷ bs) rest = grind (arith, (height-elements name (suc k) bs rest))

height-front : (name : Bytes) (m : Bodies) (rest : Forest) → height (member_front name m rest) ≡ max (bodies_height m) (height rest)
height-front name m rest = grind (arith, height-elements)

both-low : (a b n : ℕ) → nat_le (max a b) n ≡ (nat_le a n && nat_le b n)
both-low a b n = grind arith

pub low-front : (name : Bytes) (m : Bodies) (rest : Forest) (n : ℕ) → nat_le (height (member_front name m rest)) n ≡ (nat_le (bodies_height m) n && nat_le (height rest) n)
low-front name m rest n = ap (λ h. nat_le h n) (height-front name m rest) ∙ both-low (bodies_height m) (height rest) n

pub low-elements : (b : Body) (bs : List Body) (n : ℕ) → nat_le (tallest (b ∷ bs)) n ≡ (nat_le (body_height b) n && nat_le (tallest bs) n)
low-elements b bs n = both-low (body_height b) (tallest bs) n

-- the lemmas for the walk that looks how high a tree is
pub ruleset low_steps = (common_steps, low-front, low-elements)
