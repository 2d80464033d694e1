-- Posting an incident with its gates leaves a sound state.
use Rattle.std.proofs.Common.{◌≡◌, ℕ, ◌+◌, ◌≤◌, ◌<◌, ◌==◌, ◌&&◌, ◌||◌, Bool, true, false, List, [], ◌∷◌, length, map, Option, Some, None, refl, sym, ap, ◌∙◌}
use Rattle.std.{proofs.{Common.{subst, arith}, lemmas.Bool.{and_right, eq-eqb, ne_eqb, or_parts}}, specs.{List.list_any, Option.option_map_or, Str.bytes_eq}}
use Rattle.{iodef_tree.specs.{Json.incident_id, Pointer.pointer_tokens, Text.{Bytes, Tokens, is_root}}, circle.proofs.Keeping.{each_put, each_weaker}}
use Rattle.circle.{proofs.Keeping.{pairs_put, numbered_put, length_put, any_put, names_within, pair_apart}, specs.{Directory.Directory, Ordered.put_by}}
use Rattle.{circle.specs.{Ordered.by_number, Sound.{Each, CountsFrom, IsOrg}}, hub_state.proofs.Keeping.{never, turned, found_any, found_passing, find_put}}
use Rattle.hub_state.{proofs.Keeping.{find_new, count_none}, specs.{Aftermath.{put_incident, put_incidents}, Documents.{Lines, ident_of, at_pointer}}}
use Rattle.hub_state.specs.{Documents.is_class_in, Edits.with_edits, Sound.{IsSound, SoundIncidents, SoundRecipients, SoundPermissions, IsAccepted, IsIncident}}
use Rattle.hub_state.specs.{Sound.{IsCommunityIfAny, IsGroupIfAny}, State.{State, incident_number, incident_in, root_gates, class_gates, recipients_of}}
use Rattle.hub_state.specs.{State.permissions_of, declared.TheConstants.{INCIDENT_LIMIT, GATE_LIMIT, RECIPIENT_LIMIT, PERMISSION_LIMIT}}
use Rattle.hub_state.specs.declared.{request.{Distribution.Distribution, WantedGate.WantedGate}, state.{Incident.Incident, Permission.Permission}}
use Rattle.{hub_state.specs.declared.state.Recipient.Recipient, hub_core.proofs.Gated.{IsWanted, IsBeside, put_all, after_append, after_gates, given}}
use Rattle.hub_core.{proofs.Named.{AreThere, some_is}, specs.Refusals.stands_twice}

-- ---- what the request says for each of its incidents

pub record Wishes (directory : Directory) (d : Distribution) : Type 0 where
  pub there : AreThere directory d
  pub below : Each (λ (w : WantedGate). at_pointer is_root w.path ≡ false) d.gates
  pub once : stands_twice (map (λ (w : WantedGate). w.path) d.gates) ≡ false
  pub few : length d.gates ≤ GATE_LIMIT

abbrev pub StandAtClasses : List WantedGate → Lines → Type 0
StandAtClasses wanted doc = Each (λ (w : WantedGate). at_pointer (is_class_in doc) w.path ≡ true) wanted

-- a document that may be posted
pub record IsFit (wanted : List WantedGate) (doc : Lines) : Type 0 where
  pub accepted : IsAccepted doc
  pub named : incident_id doc ≡ Some (ident_of doc)
  pub classes : StandAtClasses wanted doc

class_at : (o : Option Incident) (i : Incident) (p : Option Tokens) → o ≡ Some i → option_map_or (is_class_in i.document) p false ≡ true → option_map_or (λ q. option_map_or (λ (x : Incident). is_class_in x.document q) o false) p false ≡ true
class_at o i None h k = k
class_at o i (Some p) h k = ap (λ o. option_map_or (λ (x : Incident). is_class_in x.document p) o false) h ∙ k

-- the gates are at classes of the incident with this document
pub wanted_at : (directory : Directory) (incidents : List Incident) (n : ℕ) (d : Distribution) (i : Incident) → incident_in n incidents ≡ Some i → Wishes directory d → StandAtClasses d.gates i.document →
    Each (IsWanted directory.groups incidents n) d.gates
wanted_at directory incidents n d i found wishes classes = go d.gates wishes.there.groups wishes.below classes
  where
    go : (ws : List WantedGate) → Each (λ (w : WantedGate). IsGroupIfAny directory.groups w.group) ws → Each (λ (w : WantedGate). at_pointer is_root w.path ≡ false) ws → StandAtClasses ws i.document → Each (IsWanted directory.groups incidents n) ws
    go [] a b c = tt
    go (w ∷ ws) a b c = (record { group = a.0; place = class_at (incident_in n incidents) i (pointer_tokens w.path) found c.0; below = b.0 }, go ws a.1 b.1 c.1)

-- ---- the number of a new incident

numbers_low : (k : ℕ) (xs : List Incident) → CountsFrom incident_number k xs → Each (λ (i : Incident). i.naming.number ≤ k + length xs) xs
numbers_low k [] h = tt
numbers_low k (x ∷ xs) h =
    let first : x.naming.number ≡ k + 1 = h.0 in
    (omega arith, each_weaker (λ (i : Incident). i.naming.number ≤ k + 1 + length xs) (λ (i : Incident). i.naming.number ≤ k + length (x ∷ xs)) xs (λ i e. omega arith) (numbers_low (k + 1) xs h.1))

above : (m n l : ℕ) → m ≤ 0 + l → n ≡ l + 1 → (m == n) ≡ false
above m n l h is = ne_eqb m n (λ e. absurd (omega arith))

-- an incident that is there has another number
pub not_new : (s : State) (n m : ℕ) → IsSound s → n ≡ length s.incidents + 1 → IsIncident s.incidents m → (m == n) ≡ false
not_new s n m h next there = above m n (length s.incidents) (names_within incident_number 0 m s.incidents h.incidents.numbered.0 there) next

-- so has an incident that passes a test
not_new_of : (s : State) (n m : ℕ) (test : Incident → Bool) → IsSound s → n ≡ length s.incidents + 1 → option_map_or test (incident_in m s.incidents) false ≡ true → (m == n) ≡ false
not_new_of s n m test h next there =
    let f = found_passing test (incident_in m s.incidents) there in
    not_new s n m h next (found_any (λ (i : Incident). i.naming.number == m) s.incidents (some_is (incident_in m s.incidents) f.0 f.1))

-- what holds of another incident holds afterwards
stays : (test : Incident → Bool) (m : ℕ) (x : Incident) (xs : List Incident) → (m == x.naming.number) ≡ false → option_map_or test (incident_in m xs) false ≡ true → option_map_or test (incident_in m (put_by (by_number incident_number) x xs)) false ≡ true
stays test m x xs other h = ap (λ o. option_map_or test o false) (find_put (λ (i : Incident). i.naming.number == m) (by_number incident_number) x xs (turned m x.naming.number other)) ∙ h

-- ---- one document

-- the source posted nothing under this ident
abbrev pub IsNew : ℕ → List Incident → Lines → Type 0
IsNew source incidents doc = Each (λ (i : Incident). (i.naming.source == source && bytes_eq i.naming.ident (ident_of doc)) ≡ false) incidents

abbrev new_row : ℕ → ℕ → Option ℕ → Lines → Incident
new_row source n community doc = record { naming = record { number = n; source = source; ident = ident_of doc; revision = 1; community = community }; document = doc }

abbrev put_row : ℕ → ℕ → Option ℕ → Lines → List Incident → List Incident
put_row source n community doc incidents = put_by (by_number incident_number) (new_row source n community doc) incidents

incidents_put : (s : State) (source n : ℕ) (community : Option ℕ) (wanted : List WantedGate) (doc : Lines) → IsSound s → n ≡ length s.incidents + 1 → length s.incidents < INCIDENT_LIMIT → IsOrg s.directory.orgs source → IsCommunityIfAny s.directory.communities community → IsFit wanted doc → IsNew source s.incidents doc →
    SoundIncidents s.directory (put_row source n community doc s.incidents)
incidents_put s source n community wanted doc h next room known there fit new =
    let row : Incident = new_row source n community doc in
    record {
      numbered = numbered_put incident_number INCIDENT_LIMIT row s.incidents next room h.incidents.numbered;
      idents = pairs_put _ (by_number incident_number) row s.incidents (each_weaker _ _ s.incidents (λ i e. (
        (λ same. pair_apart source i.naming.source (ident_of doc) i.naming.ident e (ap (λ (p : ℕ × Bytes). p.0) same) (ap (λ (p : ℕ × Bytes). p.1) same)),
        (λ same. pair_apart source i.naming.source (ident_of doc) i.naming.ident e (ap (λ (p : ℕ × Bytes). p.0) (sym same)) (ap (λ (p : ℕ × Bytes). p.1) (sym same))),
      )) new) h.incidents.idents;
      sources = each_put _ (by_number incident_number) row s.incidents known h.incidents.sources;
      revisions = each_put _ (by_number incident_number) row s.incidents (omega arith) h.incidents.revisions;
      communities = each_put _ (by_number incident_number) row s.incidents there h.incidents.communities;
      documents = each_put _ (by_number incident_number) row s.incidents fit.accepted h.incidents.documents;
      follow = each_put _ (by_number incident_number) row s.incidents fit.named h.incidents.follow;
    }

beside : (s : State) (source n : ℕ) (community : Option ℕ) (doc : Lines) → IsSound s → n ≡ length s.incidents + 1 → IsBeside s.directory.groups (put_row source n community doc s.incidents) n s.gates
beside s source n community doc h next =
    let row : Incident = new_row source n community doc in
    record {
      rising = h.gates.rising;
      places = each_weaker _ _ s.gates (λ g e. let test = λ (i : Incident). is_root g.gate.path || is_class_in i.document g.gate.path in stays test g.incident row s.incidents (not_new_of s n g.incident test h next e) e) h.gates.places;
      ends = h.gates.ends;
      others = each_weaker _ _ s.gates (λ g e. not_new_of s n g.incident (λ (i : Incident). is_root g.gate.path || is_class_in i.document g.gate.path) h next e) h.gates.places;
      roots = each_put (λ (i : Incident). (n == i.naming.number) ≡ false → root_gates i.naming.number s.gates ≡ 1) (by_number incident_number) row s.incidents (λ e. never (n == n) (eq-eqb n n refl) e) (each_weaker _ _ s.incidents (λ i e _. e) h.gates.roots);
      limit = each_put (λ (i : Incident). (n == i.naming.number) ≡ false → class_gates i.naming.number s.gates ≤ GATE_LIMIT) (by_number incident_number) row s.incidents (λ e. never (n == n) (eq-eqb n n refl) e) (each_weaker _ _ s.incidents (λ i e _. e) h.gates.limit);
    }

zero_low : (n limit : ℕ) → n ≡ 0 → n ≤ limit
zero_low n limit h = omega arith

recipients_put : (s : State) (source n : ℕ) (community : Option ℕ) (doc : Lines) → IsSound s → n ≡ length s.incidents + 1 → SoundRecipients s.directory (put_row source n community doc s.incidents) s.recipients
recipients_put s source n community doc h next =
    let row : Incident = new_row source n community doc in
    let none : recipients_of n s.recipients ≡ 0 = count_none (λ (r : Recipient). r.incident == n) s.recipients (each_weaker _ _ s.recipients (λ r e. not_new s n r.incident h next e) h.recipients.ends) in
    record {
      rising = h.recipients.rising;
      ends = each_weaker _ _ s.recipients (λ r e. any_put (λ (i : Incident). i.naming.number == r.incident) (by_number incident_number) row s.incidents e) h.recipients.ends;
      targets = h.recipients.targets;
      limit = each_put (λ (i : Incident). recipients_of i.naming.number s.recipients ≤ RECIPIENT_LIMIT) (by_number incident_number) row s.incidents (zero_low _ RECIPIENT_LIMIT none) h.recipients.limit;
    }

permissions_put : (s : State) (source n : ℕ) (community : Option ℕ) (doc : Lines) → IsSound s → n ≡ length s.incidents + 1 → SoundPermissions s.directory (put_row source n community doc s.incidents) s.permissions
permissions_put s source n community doc h next =
    let row : Incident = new_row source n community doc in
    let none : permissions_of n s.permissions ≡ 0 = count_none (λ (x : Permission). x.incident == n) s.permissions (each_weaker _ _ s.permissions (λ x e. not_new_of s n x.incident (λ (i : Incident). is_class_in i.document x.permission.path) h next e) h.permissions.places) in
    record {
      rising = h.permissions.rising;
      places = each_weaker _ _ s.permissions (λ x e. let test = λ (i : Incident). is_class_in i.document x.permission.path in stays test x.incident row s.incidents (not_new_of s n x.incident test h next e) e) h.permissions.places;
      grantees = h.permissions.grantees;
      limit = each_put (λ (i : Incident). permissions_of i.naming.number s.permissions ≤ PERMISSION_LIMIT) (by_number incident_number) row s.incidents (zero_low _ PERMISSION_LIMIT none) h.permissions.limit;
    }

no_number : (s : State) (n : ℕ) → IsSound s → n ≡ length s.incidents + 1 → Each (λ (i : Incident). (i.naming.number == n) ≡ false) s.incidents
no_number s n h next = each_weaker (λ (i : Incident). i.naming.number ≤ 0 + length s.incidents) (λ (i : Incident). (i.naming.number == n) ≡ false) s.incidents (λ i e. above i.naming.number n (length s.incidents) e next) (numbers_low 0 s.incidents h.incidents.numbered.0)

-- the state after the edits of one document
abbrev with_one : ℕ → ℕ → Distribution → Lines → State → State
with_one source n d doc s = record s { incidents = put_row source n d.community doc s.incidents; gates = put_all n d s.gates }

after_one : (source n : ℕ) (d : Distribution) (doc : Lines) (s : State) → with_edits (put_incident source n d doc) s ≡ with_one source n d doc s
after_one source n d doc s = after_gates n d (record s { incidents = put_row source n d.community doc s.incidents })

posted_one : (s : State) (source n : ℕ) (d : Distribution) (doc : Lines) → IsSound s → n ≡ length s.incidents + 1 → length s.incidents < INCIDENT_LIMIT → IsOrg s.directory.orgs source → IsFit d.gates doc →
    IsNew source s.incidents doc → Wishes s.directory d → IsSound (with_one source n d doc s)
posted_one s source n d doc h next room known fit new wishes =
    let row : Incident = new_row source n d.community doc in
    let incidents : List Incident = put_row source n d.community doc s.incidents in
    let found : incident_in n incidents ≡ Some row = find_new (λ (i : Incident). i.naming.number == n) (by_number incident_number) row s.incidents (eq-eqb n n refl) (no_number s n h next) in
    record {
      directory = h.directory;
      incidents = incidents_put s source n d.community d.gates doc h next room known wishes.there.community fit new;
      gates = given s.directory.groups incidents n d s.gates row found wishes.there.group (wanted_at s.directory incidents n d row found wishes fit.classes) wishes.once wishes.few (beside s source n d.community doc h next);
      recipients = recipients_put s source n d.community doc h next;
      permissions = permissions_put s source n d.community doc h next;
    }

-- ---- one document after another

-- a document with another ident than the one before is new in the state after that
still_new : (source n : ℕ) (community : Option ℕ) (doc : Lines) (incidents : List Incident) (docs : List Lines) → list_any (bytes_eq (ident_of doc)) (map ident_of docs) ≡ false → Each (IsNew source incidents) docs → Each (IsNew source (put_row source n community doc incidents)) docs
still_new source n community doc incidents [] differ new = tt
still_new source n community doc incidents (d ∷ ds) differ new =
    let parts = or_parts (bytes_eq (ident_of doc) (ident_of d)) (list_any (bytes_eq (ident_of doc)) (map ident_of ds)) differ in
    (each_put (λ (i : Incident). (i.naming.source == source && bytes_eq i.naming.ident (ident_of d)) ≡ false) (by_number incident_number) (new_row source n community doc) incidents (and_right (source == source) (bytes_eq (ident_of doc) (ident_of d)) parts.0) new.0, still_new source n community doc incidents ds parts.1 new.1)

pub posted : (docs : List Lines) (s : State) (source n : ℕ) (d : Distribution) → IsSound s → n ≡ length s.incidents + 1 → length s.incidents + length docs ≤ INCIDENT_LIMIT → IsOrg s.directory.orgs source →
    Each (IsFit d.gates) docs → stands_twice (map ident_of docs) ≡ false → Each (IsNew source s.incidents) docs → Wishes s.directory d → IsSound (with_edits (put_incidents source n d docs) s)
posted [] s source n d h next room known fit once new wishes = h
posted (doc ∷ docs) s source n d h next room known fit once new wishes =
    let t : State = with_one source n d doc s in
    let parts = or_parts (list_any (bytes_eq (ident_of doc)) (map ident_of docs)) (stands_twice (map ident_of docs)) once in
    let long : length t.incidents ≡ length s.incidents + 1 = length_put (by_number incident_number) (new_row source n d.community doc) s.incidents in
    let sound : IsSound t = posted_one s source n d doc h next (omega (arith, room)) known fit.0 new.0 wishes in
    subst IsSound (sym (after_append (put_incident source n d doc) (put_incidents source (n + 1) d docs) s ∙ ap (with_edits (put_incidents source (n + 1) d docs)) (after_one source n d doc s)))
    (posted docs t source (n + 1) d sound (omega (arith, next, long)) (omega (arith, room, long)) known fit.1 parts.1 (still_new source n d.community doc s.incidents docs parts.0 new.1) wishes)
