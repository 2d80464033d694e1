-- The rows that a request leaves, of those that are counted for it.
use Rattle.std.proofs.Common.{◌≡◌, ℕ, ◌==◌, ◌&&◌, Bool, true, false, not, List, [], ◌∷◌, ◌++◌, filter, if◌then◌else◌, Option, Some, None, refl, ap, ◌∙◌}
use Rattle.std.{proofs.lemmas.Bool.eqb-true, specs.{List.flat_map, Option.option_map_or, Prelude.{count_by, option_map}}}
use Rattle.{iodef_tree.specs.{Pointer.pointer_tokens, Text.{Bytes, Tokens}}, circle.specs.declared.directory.Person.Person}
use Rattle.hub_state.{proofs.{Counted.{count_agree, count_filter}, Keeping.found_is}, specs.Aftermath.{next_row, put_gate, put_gates, put_next, edits_of}}
use Rattle.hub_state.specs.{Aftermath.{put_revised, put_revision}, Documents.{Lines, made_at, documents_in}, Edits.{with_edits, edited}}
use Rattle.hub_state.specs.{Requests.incident_facts, State.{State, permissions_of, incident_of}, declared.{counts_then.Counts.Counts, edit.Edit.Edit}}
use Rattle.hub_state.specs.declared.{edit.Edit.TheVariants.{PutIncident, TakeIncident, TakePolicy}, facts.IncidentFacts.IncidentFacts}
use Rattle.hub_state.specs.declared.{request.{Distribution.Distribution, Replace.Replace, WantedGate.WantedGate}, state.{Gate.Gate, Incident.Incident}}
use Rattle.hub_state.specs.declared.state.{Permission.Permission, Recipient.Recipient}
use Rattle.hub_state.specs.declared.edit.Edit.TheVariants as edit
use Rattle.hub_state.specs.declared.request.Request.TheVariants as ask

revision_same : (community : Option ℕ) (n : ℕ) (docs : List Lines) (i : Incident) → i.naming.number ≡ n → put_revised community docs i ≡ put_revision n (incident_facts i) community docs
revision_same community n [] i is = refl
revision_same community n (doc ∷ docs) i is = ap (λ m. TakeIncident m ∷ PutIncident (next_row m (incident_facts i) community doc) ∷ []) is

next_same : (community : Option ℕ) (n : ℕ) (docs : List Lines) (o : Option Incident) → ((i : Incident) → o ≡ Some i → i.naming.number ≡ n) →
    option_map_or (put_revised community docs) o [] ≡ put_next n (option_map incident_facts o) community docs
next_same community n docs None number = refl
next_same community n docs (Some i) number = revision_same community n docs i (number i refl)

-- an exchange by the rows is one by the facts
pub replace_edits : (s : State) (a : Person) (r : Replace) → edits_of s a (ask.Replace r) ≡ put_next r.incident (option_map incident_facts (incident_of r.incident s)) r.distribution.community (documents_in r.document) ++ TakePolicy r.incident ∷ put_gates r.incident r.distribution
replace_edits s a r = ap (λ (edits : List Edit). edits ++ TakePolicy r.incident ∷ put_gates r.incident r.distribution)
    (next_same r.distribution.community r.incident (documents_in r.document) (incident_of r.incident s)
    (λ i is. eqb-true i.naming.number r.incident (found_is (λ (i : Incident). i.naming.number == r.incident) s.incidents i is)))

pub after_append : (xs ys : List Edit) (s : State) → with_edits (xs ++ ys) s ≡ with_edits ys (with_edits xs s)
after_append [] ys s = refl
after_append (x ∷ xs) ys s = after_append xs ys (with_edits (x ∷ []) s)

-- if an edit at each path leaves this part as it is, so does one at a text's path or none
pub along_path : {X : Type 0} (get : State → X) (f : Tokens → List Edit) (path : Bytes) (s : State) → ((p : Tokens) → get (with_edits (f p) s) ≡ get s) → get (with_edits (made_at f path) s) ≡ get s
along_path get f path s same = split (pointer_tokens path)
  where
    split : (o : Option Tokens) → get (with_edits (option_map_or f o []) s) ≡ get s
    split None = refl
    split (Some p) = same p

-- putting gates leaves this part as it is
gates_leave : {X : Type 0} (get : State → X) → ((g : Gate) (s : State) → get (edited (edit.PutGate g) s) ≡ get s) → (n : ℕ) (gates : List WantedGate) (s : State) →
    get (with_edits (flat_map (λ (g : WantedGate). made_at (put_gate n g.level g.group) g.path) gates) s) ≡ get s
gates_leave get same n [] s = refl
gates_leave get same n (g ∷ gates) s =
    ap get (after_append (made_at (put_gate n g.level g.group) g.path) (flat_map (λ (g : WantedGate). made_at (put_gate n g.level g.group) g.path) gates) s)
    ∙ (gates_leave get same n gates (with_edits (made_at (put_gate n g.level g.group) g.path) s)
    ∙ along_path get (put_gate n g.level g.group) g.path s (λ p. same (record { incident = n; gate = record { path = p; level = g.level; group = g.group } }) s))

-- exchanging an incident leaves this part as it is
next_leaves : {X : Type 0} (get : State → X) → ((n : ℕ) (s : State) → get (edited (edit.TakeIncident n) s) ≡ get s) → ((i : Incident) (s : State) → get (edited (edit.PutIncident i) s) ≡ get s) →
    (n : ℕ) (k : Option IncidentFacts) (community : Option ℕ) (docs : List Lines) (s : State) → get (with_edits (put_next n k community docs) s) ≡ get s
next_leaves get taken put n None community docs s = refl
next_leaves get taken put n (Some k) community [] s = refl
next_leaves get taken put n (Some k) community (doc ∷ docs) s = put (next_row n k community doc) (edited (edit.TakeIncident n) s) ∙ taken n s

pub exchanged_recipients : (k : Option IncidentFacts) (docs : List Lines) (n : ℕ) (d : Distribution) (s : State) →
    (let t : State = with_edits (put_next n k d.community docs ++ edit.TakePolicy n ∷ put_gates n d) s in t.recipients) ≡ s.recipients
exchanged_recipients k docs n d s =
    let get : State → List Recipient = λ s. s.recipients in
    let t : State = with_edits (put_next n k d.community docs) s in
    ap get (after_append (put_next n k d.community docs) (edit.TakePolicy n ∷ put_gates n d) s)
    ∙ (gates_leave get (λ g u. refl) n d.gates (edited (edit.PutGate (record { incident = n; gate = record { path = []; level = d.level; group = d.group } })) (edited (edit.TakePolicy n) t))
    ∙ next_leaves get (λ m u. refl) (λ i u. refl) n k d.community docs s)

pub exchanged_permissions : (k : Option IncidentFacts) (docs : List Lines) (n : ℕ) (d : Distribution) (s : State) →
    (let t : State = with_edits (put_next n k d.community docs ++ edit.TakePolicy n ∷ put_gates n d) s in t.permissions) ≡ filter (λ (x : Permission). not (x.incident == n)) s.permissions
exchanged_permissions k docs n d s =
    let get : State → List Permission = λ s. s.permissions in
    let t : State = with_edits (put_next n k d.community docs) s in
    ap get (after_append (put_next n k d.community docs) (edit.TakePolicy n ∷ put_gates n d) s)
    ∙ (gates_leave get (λ g u. refl) n d.gates (edited (edit.PutGate (record { incident = n; gate = record { path = []; level = d.level; group = d.group } })) (edited (edit.TakePolicy n) t))
    ∙ ap (filter (λ (x : Permission). not (x.incident == n))) (next_leaves get (λ m u. refl) (λ i u. refl) n k d.community docs s))

nowhere : (b : Bool) → (not b && b) ≡ false
nowhere true = refl
nowhere false = refl

none_counted : {X : Type 0} (xs : List X) → count_by (λ x. false) xs ≡ 0
none_counted [] = refl
none_counted (x ∷ xs) = none_counted xs

-- none of the permissions of the incident is left
pub none_left : (n : ℕ) (xs : List Permission) → permissions_of n (filter (λ (x : Permission). not (x.incident == n)) xs) ≡ 0
none_left n xs = count_filter (λ (x : Permission). x.incident == n) (λ (x : Permission). not (x.incident == n)) xs
    ∙ (count_agree (λ (x : Permission). not (x.incident == n) && (x.incident == n)) (λ x. false) xs (λ x. nowhere (x.incident == n)) ∙ none_counted xs)

-- ---- counts

-- if the incident is there, the counts are those after the change
pub counts_are : (k : Counts) (b : Bool) (gates recipients permissions : ℕ) → b ≡ true → k.gates ≡ gates → k.recipients ≡ recipients → k.permissions ≡ permissions →
    k ≡ record { gates = if b then gates else 0; recipients = if b then recipients else 0; permissions = if b then permissions else 0 }
counts_are k false gates recipients permissions there e f h = cc
counts_are k true gates recipients permissions there e f h =
    let make : ℕ → ℕ → ℕ → Counts = λ g r p. record { gates = g; recipients = r; permissions = p } in
    ap (λ m. make m k.recipients k.permissions) e ∙ (ap (λ m. make gates m k.permissions) f ∙ ap (make gates recipients) h)
