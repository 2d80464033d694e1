-- In a sound state no incident has more rows than a u32 can count.
use Rattle.std.proofs.Common.{◌≡◌, ℕ, ◌+◌, ◌-◌, ◌^◌, ◌≤◌, ◌==◌, ◌&&◌, ◌||◌, Bool, true, false, not, List, filter, length, Option, refl, ap, ◌∙◌, subst, arith}
use Rattle.std.{proofs.lemmas.Bool.{and_left, eqb-true, eq-eqb, false_from_ne_true}, specs.{List.list_any, Prelude.{ℤ, min, IsTrue}}}
use Rattle.{iodef_tree.specs.Text.{Tokens, is_root}, policy.specs.declared.{gate.Gate.Gate as CaseGate, permission.Permission.Permission as CasePermission}}
use Rattle.{circle.{proofs.Keeping.{each_weaker, found_then}, specs.{Ordered.put_by, Sound.Each}}, hub_state.proofs.Counted.{gates_counted, gates_exchanged}}
use Rattle.hub_state.proofs.{Counted.{recipients_counted, recipients_left, permissions_counted, permissions_left}, Keeping.{never, found_any, found_passing}}
use Rattle.hub_state.{proofs.Keeping.{count_left, count_next, count_more, count_none, at_most, some_is}, specs.{Documents.is_class_in, Edits.edited}}
use Rattle.hub_state.specs.{Reads.{its_gates, its_permissions, its_recipients}, Sound.{IsSound, IsIncident}, State.{State, gate_cmp, recipient_cmp}}
use Rattle.hub_state.specs.State.{permission_cmp, gate_with, permission_with, incident_in, of_incident, is_gate_at, is_recipient_being, is_permission_being}
use Rattle.hub_state.specs.{State.{class_gates, recipients_of, permissions_of}, declared.TheConstants.{GATE_LIMIT, RECIPIENT_LIMIT, PERMISSION_LIMIT}}
use Rattle.hub_state.specs.declared.{request.Target.Target, state.{Gate.Gate, GateKey.GateKey, Incident.Incident, Permission.Permission}}
use Rattle.hub_state.specs.{declared.state.{PermissionKey.PermissionKey, Recipient.Recipient}, inner.Questions.{class_gates_among, class_gates_with}}
use Rattle.hub_state.specs.inner.Questions.{targets_beside, permissions_beside}
use Rattle.hub_state.specs.declared.edit.Edit.TheVariants as edit

-- ---- rows belong to an incident that is there

owner : (incidents : List Incident) (test : Incident → Bool) (m : ℕ) → IsTrue (of_incident test m incidents) → IsIncident incidents m
owner incidents test m h =
    let found = found_passing test (incident_in m incidents) h in
    found_any (λ (i : Incident). i.naming.number == m) incidents (some_is (incident_in m incidents) found.0 found.1)

apart : (incidents : List Incident) (m n : ℕ) → IsIncident incidents m → list_any (λ (i : Incident). i.naming.number == n) incidents ≡ false → (m == n) ≡ false
apart incidents m n there none = false_from_ne_true (m == n) (λ h. never (list_any (λ (i : Incident). i.naming.number == n) incidents) (subst (IsIncident incidents) (eqb-true m n h) there) none)

-- what holds of each incident's count holds for every number, as a missing incident has no rows
few : (count : ℕ → ℕ) (limit n : ℕ) (incidents : List Incident) → Each (λ (i : Incident). count i.naming.number ≤ limit) incidents →
    (list_any (λ (i : Incident). i.naming.number == n) incidents ≡ false → count n ≡ 0) → count n ≤ limit
few count limit n incidents all none = split (list_any (λ (i : Incident). i.naming.number == n) incidents) refl
  where
    split : (b : Bool) → list_any (λ (i : Incident). i.naming.number == n) incidents ≡ b → count n ≤ limit
    split true is = found_then (λ (i : Incident). i.naming.number == n) (λ (i : Incident). count i.naming.number ≤ limit) (count n ≤ limit) incidents (λ i same low. subst (λ m. count m ≤ limit) (eqb-true i.naming.number n same) low) is all
    split false is = let zero = none is in omega arith

few_gates : (s : State) (n : ℕ) → IsSound s → class_gates n s.gates ≤ GATE_LIMIT
few_gates s n sound = few (λ m. class_gates m s.gates) GATE_LIMIT n s.incidents sound.gates.limit (λ none.
    count_none (λ (g : Gate). g.incident == n && not (is_root g.gate.path)) s.gates (each_weaker _ _ s.gates (λ g there.
    and_left (g.incident == n) (not (is_root g.gate.path)) (apart s.incidents g.incident n (owner s.incidents (λ (i : Incident). is_root g.gate.path || is_class_in i.document g.gate.path) g.incident there) none)) sound.gates.places))

few_recipients : (s : State) (n : ℕ) → IsSound s → recipients_of n s.recipients ≤ RECIPIENT_LIMIT
few_recipients s n sound = few (λ m. recipients_of m s.recipients) RECIPIENT_LIMIT n s.incidents sound.recipients.limit (λ none.
    count_none (λ (r : Recipient). r.incident == n) s.recipients (each_weaker _ _ s.recipients (λ r there. apart s.incidents r.incident n there none) sound.recipients.ends))

pub few_permissions : (s : State) (n : ℕ) → IsSound s → permissions_of n s.permissions ≤ PERMISSION_LIMIT
few_permissions s n sound = few (λ m. permissions_of m s.permissions) PERMISSION_LIMIT n s.incidents sound.permissions.limit (λ none.
    count_none (λ (x : Permission). x.incident == n) s.permissions (each_weaker _ _ s.permissions (λ x there.
    apart s.incidents x.incident n (owner s.incidents (λ (i : Incident). is_class_in i.document x.permission.path) x.incident there) none) sound.permissions.places))

-- ---- the counts as u32, of the rows that there are and that there would be

pub gates_told : (s : State) (n : ℕ) (gates : List CaseGate) → IsSound s → gates ≡ its_gates n s.gates → min (class_gates_among gates) 4294967295 ≡ class_gates n s.gates
gates_told s n gates sound is =
    let same : class_gates_among gates ≡ class_gates n s.gates = ap class_gates_among is ∙ gates_counted n s.gates in
    let few = few_gates s n sound in
    omega arith

-- a gate in the place of the one at its path
pub gates_told_with : (s : State) (n : ℕ) (p : Tokens) (level : ℕ) (group : Option ℕ) (gates : List CaseGate) → IsSound s → gates ≡ its_gates n s.gates →
    min (class_gates_with p gates) 4294967295 ≡ class_gates n (edited (edit.PutGate (gate_with (record { incident = n; path = p }) level group)) (edited (edit.TakeGate (record { incident = n; path = p })) s)).gates
gates_told_with s n p level group gates sound is =
    let key : GateKey = record { incident = n; path = p } in
    let test : Gate → Bool = λ (g : Gate). g.incident == n && not (is_root g.gate.path) in
    let other : Gate → Bool = λ (g : Gate). not (is_gate_at key g) in
    let same : class_gates_with p gates ≡ class_gates n (put_by gate_cmp (gate_with key level group) (filter other s.gates)) = ap (class_gates_with p) is ∙ gates_exchanged n p level group s.gates in
    let few = few_gates s n sound in
    let left = count_left test other s.gates in
    let more = count_next test gate_cmp (gate_with key level group) (filter other s.gates) in
    omega arith

pub recipients_told : (s : State) (n : ℕ) (targets : List Target) → IsSound s → targets ≡ its_recipients n s.recipients → min (length targets) 4294967295 ≡ recipients_of n s.recipients
recipients_told s n targets sound is =
    let same : length targets ≡ recipients_of n s.recipients = ap length is ∙ recipients_counted n s.recipients in
    let few = few_recipients s n sound in
    omega arith

pub recipients_told_left : (s : State) (n : ℕ) (target : Target) (targets : List Target) → IsSound s → targets ≡ its_recipients n s.recipients →
    min (targets_beside target targets) 4294967295 ≡ recipients_of n (edited (edit.TakeRecipient (record { incident = n; target = target })) s).recipients
recipients_told_left s n target targets sound is =
    let other : Recipient → Bool = λ (r : Recipient). not (is_recipient_being n target r) in
    let same : targets_beside target targets ≡ recipients_of n (filter other s.recipients) = ap (targets_beside target) is ∙ recipients_left n target s.recipients in
    let few = at_most _ _ RECIPIENT_LIMIT (count_left (λ (r : Recipient). r.incident == n) other s.recipients) (few_recipients s n sound) in
    omega arith

pub recipients_told_with : (s : State) (n : ℕ) (target : Target) (targets : List Target) (k : ℕ) → IsSound s → targets ≡ its_recipients n s.recipients → k ≡ min (min (targets_beside target targets) 4294967295 + 1) (2 ^ 32 - 1) →
    k ≡ recipients_of n (edited (edit.PutRecipient (record { incident = n; target = target })) (edited (edit.TakeRecipient (record { incident = n; target = target })) s)).recipients
recipients_told_with s n target targets k sound is more =
    let other : Recipient → Bool = λ (r : Recipient). not (is_recipient_being n target r) in
    let left = recipients_told_left s n target targets sound is in
    let few = at_most _ _ RECIPIENT_LIMIT (count_left (λ (r : Recipient). r.incident == n) other s.recipients) (few_recipients s n sound) in
    let next = count_more (λ (r : Recipient). r.incident == n) recipient_cmp (record { incident = n; target = target }) (filter other s.recipients) (eq-eqb n n refl) in
    omega arith

pub permissions_told : (s : State) (n : ℕ) (permissions : List CasePermission) → IsSound s → permissions ≡ its_permissions n s.permissions → min (length permissions) 4294967295 ≡ permissions_of n s.permissions
permissions_told s n permissions sound is =
    let same : length permissions ≡ permissions_of n s.permissions = ap length is ∙ permissions_counted n s.permissions in
    let few = few_permissions s n sound in
    omega arith

pub permissions_told_left : (s : State) (key : PermissionKey) (permissions : List CasePermission) → IsSound s → permissions ≡ its_permissions key.incident s.permissions →
    min (permissions_beside key.path key.grantee permissions) 4294967295 ≡ permissions_of key.incident (edited (edit.TakePermission key) s).permissions
permissions_told_left s key permissions sound is =
    let other : Permission → Bool = λ (x : Permission). not (is_permission_being key x) in
    let same : permissions_beside key.path key.grantee permissions ≡ permissions_of key.incident (filter other s.permissions) = ap (permissions_beside key.path key.grantee) is ∙ permissions_left key.incident key.path key.grantee s.permissions in
    let few = at_most _ _ PERMISSION_LIMIT (count_left (λ (x : Permission). x.incident == key.incident) other s.permissions) (few_permissions s key.incident sound) in
    omega arith

pub permissions_told_with : (s : State) (key : PermissionKey) (until : Option ℤ) (permissions : List CasePermission) (k : ℕ) → IsSound s → permissions ≡ its_permissions key.incident s.permissions → k ≡ min (min (permissions_beside key.path key.grantee permissions) 4294967295 + 1) (2 ^ 32 - 1) →
    k ≡ permissions_of key.incident (edited (edit.PutPermission (permission_with key until)) (edited (edit.TakePermission key) s)).permissions
permissions_told_with s key until permissions k sound is more =
    let other : Permission → Bool = λ (x : Permission). not (is_permission_being key x) in
    let left = permissions_told_left s key permissions sound is in
    let few = at_most _ _ PERMISSION_LIMIT (count_left (λ (x : Permission). x.incident == key.incident) other s.permissions) (few_permissions s key.incident sound) in
    let next = count_more (λ (x : Permission). x.incident == key.incident) permission_cmp (permission_with key until) (filter other s.permissions) (eq-eqb key.incident key.incident refl) in
    omega arith
