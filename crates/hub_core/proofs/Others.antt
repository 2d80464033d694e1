-- What a request leaves of the incidents that it doesn't name.
use Rattle.std.proofs.Common.{◌≡◌, ◌≢◌, ℕ, ◌+◌, ◌≤◌, ◌==◌, ◌&&◌, Bool, true, false, not, List, [], ◌∷◌, ◌++◌, length, map, filter, Option, Some, None, refl}
use Rattle.std.proofs.{Common.{sym, ap, ◌∙◌, subst, arith}, lemmas.Bool.{and_left, eqb-true, false_from_ne_true, ne_eqb, not-true, not_from_false}}
use Rattle.{std.specs.{List.flat_map, Option.option_map_or, Prelude.option_map}, hub_state.proofs.Keeping.{not_both, turned, find_put, find_left, filter_put}}
use Rattle.hub_state.{proofs.Keeping.{filter_left, filter_none}, specs.Aftermath.{changed, edits_of, next_incident, put_gate, put_gates, put_incident}}
use Rattle.hub_state.specs.{Aftermath.{put_incidents, put_next, put_permission}, Documents.{Lines, documents_in, made_at}, Edits.{with_edits, edited}}
use Rattle.hub_state.specs.{Facts.facts_of, Requests.incident_facts, Sound.IsSound, State.{State, incident_number, incident_of, gate_cmp, recipient_cmp}}
use Rattle.hub_state.specs.State.{permission_cmp, is_gate_at, is_recipient_being, is_permission_being, same_target, same_grantee}
use Rattle.hub_state.specs.declared.{TheConstants.INCIDENT_LIMIT, edit.Edit.{Edit, TheVariants.{Directory, PutIncident, TakeIncident, TakePolicy, PutGate}}}
use Rattle.hub_state.specs.declared.edit.Edit.TheVariants.{TakeGate, PutRecipient, TakeRecipient, PutPermission, TakePermission}
use Rattle.hub_state.specs.declared.{facts.IncidentFacts.IncidentFacts, request.{Distribution.Distribution, Request.Request, WantedGate.WantedGate}}
use Rattle.{hub_state.specs.declared.state.{Gate.Gate, Incident.Incident, Permission.Permission, Recipient.Recipient}, iodef_tree.specs.Pointer.pointer_tokens}
use Rattle.{iodef_tree.specs.Text.{Tokens, same_path}, circle.{proofs.{Judged.{passed, next_number}, Keeping.names_within}, specs.Aftermath.rows_of}}
use Rattle.circle.specs.{Ordered.by_number, Sound.Each, declared.{command.RowEdit.RowEdit, directory.Person.Person, refusal.Refusal.Refusal}}
use Rattle.hub_core.{proofs.{Agrees.agrees, ByRows.replace_edits, Gated.after_append, Named.{own, is_incident}}, specs.Judgement.{grounds_by, is_own}}
use Rattle.hub_core.specs.{Laws.{OthersStay, ReplacesTakePermissionsOut}, Others.{LeavesIncident, HasPermissionsTakenOut, recipients_at, permissions_at}}
use Rattle.hub_core.specs.Refusals.{refusal_of, unless_refused}
use Rattle.circle.specs.Aftermath as circle
use Rattle.hub_state.specs.declared.request.Request.TheVariants as ask

-- ---- one edit

-- the edit is of another incident or of the directory
abbrev Spares : ℕ → Edit → Type 0
Spares n (Directory edit) = Unit {0}
Spares n (PutIncident i) = (i.naming.number == n) ≡ false
Spares n (TakeIncident m) = (m == n) ≡ false
Spares n (TakePolicy m) = (m == n) ≡ false
Spares n (PutGate g) = (g.incident == n) ≡ false
Spares n (TakeGate key) = (key.incident == n) ≡ false
Spares n (PutRecipient r) = (r.incident == n) ≡ false
Spares n (TakeRecipient r) = (r.incident == n) ≡ false
Spares n (PutPermission x) = (x.incident == n) ≡ false
Spares n (TakePermission key) = (key.incident == n) ≡ false

-- a row of one incident isn't a row of another
is_other : (m n k : ℕ) → (m == n) ≡ false → (k == n) ≡ true → not (k == m) ≡ true
is_other m n k h e = not_from_false (k == m) (not_both k n m (turned m n h) e)

is_no_such : (m n k : ℕ) (b : Bool) → (m == n) ≡ false → (k == n) ≡ true → not (k == m && b) ≡ true
is_no_such m n k b h e = not_from_false (k == m && b) (and_left (k == m) b (not_both k n m (turned m n h) e))

spared_by : (n : ℕ) (edit : Edit) (s : State) → Spares n edit → LeavesIncident n s (edited edit s)
spared_by n (Directory edit) s h = record { row = refl; gates = refl; recipients = refl; permissions = refl }
spared_by n (PutIncident i) s h = record { row = find_put (λ (x : Incident). x.naming.number == n) (by_number incident_number) i s.incidents h; gates = refl; recipients = refl; permissions = refl }
spared_by n (TakeIncident m) s h = record { row = find_left (λ (x : Incident). x.naming.number == n) (λ (x : Incident). not (x.naming.number == m)) s.incidents (λ x e. is_other m n x.naming.number h e); gates = refl; recipients = refl; permissions = refl }
spared_by n (TakePolicy m) s h = record {
  row = refl;
  gates = filter_left (λ (g : Gate). g.incident == n) (λ (g : Gate). not (g.incident == m)) s.gates (λ g e. is_other m n g.incident h e);
  recipients = refl;
  permissions = filter_left (λ (x : Permission). x.incident == n) (λ (x : Permission). not (x.incident == m)) s.permissions (λ x e. is_other m n x.incident h e);
}
spared_by n (PutGate g) s h = record { row = refl; gates = filter_put (λ (x : Gate). x.incident == n) gate_cmp g s.gates h; recipients = refl; permissions = refl }
spared_by n (TakeGate key) s h = record { row = refl; gates = filter_left (λ (g : Gate). g.incident == n) (λ (g : Gate). not (is_gate_at key g)) s.gates (λ g e. is_no_such key.incident n g.incident (same_path g.gate.path key.path) h e); recipients = refl; permissions = refl }
spared_by n (PutRecipient r) s h = record { row = refl; gates = refl; recipients = filter_put (λ (x : Recipient). x.incident == n) recipient_cmp r s.recipients h; permissions = refl }
spared_by n (TakeRecipient r) s h = record { row = refl; gates = refl; recipients = filter_left (λ (x : Recipient). x.incident == n) (λ (x : Recipient). not (is_recipient_being r.incident r.target x)) s.recipients (λ x e. is_no_such r.incident n x.incident (same_target x.target r.target) h e); permissions = refl }
spared_by n (PutPermission x) s h = record { row = refl; gates = refl; recipients = refl; permissions = filter_put (λ (y : Permission). y.incident == n) permission_cmp x s.permissions h }
spared_by n (TakePermission key) s h = record { row = refl; gates = refl; recipients = refl; permissions = filter_left (λ (x : Permission). x.incident == n) (λ (x : Permission). not (is_permission_being key x)) s.permissions (λ x e. is_no_such key.incident n x.incident (same_path x.permission.path key.path && same_grantee x.permission.grantee key.grantee) h e) }

-- ---- all edits

spared : (n : ℕ) (edits : List Edit) (s : State) → Each (Spares n) edits → LeavesIncident n s (with_edits edits s)
spared n [] s h = record { row = refl; gates = refl; recipients = refl; permissions = refl }
spared n (edit ∷ edits) s h =
    let first = spared_by n edit s h.0 in
    let rest = spared n edits (edited edit s) h.1 in
    record { row = rest.row ∙ first.row; gates = rest.gates ∙ first.gates; recipients = rest.recipients ∙ first.recipients; permissions = rest.permissions ∙ first.permissions }

module _ (P : Edit → Type 0) where
  each_append : (xs ys : List Edit) → Each P xs → Each P ys → Each P (xs ++ ys)
  each_append [] ys h k = k
  each_append (x ∷ xs) ys h k = (h.0, each_append xs ys h.1 k)

  -- made at a pointer's path, if there is one
  each_made : (make : Tokens → List Edit) (o : Option Tokens) → ((p : Tokens) → Each P (make p)) → Each P (option_map_or make o [])
  each_made make None h = tt
  each_made make (Some p) h = h p

  -- the gates of the request
  each_wanted : (m : ℕ) (gates : List WantedGate) → ((g : WantedGate) (p : Tokens) → Each P (put_gate m g.level g.group p)) → Each P (flat_map (λ (g : WantedGate). made_at (put_gate m g.level g.group) g.path) gates)
  each_wanted m [] h = tt
  each_wanted m (g ∷ gs) h =
      each_append (made_at (put_gate m g.level g.group) g.path) (flat_map (λ (g : WantedGate). made_at (put_gate m g.level g.group) g.path) gs)
      (each_made (put_gate m g.level g.group) (pointer_tokens g.path) (h g)) (each_wanted m gs h)

gates_spare : (n m : ℕ) (d : Distribution) → (m == n) ≡ false → Each (Spares n) (put_gates m d)
gates_spare n m d h = (h, each_wanted (Spares n) m d.gates (λ g p. (h, tt)))

next_spares : (n m : ℕ) (k : Option IncidentFacts) (community : Option ℕ) (docs : List Lines) → (m == n) ≡ false → Each (Spares n) (put_next m k community docs)
next_spares n m None community docs h = tt
next_spares n m (Some k) community [] h = tt
next_spares n m (Some k) community (doc ∷ docs) h = (h, (h, tt))

-- the numbers from n on are above the number
incidents_spare : (n source m : ℕ) (d : Distribution) (docs : List Lines) → n + 1 ≤ m → Each (Spares n) (put_incidents source m d docs)
incidents_spare n source m d [] h = tt
incidents_spare n source m d (doc ∷ docs) h =
    let other : (m == n) ≡ false = ne_eqb m n (λ e. absurd (omega arith)) in
    each_append (Spares n) (put_incident source m d doc) (put_incidents source (m + 1) d docs) (other, gates_spare n m d other) (incidents_spare n source (m + 1) d docs (omega arith))

rows_spare : (n : ℕ) (rows : List RowEdit) → Each (Spares n) (map Directory rows)
rows_spare n [] = tt
rows_spare n (row ∷ rows) = (tt, rows_spare n rows)

-- ---- every request

one_row : (x y : Incident) → Some x ≡ Some y → x ≡ y
one_row x y e = cc

-- an incident of the actor's organisation isn't another organisation's
not_theirs : (s : State) (a : Person) (n : ℕ) (i : Incident) → incident_of i.naming.number s ≡ Some i → i.naming.source ≢ a.org → not (is_own (option_map incident_facts (incident_of n s)) a) ≡ false → (n == i.naming.number) ≡ false
not_theirs s a n i found other h =
    let it = own s a n h in
    false_from_ne_true (n == i.naming.number) (λ e. other (sym (ap (λ (x : Incident). x.naming.source) (one_row it.incident i (sym it.found ∙ (ap (λ m. incident_of m s) (eqb-true n i.naming.number e) ∙ found)))) ∙ it.source))

all_spared : (s : State) (a : Person) (r : Request) (i : Incident) → IsSound s → incident_of i.naming.number s ≡ Some i → i.naming.source ≢ a.org → refusal_of s a r ≡ None → Each (Spares i.naming.number) (edits_of s a r)
all_spared s a (ask.Circle command) i h found other fine = rows_spare i.naming.number (rows_of (circle.edit_of (circle.next_in s.directory command) a command))
all_spared s a (ask.Post r) i h found other fine =
    let next : next_incident s ≡ length s.incidents + 1 = next_number incident_number INCIDENT_LIMIT s.incidents h.incidents.numbered in
    let low : i.naming.number ≤ 0 + length s.incidents = names_within incident_number 0 i.naming.number s.incidents h.incidents.numbered.0 (is_incident s i.naming.number i found) in
    incidents_spare i.naming.number a.org (next_incident s) r.distribution (documents_in r.document) (omega (arith, next, low))
all_spared s a (ask.Replace r) i h found other fine =
    let n = r.incident in
    let p = passed (grounds_by (facts_of s a (ask.Replace r)) a (ask.Replace r)) (agrees s a (ask.Replace r) ∙ fine) in
    let apart : (n == i.naming.number) ≡ false = not_theirs s a n i found other p.1.1.1.1.1.1.1.0 in
    let docs = documents_in r.document in
    let k = option_map incident_facts (incident_of n s) in
    subst (Each (Spares i.naming.number)) (sym (replace_edits s a r))
    (each_append (Spares i.naming.number) (put_next n k r.distribution.community docs) (TakePolicy n ∷ put_gates n r.distribution)
    (next_spares i.naming.number n k r.distribution.community docs apart)
    (apart, gates_spare i.naming.number n r.distribution apart))
all_spared s a (ask.Redistribute r) i h found other fine =
    let p = passed (grounds_by (facts_of s a (ask.Redistribute r)) a (ask.Redistribute r)) (agrees s a (ask.Redistribute r) ∙ fine) in
    let apart : (r.incident == i.naming.number) ≡ false = not_theirs s a r.incident i found other p.1.1.1.1.0 in
    each_made (Spares i.naming.number) (λ p. TakeGate (record { incident = r.incident; path = p }) ∷ put_gate r.incident r.level r.group p) (pointer_tokens r.path) (λ q. (apart, (apart, tt)))
all_spared s a (ask.Address r) i h found other fine =
    let p = passed (grounds_by (facts_of s a (ask.Address r)) a (ask.Address r)) (agrees s a (ask.Address r) ∙ fine) in (not_theirs s a r.incident i found other p.1.0, tt)
all_spared s a (ask.Unaddress r) i h found other fine =
    let p = passed (grounds_by (facts_of s a (ask.Unaddress r)) a (ask.Unaddress r)) (agrees s a (ask.Unaddress r) ∙ fine) in (not_theirs s a r.incident i found other p.1.0, tt)
all_spared s a (ask.Grant r) i h found other fine =
    let p = passed (grounds_by (facts_of s a (ask.Grant r)) a (ask.Grant r)) (agrees s a (ask.Grant r) ∙ fine) in
    let apart : (r.incident == i.naming.number) ≡ false = not_theirs s a r.incident i found other p.1.1.0 in
    each_made (Spares i.naming.number) (λ p. put_permission (record { incident = r.incident; path = p; grantee = r.grantee }) r.until) (pointer_tokens r.path) (λ q. (apart, (apart, tt)))
all_spared s a (ask.Withdraw r) i h found other fine =
    let p = passed (grounds_by (facts_of s a (ask.Withdraw r)) a (ask.Withdraw r)) (agrees s a (ask.Withdraw r) ∙ fine) in
    let apart : (r.incident == i.naming.number) ≡ false = not_theirs s a r.incident i found other p.1.1.0 in
    each_made (Spares i.naming.number) (λ p. TakePermission (record { incident = r.incident; path = p; grantee = r.grantee }) ∷ []) (pointer_tokens r.path) (λ q. (apart, tt))
all_spared s a (ask.View n) i h found other fine = tt
all_spared s a (ask.Sharing n) i h found other fine = tt
all_spared s a (ask.Explain r) i h found other fine = tt
all_spared s a (ask.List after) i h found other fine = tt
all_spared s a (ask.Search r) i h found other fine = tt
all_spared s a (ask.Addressed after) i h found other fine = tt
all_spared s a ask.MyGroups i h found other fine = tt
all_spared s a ask.MyCommunities i h found other fine = tt
all_spared s a ask.WhoAmI i h found other fine = tt

pub others_stay : OthersStay
others_stay s a r i h found other = split (refusal_of s a r) refl
  where
    split : (o : Option Refusal) → refusal_of s a r ≡ o → LeavesIncident i.naming.number s (unless_refused o s (changed s a r))
    split None is = spared i.naming.number (edits_of s a r) s (all_spared s a r i h found other is)
    split (Some why) is = record { row = refl; gates = refl; recipients = refl; permissions = refl }

-- ---- another document takes out the permissions

-- the edit is of an incident or of a gate
abbrev IsPlain : Edit → Type 0
IsPlain (PutIncident i) = Unit {0}
IsPlain (TakeIncident m) = Unit {0}
IsPlain (PutGate g) = Unit {0}
IsPlain _ = ⊥

record Keeps (before after : State) : Type 0 where
  recipients : after.recipients ≡ before.recipients
  permissions : after.permissions ≡ before.permissions

keeps_by : (edit : Edit) (s : State) → IsPlain edit → Keeps s (edited edit s)
keeps_by (Directory edit) s h = absurd h
keeps_by (PutIncident i) s h = record { recipients = refl; permissions = refl }
keeps_by (TakeIncident m) s h = record { recipients = refl; permissions = refl }
keeps_by (TakePolicy m) s h = absurd h
keeps_by (PutGate g) s h = record { recipients = refl; permissions = refl }
keeps_by (TakeGate key) s h = absurd h
keeps_by (PutRecipient r) s h = absurd h
keeps_by (TakeRecipient r) s h = absurd h
keeps_by (PutPermission x) s h = absurd h
keeps_by (TakePermission key) s h = absurd h

keeps : (edits : List Edit) (s : State) → Each IsPlain edits → Keeps s (with_edits edits s)
keeps [] s h = record { recipients = refl; permissions = refl }
keeps (edit ∷ edits) s h =
    let first = keeps_by edit s h.0 in
    let rest = keeps edits (edited edit s) h.1 in
    record { recipients = rest.recipients ∙ first.recipients; permissions = rest.permissions ∙ first.permissions }

next_plain : (n : ℕ) (k : Option IncidentFacts) (community : Option ℕ) (docs : List Lines) → Each IsPlain (put_next n k community docs)
next_plain n None community docs = tt
next_plain n (Some k) community [] = tt
next_plain n (Some k) community (doc ∷ docs) = (tt, (tt, tt))

replaced : (s : State) (n : ℕ) (d : Distribution) (k : Option IncidentFacts) (docs : List Lines) → HasPermissionsTakenOut n s (with_edits (put_next n k d.community docs ++ TakePolicy n ∷ put_gates n d) s)
replaced s n d k docs =
    let first = put_next n k d.community docs in
    let t : State = with_edits first s in
    let u : State = edited (TakePolicy n) t in
    let one = keeps first s (next_plain n k d.community docs) in
    let two = keeps (put_gates n d) u (tt, each_wanted IsPlain n d.gates (λ g p. (tt, tt))) in
    let all : with_edits (first ++ TakePolicy n ∷ put_gates n d) s ≡ with_edits (put_gates n d) u = after_append first (TakePolicy n ∷ put_gates n d) s in
    record {
      permissions = ap (permissions_at n) all ∙ (ap (filter (λ (x : Permission). x.incident == n)) two.permissions ∙ filter_none (λ (x : Permission). x.incident == n) (λ (x : Permission). not (x.incident == n)) t.permissions (λ x h. not-true (x.incident == n) h));
      recipients = ap (recipients_at n) all ∙ ap (filter (λ (r : Recipient). r.incident == n)) (two.recipients ∙ one.recipients);
    }

pub replaces_take_permissions_out : ReplacesTakePermissionsOut
replaces_take_permissions_out s a r fine =
    let n = r.incident in
    subst (λ o. HasPermissionsTakenOut n s (unless_refused o s (changed s a (ask.Replace r)))) (sym fine)
    (subst (λ (edits : List Edit). HasPermissionsTakenOut n s (with_edits edits s)) (sym (replace_edits s a r)) (replaced s n r.distribution (option_map incident_facts (incident_of n s)) (documents_in r.document)))
