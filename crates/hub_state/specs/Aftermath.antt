-- What a request changes if nothing refuses it.
use Rattle.std.specs.Prelude.{ℕ, ℤ, ◌+◌, List, [], ◌∷◌, ◌++◌, map, Option, Some, None}
use Rattle.std.specs.List.{flat_map}
use Rattle.std.specs.Option.{option_map_or}
use Rattle.iodef_tree.specs.Text.{Tokens}
use Rattle.circle.specs.Aftermath.{greatest, rows_of}
use Rattle.circle.specs.declared.directory.Person.{Person}
use Rattle.hub_state.specs.Documents.{Lines, documents_in, ident_of, made_at}
use Rattle.hub_state.specs.State.{State, incident_number, incident_of, gate_with, permission_with}
use Rattle.hub_state.specs.Edits.{with_edits}
use Rattle.hub_state.specs.declared.facts.IncidentFacts.{IncidentFacts}
use Rattle.hub_state.specs.declared.facts.Facts.{Facts}
use Rattle.hub_state.specs.declared.state.Incident.{Incident}
use Rattle.hub_state.specs.declared.state.GateKey.{GateKey}
use Rattle.hub_state.specs.declared.state.PermissionKey.{PermissionKey}
use Rattle.hub_state.specs.declared.edit.Edit.{Edit}
use Rattle.hub_state.specs.declared.edit.Edit.TheVariants.{Directory, PutIncident, TakeIncident, TakePolicy, PutGate, TakeGate, PutRecipient, TakeRecipient}
use Rattle.hub_state.specs.declared.edit.Edit.TheVariants.{PutPermission, TakePermission}
use Rattle.hub_state.specs.declared.request.WantedGate.{WantedGate}
use Rattle.hub_state.specs.declared.request.Distribution.{Distribution}
use Rattle.hub_state.specs.declared.request.Request.{Request}
use Rattle.circle.specs.Aftermath as circle
use Rattle.hub_state.specs.declared.request.Request.TheVariants as ask

-- the number of the next incident: one more than the greatest, or 1
abbrev pub next_incident : State → ℕ
next_incident s = greatest (map incident_number s.incidents) + 1

-- the edit that puts one gate: its incident, level, group or none, and path
abbrev pub put_gate : ℕ → ℕ → Option ℕ → Tokens → List Edit
put_gate n level group p = PutGate (record { incident = n; gate = record { path = p; level = level; group = group } }) ∷ []

-- the edits that put the gate at the root of an incident and the gates of the distribution at its classes
abbrev pub put_gates : ℕ → Distribution → List Edit
put_gates n d = put_gate n d.level d.group []
    ++ flat_map (λ (g : WantedGate). made_at (put_gate n g.level g.group) g.path) d.gates

-- the edits that put a new incident in revision 1, with the community that it names, and its gates
abbrev pub put_incident : ℕ → ℕ → Distribution → Lines → List Edit
put_incident source n d doc =
    PutIncident (record { naming = record { number = n; source = source; ident = ident_of doc; revision = 1; community = d.community }; document = doc })
    ∷ put_gates n d

-- the edits that put a new incident for each document of a body, in order; the incidents are numbered from n on
abbrev pub put_incidents : ℕ → ℕ → Distribution → List Lines → List Edit
put_incidents source n d [] = []
put_incidents source n d (doc ∷ docs) = put_incident source n d doc ++ put_incidents source (n + 1) d docs

-- ---- by the rows of a state

-- the row of an incident in its next revision, with this document and this community or none
abbrev pub revised : Option ℕ → Lines → Incident → Incident
revised community doc i = record {
  naming = record i.naming { revision = i.naming.revision + 1; community = community };
  document = doc;
}

-- takes the row out and puts it back in its next revision, with the first of these documents
abbrev pub put_revised : Option ℕ → List Lines → Incident → List Edit
put_revised community [] i = []
put_revised community (doc ∷ docs) i = TakeIncident i.naming.number ∷ PutIncident (revised community doc i) ∷ []

-- the edits of a person's request, by the rows of the state; none if the request only reads
abbrev pub edits_of : State → Person → Request → List Edit
edits_of s a (ask.Circle command) = map Directory (rows_of (circle.edit_of (circle.next_in s.directory command) a command))
edits_of s a (ask.Post r) = put_incidents a.org (next_incident s) r.distribution (documents_in r.document)
edits_of s a (ask.Replace r) =
    option_map_or (put_revised r.distribution.community (documents_in r.document)) (incident_of r.incident s) []
    ++ TakePolicy r.incident ∷ put_gates r.incident r.distribution
edits_of s a (ask.Redistribute r) =
    made_at (λ p. let key : GateKey = record { incident = r.incident; path = p } in TakeGate key ∷ PutGate (gate_with key r.level r.group) ∷ []) r.path
edits_of s a (ask.Address r) = PutRecipient (record { incident = r.incident; target = r.target }) ∷ []
edits_of s a (ask.Unaddress r) = TakeRecipient (record { incident = r.incident; target = r.target }) ∷ []
edits_of s a (ask.Grant r) =
    made_at (λ p. let key : PermissionKey = record { incident = r.incident; path = p; grantee = r.grantee } in TakePermission key ∷ PutPermission (permission_with key r.until) ∷ []) r.path
edits_of s a (ask.Withdraw r) =
    made_at (λ p. TakePermission (record { incident = r.incident; path = p; grantee = r.grantee }) ∷ []) r.path
edits_of s a _ = []

-- the state after these edits, if nothing refuses the request
abbrev pub changed : State → Person → Request → State
changed s actor request = with_edits (edits_of s actor request) s

-- ---- by the facts

-- the row of an incident in its next revision, with this document and this community or none, made of its facts
abbrev pub next_row : ℕ → IncidentFacts → Option ℕ → Lines → Incident
next_row n k community doc = record { naming = record { number = n; source = k.source; ident = k.ident; revision = k.revision + 1; community = community }; document = doc }

-- exchanges the row of an incident for its next revision, with the first of these documents
abbrev pub put_revision : ℕ → IncidentFacts → Option ℕ → List Lines → List Edit
put_revision n k community [] = []
put_revision n k community (doc ∷ docs) = TakeIncident n ∷ PutIncident (next_row n k community doc) ∷ []

-- the edits of put_revision if the incident is there, and no edit if it is missing
abbrev pub put_next : ℕ → Option IncidentFacts → Option ℕ → List Lines → List Edit
put_next n None community docs = []
put_next n (Some k) community docs = put_revision n k community docs

-- takes out the permission of this key, whatever its end, and puts the one with this end
abbrev pub put_permission : PermissionKey → Option ℤ → List Edit
put_permission k until = TakePermission k ∷ PutPermission (permission_with k until) ∷ []

-- the edits of a person's request, by the number of the next row of its kind and the facts of the incident that it
-- names
abbrev pub edits_from : ℕ → Option IncidentFacts → Person → Request → List Edit
edits_from next known a (ask.Circle command) = map Directory (rows_of (circle.edit_of next a command))
edits_from next known a (ask.Post r) = put_incidents a.org next r.distribution (documents_in r.document)
edits_from next known a (ask.Replace r) =
    put_next r.incident known r.distribution.community (documents_in r.document)
    ++ TakePolicy r.incident ∷ put_gates r.incident r.distribution
edits_from next known a (ask.Redistribute r) =
    made_at (λ p. TakeGate (record { incident = r.incident; path = p }) ∷ put_gate r.incident r.level r.group p) r.path
edits_from next known a (ask.Address r) = PutRecipient (record { incident = r.incident; target = r.target }) ∷ []
edits_from next known a (ask.Unaddress r) = TakeRecipient (record { incident = r.incident; target = r.target }) ∷ []
edits_from next known a (ask.Grant r) =
    made_at (λ p. put_permission (record { incident = r.incident; path = p; grantee = r.grantee }) r.until) r.path
edits_from next known a (ask.Withdraw r) =
    made_at (λ p. TakePermission (record { incident = r.incident; path = p; grantee = r.grantee }) ∷ []) r.path
edits_from next known a _ = []

-- the edits of a person's request, by its facts: what `judge` returns
abbrev pub edits_by : Facts → Person → Request → List Edit
edits_by f a request = edits_from (f.circle.count + 1) f.incident a request
