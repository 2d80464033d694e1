-- The facts of a request: what the shelf looks up for it.
use Rattle.std.specs.Prelude.{ℕ, Bool, true, false, min, List, [], ◌∷◌, length, Option, Some, None, is_some, option_map, if◌then◌else◌}
use Rattle.std.specs.List.{filter_map}
use Rattle.circle.specs.declared.command.CircleFacts.{CircleFacts}
use Rattle.circle.specs.declared.directory.Person.{Person}
use Rattle.hub_state.specs.Documents.{Lines, documents_in, ident_of, at_pointer}
use Rattle.hub_state.specs.State.{State, incident_of, incident_named, has_gate, has_recipient, has_permission, has_permission_until, class_gates, recipients_of}
use Rattle.hub_state.specs.State.{permissions_of}
use Rattle.hub_state.specs.Edits.{with_edits}
use Rattle.hub_state.specs.Requests.{incident_asked, looked_up, known_of, has_joined_all, is_own_group, is_target, is_grantee, is_active}
use Rattle.hub_state.specs.Aftermath.{changed}
use Rattle.hub_state.specs.declared.edit.Edit.TheVariants.{PutRecipient, TakeRecipient}
use Rattle.hub_state.specs.declared.state.Incident.{Incident}
use Rattle.hub_state.specs.declared.state.Recipient.{Recipient}
use Rattle.hub_state.specs.declared.facts.Facts.{Facts}
use Rattle.hub_state.specs.declared.request.Request.{Request}
use Rattle.circle.specs.Facts as circle
use Rattle.hub_state.specs.declared.request.Request.TheVariants as ask

-- ---- what was posted before

-- the number of the first of these incidents
abbrev pub first_number : List Incident → Option ℕ
first_number [] = None
first_number (i ∷ is) = Some i.naming.number

-- the number of the incident that the source has posted under the ident of a document, for the first document with one
abbrev pub posted_in : State → ℕ → List Lines → Option ℕ
posted_in s source docs = first_number (filter_map (λ (doc : Lines). incident_named source (ident_of doc) s) docs)

-- for a Post, the number of the first incident of the body that the actor's organisation has posted before
abbrev pub posted_of : State → Person → Request → Option ℕ
posted_of s a (ask.Post r) = posted_in s a.org (documents_in r.document)
posted_of s a _ = None

-- ---- counts after the change

-- a count for the incident that the request names, and 0 if it is missing
abbrev pub counted : State → Option ℕ → (ℕ → ℕ) → ℕ
counted s None count = 0
counted s (Some n) count = if is_some (incident_of n s) then count n else 0

-- the length of a list, at most the greatest u32
abbrev pub length_as_u32 : {X : Type 0} → List X → ℕ
length_as_u32 xs = min (length xs) 4294967295

-- How many class gates there would be after the change. A Post or a Replace gives an incident all its gates, so it is
-- their number.
abbrev pub gates_then : State → Person → Request → ℕ
gates_then s a (ask.Post r) = length_as_u32 r.distribution.gates
gates_then s a (ask.Replace r) = counted s (Some r.incident) (λ n. length_as_u32 r.distribution.gates)
gates_then s a request = counted s (incident_asked request) (λ n. class_gates n (changed s a request).gates)

-- How many recipients there would be after the change. A recipient that is there already counts once.
abbrev pub recipients_then : State → Person → Request → ℕ
recipients_then s a (ask.Address r) =
    let row : Recipient = record { incident = r.incident; target = r.target } in
    counted s (Some r.incident) (λ n.
    recipients_of n (with_edits (TakeRecipient row ∷ PutRecipient row ∷ []) s).recipients)
recipients_then s a request = counted s (incident_asked request) (λ n. recipients_of n (changed s a request).recipients)

-- how many permissions there would be after the change
abbrev pub permissions_then : State → Person → Request → ℕ
permissions_then s a request =
    counted s (incident_asked request) (λ n. permissions_of n (changed s a request).permissions)

-- ---- the facts

-- the directory's facts for a request that isn't one of its own commands
abbrev pub plain_facts : Bool → Bool → ℕ → CircleFacts
plain_facts exists stands count = record {
  exists = exists;
  may_extend = false;
  owner = false;
  target_is_owner = false;
  own_person = false;
  stands = stands;
  count = count;
}

-- whether all that the ground N2 asks for is there
abbrev pub exists_in : State → Person → Request → Bool
exists_in s a (ask.Post r) = has_joined_all s a r.distribution
exists_in s a (ask.Replace r) = has_joined_all s a r.distribution
exists_in s a (ask.Redistribute r) = is_own_group s a r.group
exists_in s a (ask.Address r) = is_target s.directory r.target
exists_in s a (ask.Grant r) = is_grantee s.directory a.org r.grantee
exists_in s a (ask.Explain r) = is_active s.directory r.person
exists_in s a _ = true

-- whether the row that the request would put or take out is there
abbrev pub stands_in : State → Request → Bool
stands_in s (ask.Redistribute r) = at_pointer (λ p. has_gate (record { incident = r.incident; path = p }) r.level r.group s) r.path
stands_in s (ask.Address r) = has_recipient r.incident r.target s
stands_in s (ask.Unaddress r) = has_recipient r.incident r.target s
stands_in s (ask.Grant r) = at_pointer (λ p. has_permission_until (record { incident = r.incident; path = p; grantee = r.grantee }) r.until s) r.path
stands_in s (ask.Withdraw r) = at_pointer (λ p. has_permission (record { incident = r.incident; path = p; grantee = r.grantee }) s) r.path
stands_in s _ = false

-- for a Post, how many incidents there are
abbrev pub count_in : State → Request → ℕ
count_in s (ask.Post r) = length s.incidents
count_in s _ = 0

-- the directory's facts of a request
abbrev pub circle_facts_of : State → Person → Request → CircleFacts
circle_facts_of s a (ask.Circle command) = circle.facts_of s.directory a command
circle_facts_of s a request = plain_facts (exists_in s a request) (stands_in s request) (count_in s request)

-- the facts of a request: a function of the state, the actor and the request
abbrev pub facts_of : State → Person → Request → Facts
facts_of s a request = record {
  circle = circle_facts_of s a request;
  incident = known_of s request;
  document = option_map (λ (i : Incident). i.document) (looked_up s (incident_asked request));
  posted = posted_of s a request;
  gates = gates_then s a request;
  recipients = recipients_then s a request;
  permissions = permissions_then s a request;
}
