-- What a request names.
use Rattle.std.specs.Prelude.{ℕ, Bool, true, false, ◌&&◌, Option, Some, None, option_map}
use Rattle.std.specs.List.{list_all}
use Rattle.std.specs.Option.{option_map_or}
use Rattle.policy.specs.declared.permission.Grantee.{Grantee}
use Rattle.circle.specs.Directory.{Directory, has_org, has_person, has_community, has_membership, has_group_member}
use Rattle.circle.specs.Reads.{person_of}
use Rattle.circle.specs.declared.directory.Person.{Person}
use Rattle.hub_state.specs.State.{State, incident_of}
use Rattle.hub_state.specs.declared.facts.IncidentFacts.{IncidentFacts}
use Rattle.hub_state.specs.declared.state.Incident.{Incident}
use Rattle.hub_state.specs.declared.request.Target.{Target}
use Rattle.hub_state.specs.declared.request.Distribution.{Distribution}
use Rattle.hub_state.specs.declared.request.WantedGate.{WantedGate}
use Rattle.hub_state.specs.declared.request.Request.{Request}
use Rattle.policy.specs.declared.permission.Grantee.TheVariants as grantee
use Rattle.hub_state.specs.declared.request.Target.TheVariants as target
use Rattle.hub_state.specs.declared.request.Request.TheVariants as ask

-- ---- the incident

-- the number of the incident that a request names, if it names one
abbrev pub incident_asked : Request → Option ℕ
incident_asked (ask.Replace r) = Some r.incident
incident_asked (ask.Redistribute r) = Some r.incident
incident_asked (ask.Address r) = Some r.incident
incident_asked (ask.Unaddress r) = Some r.incident
incident_asked (ask.Grant r) = Some r.incident
incident_asked (ask.Withdraw r) = Some r.incident
incident_asked (ask.View n) = Some n
incident_asked (ask.Sharing n) = Some n
incident_asked (ask.Explain r) = Some r.incident
incident_asked _ = None

-- the incident of this number, if there is a number and such an incident
abbrev pub looked_up : State → Option ℕ → Option Incident
looked_up s None = None
looked_up s (Some n) = incident_of n s

-- the facts of an incident, without its document: source, revision and ident
abbrev pub incident_facts : Incident → IncidentFacts
incident_facts i = record { source = i.naming.source; revision = i.naming.revision; ident = i.naming.ident }

-- the facts of the incident that a request names, if it is there
abbrev pub known_of : State → Request → Option IncidentFacts
known_of s request = option_map incident_facts (looked_up s (incident_asked request))

-- ---- communities, groups, organisations, persons

-- the actor's organisation is a member of the community, if one is named; nobody is a member of a missing one
abbrev pub is_own_community : State → Person → Option ℕ → Bool
is_own_community s a None = true
is_own_community s a (Some community) = has_membership community a.org s.directory

-- the actor's organisation is a member of the group, if one is named
abbrev pub is_own_group : State → Person → Option ℕ → Bool
is_own_group s a None = true
is_own_group s a (Some group) = has_group_member group a.org s.directory

-- the actor's organisation is a member of each group that the distribution names
abbrev pub are_own_groups : State → Person → Distribution → Bool
are_own_groups s a d = is_own_group s a d.group && list_all (λ (g : WantedGate). is_own_group s a g.group) d.gates

-- the actor's organisation is a member of the community and of each group that the distribution names
abbrev pub has_joined_all : State → Person → Distribution → Bool
has_joined_all s a d = is_own_community s a d.community && are_own_groups s a d

-- the person or organisation is there
abbrev pub is_target : Directory → Target → Bool
is_target d (target.Person n) = has_person n d
is_target d (target.Org n) = has_org n d

-- the grantee is there; of a group the organisation must also be a member
abbrev pub is_grantee : Directory → ℕ → Grantee → Bool
is_grantee d org (grantee.Person n) = has_person n d
is_grantee d org (grantee.Org n) = has_org n d
is_grantee d org (grantee.Community n) = has_community n d
is_grantee d org (grantee.Group n) = has_group_member n org d

-- there is such a person, and it is active
abbrev pub is_active : Directory → ℕ → Bool
is_active d n = option_map_or (λ (p : Person). p.active) (person_of n d) false
