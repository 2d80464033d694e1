-- What a shelf reads, as functions of the state.
use Rattle.std.specs.Prelude.{ℕ, ℤ, Bool, false, ◌&&◌, ◌||◌, ◌==◌, nat_lt, List, map, filter, take, Option, is_none, option_map, option_and_then}
use Rattle.std.specs.List.{list_any, filter_map}
use Rattle.std.specs.Option.{option_map_or}
use Rattle.iodef_tree.specs.Text.{Bytes}
use Rattle.iodef_tree.specs.Paths.{located}
use Rattle.marking.specs.Marks.{first_bad_marking}
use Rattle.marking.specs.declared.label.Handling.{Handling}
use Rattle.policy.specs.declared.standing.Standing.{Standing}
use Rattle.policy.specs.declared.gate.Gate.{Gate as CaseGate}
use Rattle.policy.specs.declared.permission.Permission.{Permission as CasePermission}
use Rattle.policy.specs.declared.case.Case.{Case}
use Rattle.redact.specs.Told.{Told}
use Rattle.redact.specs.Excerpts.{served_of}
use Rattle.redact.specs.Wants.{meets}
use Rattle.redact.specs.declared.want.Want.{Want}
use Rattle.circle.specs.Directory.{Directory, has_membership}
use Rattle.circle.specs.Reads.{person_of_key, person_of, group_of, community_of, members_of, connected_to, communities_of, memberships_in_groups, groups_joined}
use Rattle.circle.specs.Reads.{active_groups_joined, orgs_whose_client, share_community, are_connected, arranged as arranged_with}
use Rattle.circle.specs.declared.directory.Person.{Person}
use Rattle.circle.specs.declared.directory.Client.{Client}
use Rattle.circle.specs.declared.directory.Community.{Community}
use Rattle.circle.specs.declared.directory.Group.{Group}
use Rattle.circle.specs.declared.directory.GroupMember.{GroupMember}
use Rattle.hub_state.specs.Documents.{Lines}
use Rattle.hub_state.specs.Handlings.{handling_in}
use Rattle.hub_state.specs.State.{State, incident_of, has_recipient}
use Rattle.hub_state.specs.declared.request.Target.{Target}
use Rattle.hub_state.specs.declared.state.Naming.{Naming}
use Rattle.hub_state.specs.declared.state.Incident.{Incident}
use Rattle.hub_state.specs.declared.state.Gate.{Gate}
use Rattle.hub_state.specs.declared.state.Recipient.{Recipient}
use Rattle.hub_state.specs.declared.state.Permission.{Permission}
use Rattle.hub_state.specs.declared.look_ups.Reader.{Reader}
use Rattle.hub_state.specs.declared.look_ups.Ties.{Ties}
use Rattle.hub_state.specs.declared.look_ups.Shared.{Shared}
use Rattle.hub_state.specs.declared.look_ups.IncidentSharing.{IncidentSharing}
use Rattle.hub_state.specs.declared.reply.Entry.{Entry}
use Rattle.hub_state.specs.declared.reply.JoinedGroup.{JoinedGroup}
use Rattle.hub_state.specs.declared.reply.JoinedCommunity.{JoinedCommunity}
use Rattle.hub_state.specs.declared.request.Target.TheVariants as target

-- the person with this key, active or suspended
abbrev pub person_by_key : Bytes → State → Option Person
person_by_key key s = person_of_key key s.directory

-- the handling that the source arranged with the organisation, under the name of the labels
abbrev pub arranged : ℕ → ℕ → Directory → Option Handling
arranged source org d = option_map handling_in (arranged_with source org d)

-- ---- standing

-- the organisation is a recipient of the incident
abbrev pub is_org_addressed : State → Incident → ℕ → Bool
is_org_addressed s i org = has_recipient i.naming.number (target.Org org) s

-- the organisation is a client of the source or of an organisation that is a recipient
abbrev pub is_client_for : State → Incident → ℕ → Bool
is_client_for s i org =
    list_any (λ (c : Client). c.client == org && (c.org == i.naming.source || is_org_addressed s i c.org))
    s.directory.clients

-- The organisation is in the community that the incident names. If it names none, the organisation shares one with the
-- source.
abbrev pub is_peer : ℕ → ℕ → Option ℕ → Directory → Bool
is_peer org source community d = option_map_or (λ c. has_membership c org d) community (share_community org source d)

-- how a person stands to an incident at a moment, in seconds since the beginning of 1970 (UTC)
abbrev pub standing_for : State → ℤ → Person → Incident → Standing
standing_for s now p i = record {
  source = p.org == i.naming.source;
  person = has_recipient i.naming.number (target.Person p.number) s;
  nominated = p.nominated;
  addressed = is_org_addressed s i p.org;
  client = is_client_for s i p.org;
  community = share_community p.org i.naming.source s.directory;
  peer = is_peer p.org i.naming.source i.naming.community s.directory;
  connected = are_connected p.org i.naming.source s.directory;
  arrangement = arranged i.naming.source p.org s.directory;
  who = p.number;
  org = p.org;
  groups = groups_joined p.org s.directory;
  active_groups = active_groups_joined p.org s.directory;
  communities = communities_of p.org s.directory;
  now = now;
}

-- how a person stands to an incident at a moment; none if either is missing
abbrev pub standing_of : ℕ → ℕ → ℤ → State → Option Standing
standing_of person n now s =
    option_and_then (λ (p : Person). option_map (standing_for s now p) (incident_of n s))
    (person_of person s.directory)

-- the part of a standing that doesn't depend on the incident
abbrev pub reader_with : State → Person → Reader
reader_with s p = record {
  person = p;
  served = orgs_whose_client p.org s.directory;
  groups = groups_joined p.org s.directory;
  active_groups = active_groups_joined p.org s.directory;
  communities = communities_of p.org s.directory;
}

-- the reader's own part of a standing, for the person of a number; none if the person is missing
abbrev pub reader_of : ℕ → State → Option Reader
reader_of n s = option_map (reader_with s) (person_of n s.directory)

-- how an organisation stands to a source and to the community that an incident names
abbrev pub ties_of : ℕ → ℕ → Option ℕ → State → Ties
ties_of org source named s = record {
  community = share_community org source s.directory;
  peer = is_peer org source named s.directory;
  connected = are_connected org source s.directory;
  arrangement = arranged_with source org s.directory;
}

-- ---- incidents

-- the naming of the incident of this number: all that it is known by, without its document
abbrev pub naming_of : ℕ → State → Option Naming
naming_of n s = option_map (λ (i : Incident). i.naming) (incident_of n s)

-- the gates of the incident of this number, in the order of their paths
abbrev pub its_gates : ℕ → List Gate → List CaseGate
its_gates n gates = map (λ (g : Gate). g.gate) (filter (λ (g : Gate). g.incident == n) gates)

-- the recipients of the incident of this number, in their order
abbrev pub its_recipients : ℕ → List Recipient → List Target
its_recipients n recipients = map (λ (r : Recipient). r.target) (filter (λ (r : Recipient). r.incident == n) recipients)

-- the permissions of the incident of this number, in their order
abbrev pub its_permissions : ℕ → List Permission → List CasePermission
its_permissions n permissions =
    map (λ (x : Permission). x.permission) (filter (λ (x : Permission). x.incident == n) permissions)

-- how an incident is shared: its naming and its recipients
abbrev pub shared_as : State → Naming → Shared
shared_as s k = record { naming = k; recipients = its_recipients k.number s.recipients }

-- how the incident of a number is shared; none if it is missing
abbrev pub sharing_of : ℕ → State → Option Shared
sharing_of n s = option_map (shared_as s) (naming_of n s)

-- what an incident is judged by: its source, the community that it names, its gates and its permissions
abbrev pub case_for : State → Incident → Case
case_for s i = record {
  source = i.naming.source;
  community = i.naming.community;
  gates = its_gates i.naming.number s.gates;
  permissions = its_permissions i.naming.number s.permissions;
}

-- the case of the incident of this number; none if it is missing
abbrev pub case_of : ℕ → State → Option Case
case_of n s = option_map (case_for s) (incident_of n s)

-- how an incident is shared: its naming, its gates, its recipients and its permissions, ended ones included
abbrev pub sharing_for : State → Incident → IncidentSharing
sharing_for s i = record {
  naming = i.naming;
  gates = its_gates i.naming.number s.gates;
  recipients = its_recipients i.naming.number s.recipients;
  permissions = its_permissions i.naming.number s.permissions;
}

-- how the incident of this number is shared, all but its document; none if it is missing
abbrev pub incident_sharing : ℕ → State → Option IncidentSharing
incident_sharing n s = option_map (sharing_for s) (incident_of n s)

-- the document of the incident of this number; none if it is missing
abbrev pub document_of : ℕ → State → Option Lines
document_of n s = option_map (λ (i : Incident). i.document) (incident_of n s)

-- What a reader of this standing may see of the incident if it is judged by this case; none if it is missing.
abbrev pub served_of_incident : ℕ → Case → Standing → State → Option Told
served_of_incident n c s st = option_and_then (λ (ls : Lines). served_of ls c s) (document_of n st)

-- the lines meet the want for this reader, and their markings are accepted
abbrev pub meets_marked : Want → Lines → Case → Standing → Bool
meets_marked w ls c s = is_none (first_bad_marking (located ls)) && meets w ls c s

-- Whether the incident meets the want for a reader of this standing if it is judged by this case; false if it is
-- missing.
abbrev pub met_by_incident : ℕ → Case → Standing → Want → State → Bool
met_by_incident n c s w st = option_map_or (λ (ls : Lines). meets_marked w ls c s) (document_of n st) false

-- whether the incident meets the want for the person at the moment, by its case; false if either is missing
abbrev pub met_for : ℕ → ℕ → ℤ → Want → State → Bool
met_for person n now w st =
    option_map_or (λ (s : Standing). option_map_or (λ (c : Case). met_by_incident n c s w st) (case_of n st) false)
    (standing_of person n now st) false

-- how an incident is listed: number, revision and source
abbrev pub entry_of : Incident → Entry
entry_of i = record { number = i.naming.number; revision = i.naming.revision; source = i.naming.source }

-- the incidents with a number above this one
abbrev pub incidents_above : ℕ → State → List Incident
incidents_above n s = filter (λ (i : Incident). nat_lt n i.naming.number) s.incidents

-- the first `most` of these, as they are listed
abbrev pub entries_after : ℕ → ℕ → State → List Entry
entries_after n most s = take most (map entry_of (incidents_above n s))

-- ---- groups

-- a group as it is listed for one of its members, with the member's right to extend it
abbrev pub joined : GroupMember → Group → JoinedGroup
joined m g = record { number = g.number; owner = g.owner; name = g.name; releasability = g.releasability; active = g.active; extend = m.extend }

-- the groups of which the person's organisation is a member, in the order of their numbers
abbrev pub groups_of : Person → State → List JoinedGroup
groups_of p s =
    filter_map (λ (m : GroupMember). option_map (joined m) (group_of m.group s.directory))
    (memberships_in_groups p.org s.directory)

-- ---- communities

-- a community as it is listed for one of its members: its members, and the communities that are connected to it
abbrev pub joined_community : Directory → Community → JoinedCommunity
joined_community d c = record { number = c.number; name = c.name; members = members_of c.number d; connected = connected_to c.number d }

-- the communities of which the person's organisation is a member, in the order of their numbers
abbrev pub joined_communities : Person → State → List JoinedCommunity
joined_communities p s =
    filter_map (λ (n : ℕ). option_map (joined_community s.directory) (community_of n s.directory))
    (communities_of p.org s.directory)
