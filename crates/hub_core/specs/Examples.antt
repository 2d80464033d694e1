-- A small circle written by hand, and the answers in it: the definitions alone compute them.
use Rattle.std.specs.Prelude.{◌≡◌, ℕ, ℤ, pos, List, [], ◌∷◌, map, Bool, true, false, Option, Some, None, codes}
use Rattle.iodef_tree.specs.Text.{Bytes, Tokens}
use Rattle.marking.specs.Examples.{class_line, text_line, value_line}
use Rattle.marking.specs.declared.label.Handling.TheVariants.{Amber}
use Rattle.policy.specs.Examples.{event_path}
use Rattle.policy.specs.Standing.{stranger}
use Rattle.policy.specs.declared.permission.Grantee.{Grantee}
use Rattle.circle.specs.Directory.{Directory}
use Rattle.circle.specs.Outcomes.{bare}
use Rattle.circle.specs.declared.refusal.Code.TheVariants.{W1, B1, N1, N2, N3, S1, S2, S3, W3}
use Rattle.circle.specs.declared.refusal.Refusal.{Refusal}
use Rattle.circle.specs.declared.command.CircleCommand.TheVariants.{Nominate, Arrange}
use Rattle.circle.specs.declared.directory.Role.{Role}
use Rattle.circle.specs.declared.directory.Role.TheVariants.{Coordinator, Poster, Reader}
use Rattle.circle.specs.declared.directory.Person.{Person}
use Rattle.circle.specs.declared.directory.Account.{Account}
use Rattle.hub_state.specs.Documents.{Lines}
use Rattle.hub_state.specs.State.{State, permission_with}
use Rattle.hub_core.specs.Refusals.{refusal_of, state_after}
use Rattle.hub_state.specs.Reads.{is_peer, standing_of}
use Rattle.hub_state.specs.declared.request.Distribution.{Distribution}
use Rattle.hub_state.specs.declared.request.Request.{Request}
use Rattle.hub_state.specs.declared.state.Incident.{Incident}
use Rattle.hub_state.specs.declared.state.Gate.{Gate}
use Rattle.hub_state.specs.declared.state.Permission.{Permission}
use Rattle.policy.specs.declared.permission.Grantee.TheVariants as grantee
use Rattle.circle.specs.declared.directory.Handling.TheVariants as arranged
use Rattle.hub_state.specs.declared.request.Target.TheVariants as target
use Rattle.hub_state.specs.declared.request.Request.TheVariants as ask

-- ---- the circle

-- an active person by its number, organisation, role and nomination
abbrev pub person : ℕ → ℕ → Role → Bool → Person
person n org role nominated = record { number = n; org = org; name = codes "n"; role = role; active = true; nominated = nominated }

-- a coordinator of the bank (organisation 1)
abbrev pub banker : Person
banker = person 1 1 Coordinator false

-- a reader of the insurer (organisation 2)
abbrev pub clerk : Person
clerk = person 2 2 Reader false

-- a poster of the university (organisation 3), nominated
abbrev pub professor : Person
professor = person 3 3 Poster true

-- the person with an empty key, as no key is looked up here
abbrev pub account : Person → Account
account p = record { person = p; key = [] }

-- The bank and the insurer are in one community. The university is in another one, which is connected to theirs. It is
-- the bank's client, and the bank arranged AMBER with it. The bank owns a group, of which the insurer is a member.
abbrev pub circle : Directory
circle = record {
  orgs = record { number = 1; name = codes "bank" } ∷ record { number = 2; name = codes "insurer" } ∷ record { number = 3; name = codes "university" } ∷ [];
  accounts = account banker ∷ account clerk ∷ account professor ∷ [];
  clients = record { org = 1; client = 3 } ∷ [];
  communities = record { number = 1; name = codes "money" } ∷ record { number = 2; name = codes "science" } ∷ [];
  memberships = record { community = 1; org = 1 } ∷ record { community = 1; org = 2 } ∷ record { community = 2; org = 3 } ∷ [];
  connections = record { low = 1; high = 2 } ∷ [];
  groups = record { number = 1; owner = 1; name = codes "g"; releasability = []; active = true } ∷ [];
  group_members = record { group = 1; org = 1; extend = true } ∷ record { group = 1; org = 2; extend = false } ∷ [];
  arrangements = record { source = 1; org = 3; handling = arranged.Amber } ∷ [];
}

-- ---- the reports and the states

-- a report with one EventData, as a request has it
abbrev pub body : Bytes
body = codes "{\"Incident\":[{\"Contact\":[],\"EventData\":[{}],\"GenerationTime\":\"g\",\"IncidentID\":\"7\",\"purpose\":\"p\"}]}"

-- the lines of that report
abbrev pub lines : Lines
lines =
    class_line 1 (codes "Incident") true
    ∷ value_line 2 (codes "Contact") false (codes "[]")
    ∷ class_line 2 (codes "EventData") true
    ∷ text_line 2 (codes "GenerationTime") false (codes "g")
    ∷ text_line 2 (codes "IncidentID") false (codes "7")
    ∷ text_line 2 (codes "purpose") false (codes "p")
    ∷ []

-- a report without a Contact
abbrev pub without_contact : Bytes
without_contact = codes "{\"Incident\":[{\"GenerationTime\":\"g\",\"IncidentID\":\"8\",\"purpose\":\"p\"}]}"

-- a report with a label that is no label
abbrev pub misspelled : Bytes
misspelled = codes "{\"Incident\":[{\"Contact\":[],\"GenerationTime\":\"g\",\"IncidentID\":\"8\",\"purpose\":\"p\",\"restriction\":\"secret\"}]}"

-- the pointer of the report's EventData
abbrev pub event_pointer : Bytes
event_pointer = codes "/Incident/0/EventData/0"

-- the circle without any incident
abbrev pub at_first : State
at_first = record { directory = circle; incidents = []; gates = []; recipients = []; permissions = [] }

-- an incident with the lines above, by its number, source, revision and ident; it names no community
abbrev pub incident : ℕ → ℕ → ℕ → Bytes → Incident
incident n source revision ident = record { naming = record { number = n; source = source; ident = ident; revision = revision; community = None }; document = lines }

-- a gate of an incident, by path, level and group
abbrev pub gate : ℕ → Tokens → ℕ → Option ℕ → Gate
gate n path level group = record { incident = n; gate = record { path = path; level = level; group = group } }

-- 1 June 2024 (UTC), in seconds since the beginning of 1970
abbrev pub june : ℤ
june = pos 1717200000

-- a permission at the EventData of the bank's incident, for the university, with this end
abbrev pub permission : Option ℤ → Permission
permission until = permission_with (record { incident = 1; path = event_path; grantee = grantee.Org 3 }) until

-- The bank posted one incident and the university one. The bank's is addressed to the insurer. The university has a
-- permission that ends in June.
abbrev pub posted : State
posted = record {
  directory = circle;
  incidents = incident 1 1 1 (codes "\"7\"") ∷ incident 2 3 1 (codes "\"7\"") ∷ [];
  gates = gate 1 [] 3 None ∷ gate 1 event_path 4 (Some 1) ∷ gate 2 [] 1 None ∷ [];
  recipients = record { incident = 1; target = target.Org 2 } ∷ [];
  permissions = permission (Some june) ∷ [];
}

-- the state `posted`, with the bank's incident naming this community or none
abbrev pub posted_in : Option ℕ → State
posted_in community =
    let bank = incident 1 1 1 (codes "\"7\"") in
    record posted { incidents = record bank { naming = record bank.naming { community = community } } ∷ incident 2 3 1 (codes "\"7\"") ∷ [] }

-- ---- requests

-- a distribution of this level without a group, a community or gates at classes
abbrev pub at_level : ℕ → Distribution
at_level level = record { community = None; level = level; group = None; gates = [] }

-- a Post of a body at level 3
abbrev pub post : Bytes → Request
post document = ask.Post (record { distribution = at_level 3; document = document })

-- a Post of the report at level 1, naming a community
abbrev pub post_in : ℕ → Request
post_in community = ask.Post (record { distribution = record (at_level 1) { community = Some community }; document = body })

-- a Replace of an incident by the report at level 1, for a revision
abbrev pub replace : ℕ → ℕ → Request
replace n revision = ask.Replace (record { incident = n; revision = revision; distribution = at_level 1; document = body })

-- a Redistribute of an incident, for revision 1
abbrev pub redistribute : ℕ → Bytes → ℕ → Option ℕ → Request
redistribute n path level group = ask.Redistribute (record { incident = n; revision = 1; path = path; level = level; group = group })

-- a Grant at the bank's incident, for a revision
abbrev pub grant : ℕ → Bytes → Grantee → Option ℤ → Request
grant revision path grantee until = ask.Grant (record { incident = 1; revision = revision; path = path; grantee = grantee; until = until })

-- a Withdraw of a permission at the EventData of an incident
abbrev pub withdraw : ℕ → Grantee → Request
withdraw n grantee = ask.Withdraw (record { incident = n; path = event_pointer; grantee = grantee })

-- the refusal with this detail
abbrev pub told : Bytes → Refusal → Refusal
told detail r = record r { detail = detail }

-- the refusals of the banker's requests in the state `posted`
abbrev pub refusals : List Request → List (Option Refusal)
refusals = map (refusal_of posted banker)

-- the refusal of the banker's request in the state `posted`, if any, and the state afterwards
abbrev pub answered : Request → Option Refusal × State
answered r = (refusal_of posted banker r, state_after posted banker r)

-- ---- the examples

-- how the clerk and the professor stand to the bank's incident in June; there is no standing to a missing incident
abbrev pub StandingsAreFound : Type 0
StandingsAreFound =
    standing_of 2 1 june posted ∷ standing_of 3 1 june posted ∷ standing_of 2 9 june posted ∷ []
    ≡ Some (record (stranger 2 2) { addressed = true; community = true; peer = true; groups = 1 ∷ []; active_groups = 1 ∷ []; communities = 1 ∷ []; now = june })
    ∷ Some (record (stranger 3 3) { nominated = true; client = true; connected = true; arrangement = Some Amber; communities = 2 ∷ []; now = june })
    ∷ None
    ∷ []

-- The peers of a bank's incident that names no community are the bank and the insurer. If it names one, its peers are
-- the members of that, whether or not the bank is among them.
abbrev pub PeersAreFound : Type 0
PeersAreFound =
    map (λ community. map (λ org. is_peer org 1 community circle) (1 ∷ 2 ∷ 3 ∷ [])) (None ∷ Some 1 ∷ Some 2 ∷ Some 9 ∷ [])
    ≡ (true ∷ true ∷ false ∷ []) ∷ (true ∷ true ∷ false ∷ []) ∷ (false ∷ false ∷ true ∷ []) ∷ (false ∷ false ∷ false ∷ []) ∷ []

-- A reader may not post or grant, whatever the request.
abbrev pub ReaderPostsNothing : Type 0
ReaderPostsNothing = (sent : Bytes) →
    map (refusal_of at_first clerk) (post sent ∷ grant 1 sent (grantee.Org 2) None ∷ [])
    ≡ Some (bare W1) ∷ Some (bare W1) ∷ []

-- The first incident posted has number 1, revision 1 and one gate, which is at its root.
abbrev pub FirstPostIsFirst : Type 0
FirstPostIsFirst =
    state_after at_first banker (post body)
    ≡ record at_first { incidents = incident 1 1 1 (codes "\"7\"") ∷ []; gates = gate 1 [] 3 None ∷ [] }

-- An incident that the bank posted before is refused with its number. A body that can't be read, lacks a member or has
-- a bad label is refused with that fault.
abbrev pub PostsAreRefused : Type 0
PostsAreRefused =
    refusals (post body ∷ post (codes "[]") ∷ post without_contact ∷ post misspelled ∷ [])
    ≡ Some (told (codes "1") (bare S1))
    ∷ Some (told (codes "NotDocument") (bare B1))
    ∷ Some (told (codes "Missing /Incident/0 Contact") (bare B1))
    ∷ Some (told (codes "BadMarking 0 /Incident/0") (bare B1))
    ∷ []

-- A Grant is refused if the same permission is there with the same end, if there is no class at the path, if the
-- organisation is missing, or if the revision isn't the present one.
abbrev pub GrantsAreRefused : Type 0
GrantsAreRefused =
    refusals
    (grant 1 event_pointer (grantee.Org 3) (Some june)
    ∷ grant 1 (codes "/Incident/0/EventData/9") (grantee.Org 3) None
    ∷ grant 1 event_pointer (grantee.Org 9) None
    ∷ grant 2 event_pointer (grantee.Org 2) None
    ∷ grant 1 event_pointer (grantee.Org 2) None
    ∷ [])
    ≡ Some (bare S1) ∷ Some (bare N3) ∷ Some (bare N2) ∷ Some (told (codes "1") (bare S3)) ∷ None ∷ []

-- A Grant with another end, future or past, or with none, replaces the permission.
abbrev pub PermissionsAreExchanged : Type 0
PermissionsAreExchanged =
    map answered (grant 1 event_pointer (grantee.Org 3) None ∷ grant 1 event_pointer (grantee.Org 3) (Some (pos 0)) ∷ [])
    ≡ (None, record posted { permissions = permission None ∷ [] }) ∷ (None, record posted { permissions = permission (Some (pos 0)) ∷ [] }) ∷ []

-- Gates are at the root or at classes. The root has no level 5, level 4 needs a group, and the same gate can't be put
-- twice.
abbrev pub GatesAreRefused : Type 0
GatesAreRefused =
    refusals
    (redistribute 1 (codes "/Incident/0/Flow/0") 3 None
    ∷ redistribute 1 [] 5 None
    ∷ redistribute 1 event_pointer 4 None
    ∷ redistribute 1 event_pointer 4 (Some 1)
    ∷ redistribute 1 [] 3 None
    ∷ redistribute 1 event_pointer 5 None
    ∷ [])
    ≡ Some (bare N3)
    ∷ Some (told (codes "level") (bare B1))
    ∷ Some (told (codes "group") (bare B1))
    ∷ Some (bare S1)
    ∷ Some (bare S1)
    ∷ None
    ∷ []

-- Another organisation's incident is refused like a missing one.
abbrev pub OthersAreNotThere : Type 0
OthersAreNotThere =
    refusals (redistribute 2 [] 3 None ∷ redistribute 9 [] 3 None ∷ withdraw 2 (grantee.Org 3) ∷ withdraw 9 (grantee.Org 3) ∷ [])
    ≡ Some (bare N1) ∷ Some (bare N1) ∷ Some (bare N1) ∷ Some (bare N1) ∷ []

-- A Withdraw takes the permission out whatever its end, and no other.
abbrev pub PermissionsAreWithdrawn : Type 0
PermissionsAreWithdrawn =
    map answered (withdraw 1 (grantee.Org 3) ∷ withdraw 1 (grantee.Org 2) ∷ [])
    ≡ (None, record posted { permissions = [] }) ∷ (Some (bare S2), posted) ∷ []

-- the state after the bank's Replace: the gate of the request, no permission, and the same recipient
abbrev pub exchanged : State
exchanged = record posted {
  incidents = incident 1 1 2 (codes "\"7\"") ∷ incident 2 3 1 (codes "\"7\"") ∷ [];
  gates = gate 1 [] 1 None ∷ gate 2 [] 1 None ∷ [];
  permissions = [];
}

-- A Replace needs an own incident and the present revision, and is refused with that otherwise. Afterwards the incident
-- is in its next revision, with the request's gates, without permissions and with its recipients.
abbrev pub ReplaceTakesPermissionsOut : Type 0
ReplaceTakesPermissionsOut =
    map answered (replace 2 1 ∷ replace 1 2 ∷ replace 1 1 ∷ [])
    ≡ (Some (bare N1), posted) ∷ (Some (told (codes "1") (bare S3)), posted) ∷ (None, exchanged) ∷ []

-- the refusal of the banker's request, if any, and the communities that the incidents name afterwards
abbrev pub named_after : State → Request → Option Refusal × List (Option ℕ)
named_after s r =
    let left : State = state_after s banker r in
    (refusal_of s banker r, map (λ (i : Incident). i.naming.community) left.incidents)

-- An incident may only name a community of the organisation that posts it. Each Replace names it anew, or none.
abbrev pub CommunitiesAreNamed : Type 0
CommunitiesAreNamed =
    named_after at_first (post_in 1) ∷ named_after at_first (post_in 2) ∷ named_after at_first (post_in 9) ∷ named_after (posted_in (Some 1)) (replace 1 1) ∷ []
    ≡ (None, Some 1 ∷ []) ∷ (Some (bare N2), []) ∷ (Some (bare N2), []) ∷ (None, None ∷ None ∷ []) ∷ []

-- Coordinators nominate only their own persons. An arrangement must be cancelled before another is made.
abbrev pub CoordinatorsKeepToTheirs : Type 0
CoordinatorsKeepToTheirs =
    refusals (ask.Circle (Nominate 3) ∷ ask.Circle (Nominate 9) ∷ ask.Circle (Nominate 1) ∷ ask.Circle (Arrange 3 arranged.Green) ∷ ask.Circle (Arrange 2 arranged.Green) ∷ [])
    ≡ Some (bare W3) ∷ Some (bare N2) ∷ None ∷ Some (bare S1) ∷ None ∷ []
