-- Readers, gates and small reports by hand, and what the policy says of them. The definitions compute it. The source
-- is organisation 2. The readers are of organisation 3 and have the number 7.
use Rattle.std.specs.Prelude.{◌≡◌, ℕ, ℤ, pos, neg_ℤ, List, [], ◌∷◌, ◌++◌, map, Bool, true, false, Option, Some, None, Ok, Err, codes}
use Rattle.iodef_tree.specs.Text.{Bytes, Tokens}
use Rattle.iodef_tree.specs.Paths.{located, class_paths}
use Rattle.iodef_tree.specs.declared.line.Line.{Line}
use Rattle.marking.specs.Examples.{class_line, text_line}
use Rattle.marking.specs.Marks.{incident_path}
use Rattle.marking.specs.declared.label.Handling.{Handling}
use Rattle.marking.specs.declared.label.Handling.TheVariants.{Clear, Green, Amber, Strict, Red}
use Rattle.policy.specs.Standing.{stranger}
use Rattle.policy.specs.Clearance.{clearance_of}
use Rattle.policy.specs.Gates.{refusal_of_gate}
use Rattle.policy.specs.Moment.{moment_in}
use Rattle.policy.specs.Permissions.{includes}
use Rattle.policy.specs.Verdict.{verdict_of}
use Rattle.policy.specs.declared.fault.MomentFault.TheVariants.{BadMoment}
use Rattle.policy.specs.declared.rule.Rule.TheVariants.{Src, P, O, C, M, A, X, G0, G1, G2, G4, G4X, HGreen, HAmber, HStrict, HRed}
use Rattle.policy.specs.declared.standing.Standing.{Standing}
use Rattle.policy.specs.declared.gate.Gate.{Gate}
use Rattle.policy.specs.declared.permission.Grantee.TheVariants.{Person, Org, Community, Group}
use Rattle.policy.specs.declared.permission.Permission.{Permission}
use Rattle.policy.specs.declared.case.Case.{Case}
use Rattle.policy.specs.declared.verdict.Verdict.{Verdict}
use Rattle.policy.specs.declared.verdict.Verdict.TheVariants.{Shown, Hidden}

-- ---- readers

-- a reader of whom nothing holds
abbrev pub anybody : Standing
anybody = stranger 7 3

-- a reader of the source, which is in a community
abbrev pub colleague : Standing
colleague = record anybody { source = true; community = true; peer = true }

-- a reader whose organisation is in one community with the source; the incident names that community or none
abbrev pub neighbour : Standing
neighbour = record anybody { community = true; peer = true }

-- a reader whose organisation is in one community with the source; the incident names another, which it isn't in
abbrev pub unnamed : Standing
unnamed = record anybody { community = true }

-- a reader whose organisation is in the community that the incident names; the source has left it
abbrev pub named : Standing
named = record anybody { peer = true }

-- a reader whose organisation is in a community that is connected to one of the source's
abbrev pub acquaintance : Standing
acquaintance = record anybody { connected = true }

-- a reader whom the source addressed by name
abbrev pub recipient : Standing
recipient = record anybody { person = true }

-- a reader whose organisation the source addressed
abbrev pub addressed_only : Standing
addressed_only = record anybody { addressed = true }

-- a reader whom its own organisation nominated, and whose organisation the source addressed
abbrev pub nominated_partner : Standing
nominated_partner = record anybody { nominated = true; addressed = true }

-- a reader whom its own organisation nominated, and whose organisation is the source's client
abbrev pub nominated_client : Standing
nominated_client = record anybody { nominated = true; client = true }

-- a reader, with whose organisation the source now has arranged this handling
abbrev pub arranged_at : Handling → Standing → Standing
arranged_at h s = record s { arrangement = Some h }

-- a reader in one community with the source, and in group 1, which is active or not
abbrev pub group_member : Bool → Standing
group_member true = record neighbour { groups = 1 ∷ []; active_groups = 1 ∷ [] }
group_member false = record neighbour { groups = 1 ∷ [] }

-- ---- reports

-- the path of the first EventData
abbrev pub event_path : Tokens
event_path = incident_path ++ codes "EventData" ∷ codes "0" ∷ []

-- the path of the first Flow in the first EventData
abbrev pub flow_path : Tokens
flow_path = event_path ++ codes "Flow" ∷ codes "0" ∷ []

-- a gate by its path, level and group
abbrev pub gate_at : Tokens → ℕ → Option ℕ → Gate
gate_at path level group = record { path = path; level = level; group = group }

-- a case of organisation 2 that names no community, by its gates and permissions
abbrev pub case_of : List Gate → List Permission → Case
case_of gates permissions = record { source = 2; community = None; gates = gates; permissions = permissions }

-- a case with these gates at classes and a root gate that everybody passes
abbrev pub behind : List Gate → Case
behind gates = case_of (gate_at [] 3 None ∷ gates) []

-- a permission at the EventData, without an end, for an organisation
abbrev pub for_organisation : ℕ → List Permission
for_organisation n = record { path = event_path; grantee = Org n; until = None } ∷ []

-- a case with a permission at the EventData for an organisation, without an end; everybody passes its root gate
abbrev pub shared_with : ℕ → Case
shared_with n = case_of (gate_at [] 3 None ∷ []) (for_organisation n)

-- a case with a permission at the EventData for the readers' organisation, up to this moment or without an end;
-- everybody passes its root gate
abbrev pub shared_until : Option ℤ → Case
shared_until end = case_of (gate_at [] 3 None ∷ []) (record { path = event_path; grantee = Org 3; until = end } ∷ [])

-- the verdicts of the classes of a report, in stored order
abbrev pub verdicts : List Line → Case → Standing → List Verdict
verdicts ls c s = let es = located ls in map (verdict_of es c s) (class_paths es)

-- an Incident with this label, an EventData in it, and a Flow in that
abbrev pub nested : Bytes → List Line
nested label =
    class_line 1 (codes "Incident") true
    ∷ class_line 2 (codes "EventData") true
    ∷ text_line 3 (codes "Description") true (codes "x")
    ∷ class_line 3 (codes "Flow") true
    ∷ text_line 2 (codes "restriction") false label
    ∷ []

-- a public Incident with four EventData: one green, one `amber`, one with the text TLP:AMBER, one red
abbrev pub in_colours : List Line
in_colours =
    class_line 1 (codes "Incident") true
    ∷ class_line 2 (codes "EventData") true
    ∷ text_line 3 (codes "restriction") false (codes "green")
    ∷ class_line 2 (codes "EventData") true
    ∷ text_line 3 (codes "restriction") false (codes "amber")
    ∷ class_line 2 (codes "EventData") true
    ∷ text_line 3 (codes "ext-restriction") false (codes "TLP:AMBER")
    ∷ text_line 3 (codes "restriction") false (codes "ext-value")
    ∷ class_line 2 (codes "EventData") true
    ∷ text_line 3 (codes "restriction") false (codes "red")
    ∷ text_line 2 (codes "restriction") false (codes "public")
    ∷ []

-- a public Incident with an EventData labelled `default`
abbrev pub by_agreement : List Line
by_agreement =
    class_line 1 (codes "Incident") true
    ∷ class_line 2 (codes "EventData") true
    ∷ text_line 3 (codes "restriction") false (codes "default")
    ∷ text_line 2 (codes "restriction") false (codes "public")
    ∷ []

-- an unmarked Incident with an EventData that holds two Flows, one unmarked and one red
abbrev pub red_below : List Line
red_below =
    class_line 1 (codes "Incident") true
    ∷ class_line 2 (codes "EventData") true
    ∷ class_line 3 (codes "Flow") true
    ∷ class_line 3 (codes "Flow") true
    ∷ text_line 4 (codes "restriction") false (codes "red")
    ∷ []

-- ---- what the policy says

-- Each standing has its clearance, and the strictest of several applies. An addressed organisation clears only
-- nominated persons, and an arrangement clears nobody.
abbrev pub StandingsAreCleared : Type 0
StandingsAreCleared =
    map clearance_of (recipient ∷ nominated_partner ∷ nominated_client ∷ neighbour ∷ anybody ∷ addressed_only ∷ arranged_at Amber anybody ∷ record nominated_client { peer = true } ∷ unnamed ∷ named ∷ [])
    ≡ (Red, P) ∷ (Strict, O) ∷ (Amber, C) ∷ (Green, M) ∷ (Clear, A) ∷ (Clear, A) ∷ (Clear, A) ∷ (Amber, C) ∷ (Clear, A) ∷ (Green, M) ∷ []

-- Who passes a gate of each level without a group: the source; its communities; those connected to them too;
-- everybody. No gate asks for the community that the incident names.
abbrev pub LevelsLetPass : Type 0
LevelsLetPass =
    map (λ s. map (λ level. refusal_of_gate s (gate_at event_path level None)) (0 ∷ 1 ∷ 2 ∷ 3 ∷ 5 ∷ [])) (colleague ∷ neighbour ∷ unnamed ∷ acquaintance ∷ anybody ∷ named ∷ [])
    ≡ (None ∷ None ∷ None ∷ None ∷ None ∷ [])
    ∷ (Some G0 ∷ None ∷ None ∷ None ∷ None ∷ [])
    ∷ (Some G0 ∷ None ∷ None ∷ None ∷ None ∷ [])
    ∷ (Some G0 ∷ Some G1 ∷ None ∷ None ∷ None ∷ [])
    ∷ (Some G0 ∷ Some G1 ∷ Some G2 ∷ None ∷ None ∷ [])
    ∷ (Some G0 ∷ Some G1 ∷ Some G2 ∷ None ∷ None ∷ [])
    ∷ []

-- A gate of level 4 lets the members of its group pass while the group is active.
abbrev pub GroupsLetPass : Type 0
GroupsLetPass =
    map (λ s. refusal_of_gate s (gate_at event_path 4 (Some 1))) (group_member true ∷ group_member false ∷ neighbour ∷ recipient ∷ [])
    ≡ None ∷ Some G4X ∷ Some G4 ∷ Some G4 ∷ []

-- the readers whom a grantee includes: the person, the person's organisation, a community of it, or a group of it
-- while that is active
abbrev pub GranteesInclude : Type 0
GranteesInclude =
    (map (includes (record anybody { groups = 4 ∷ 5 ∷ []; active_groups = 5 ∷ []; communities = 8 ∷ [] }))
    (Person 7 ∷ Person 3 ∷ Org 3 ∷ Org 7 ∷ Community 8 ∷ Community 5 ∷ Group 5 ∷ Group 4 ∷ Group 8 ∷ []))
    ≡ true ∷ false ∷ true ∷ false ∷ true ∷ false ∷ true ∷ false ∷ false ∷ []

-- Each reader sees the colours for which it is cleared. `amber` is for the addressed organisation; TLP:AMBER is for
-- its clients too.
abbrev pub ColoursAreForTheCleared : Type 0
ColoursAreForTheCleared =
    map (verdicts in_colours (behind [])) (anybody ∷ neighbour ∷ nominated_client ∷ nominated_partner ∷ recipient ∷ [])
    ≡ (Shown A ∷ Hidden HGreen ∷ Hidden HStrict ∷ Hidden HAmber ∷ Hidden HRed ∷ [])
    ∷ (Shown M ∷ Shown M ∷ Hidden HStrict ∷ Hidden HAmber ∷ Hidden HRed ∷ [])
    ∷ (Shown C ∷ Shown C ∷ Hidden HStrict ∷ Shown C ∷ Hidden HRed ∷ [])
    ∷ (Shown O ∷ Shown O ∷ Shown O ∷ Shown O ∷ Hidden HRed ∷ [])
    ∷ (Shown P ∷ Shown P ∷ Shown P ∷ Shown P ∷ Shown P ∷ [])
    ∷ []

-- `default` is handled as it was arranged, and as RED without an arrangement. A neighbour is cleared for GREEN.
abbrev pub ArrangementsHandleDefault : Type 0
ArrangementsHandleDefault =
    map (verdicts by_agreement (behind [])) (arranged_at Green neighbour ∷ arranged_at Amber neighbour ∷ neighbour ∷ [])
    ≡ (Shown M ∷ Shown M ∷ []) ∷ (Shown M ∷ Hidden HAmber ∷ []) ∷ (Shown M ∷ Hidden HRed ∷ []) ∷ []

-- If the root gate lets the reader pass and the gate of the EventData refuses, the latter hides the EventData and all
-- that is in it. The gate below it isn't asked.
abbrev pub DeeperGateRefuses : Type 0
DeeperGateRefuses =
    map (verdicts (nested (codes "public")) (behind (gate_at event_path 4 (Some 1) ∷ gate_at flow_path 0 None ∷ []))) (anybody ∷ group_member false ∷ group_member true ∷ [])
    ≡ (Shown A ∷ Hidden G4 ∷ Hidden G4 ∷ []) ∷ (Shown M ∷ Hidden G4X ∷ Hidden G4X ∷ []) ∷ (Shown M ∷ Shown M ∷ Hidden G0 ∷ []) ∷ []

-- A reader addressed by name is cleared for RED, and the root gate still refuses it, unless its organisation is a
-- neighbour. The source sees everything behind every gate.
abbrev pub RootGateRefuses : Type 0
RootGateRefuses =
    map (verdicts (nested (codes "red")) (case_of (gate_at [] 1 None ∷ gate_at flow_path 0 None ∷ []) [])) (recipient ∷ record recipient { community = true } ∷ colleague ∷ [])
    ≡ (Hidden G1 ∷ Hidden G1 ∷ Hidden G1 ∷ []) ∷ (Shown P ∷ Shown P ∷ Hidden G0 ∷ []) ∷ (Shown Src ∷ Shown Src ∷ Shown Src ∷ []) ∷ []

-- A permission at the EventData covers it and what is below it, down to the next written label, and nothing above it.
-- It does nothing for another organisation.
abbrev pub PermissionReachesDown : Type 0
PermissionReachesDown =
    map (λ n. verdicts red_below (shared_with n) anybody) (3 ∷ 4 ∷ [])
    ≡ (Hidden HRed ∷ Shown X ∷ Shown X ∷ Hidden HRed ∷ []) ∷ (Hidden HRed ∷ Hidden HRed ∷ Hidden HRed ∷ Hidden HRed ∷ []) ∷ []

-- A permission with an end covers before that moment, and neither at it nor later. One without an end always covers.
abbrev pub PermissionEnds : Type 0
PermissionEnds =
    let covered = Hidden HRed ∷ Shown X ∷ Shown X ∷ [] in
    let ended = Hidden HRed ∷ Hidden HRed ∷ Hidden HRed ∷ [] in
    map (λ end. map (λ now. verdicts (nested (codes "private")) (shared_until end) (record anybody { now = now })) (pos 999 ∷ pos 1000 ∷ pos 1001 ∷ []))
    (Some (pos 1000) ∷ None ∷ [])
    ≡ (covered ∷ ended ∷ ended ∷ []) ∷ (covered ∷ covered ∷ covered ∷ []) ∷ []

-- The examples of RFC 3339 section 5.8 without a fraction of a second are moments, whatever their offset. A leap
-- second is read as the second before it. A fraction that is zero is accepted. A date alone is no moment, nor is a
-- time of day without an offset.
abbrev pub MomentsAreRead : Type 0
MomentsAreRead =
    map moment_in
    (codes "1996-12-19T16:39:57-08:00"
    ∷ codes "1996-12-20T00:39:57Z"
    ∷ codes "1990-12-31T23:59:60Z"
    ∷ codes "1990-12-31T15:59:60-08:00"
    ∷ codes "1985-04-12T23:20:50.52Z"
    ∷ codes "1937-01-01T12:00:27.87+00:20"
    ∷ codes "1969-12-31T23:59:59.0Z"
    ∷ codes "1996-12-19"
    ∷ codes "1996-12-19T16:39:57"
    ∷ [])
    ≡ Ok (pos 851_042_397)
    ∷ Ok (pos 851_042_397)
    ∷ Ok (pos 662_687_999)
    ∷ Ok (pos 662_687_999)
    ∷ Err BadMoment
    ∷ Err BadMoment
    ∷ Ok (neg_ℤ (pos 1))
    ∷ Err BadMoment
    ∷ Err BadMoment
    ∷ []

-- A permission opens no gate: neither one below it nor the root gate.
abbrev pub PermissionStopsAtGate : Type 0
PermissionStopsAtGate =
    map (λ gates. verdicts (nested (codes "private")) (case_of gates (for_organisation 3)) anybody)
    ((gate_at [] 3 None ∷ gate_at flow_path 2 None ∷ []) ∷ (gate_at [] 1 None ∷ []) ∷ [])
    ≡ (Hidden HRed ∷ Shown X ∷ Hidden G2 ∷ []) ∷ (Hidden G1 ∷ Hidden G1 ∷ Hidden G1 ∷ []) ∷ []
