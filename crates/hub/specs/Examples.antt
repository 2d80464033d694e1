-- Worlds written by hand that are alike for a reader, who is served something in each, and what a stop leaves: the
-- definitions alone compute them.
use Rattle.std.specs.Prelude.{◌≡◌, ℕ, true, false, List, [], ◌∷◌, ◌++◌, map, Option, Some, None, codes}
use Rattle.iodef_tree.specs.Text.{Bytes}
use Rattle.iodef_tree.specs.declared.line.Line.{Line}
use Rattle.marking.specs.Examples.{class_line, text_line, value_line}
use Rattle.marking.specs.Marks.{incident_path}
use Rattle.policy.specs.declared.rule.Rule.TheVariants.{HRed}
use Rattle.circle.specs.Directory.{Directory}
use Rattle.circle.specs.Outcomes.{bare}
use Rattle.circle.specs.declared.command.CircleCommand.TheVariants.{NewKey}
use Rattle.circle.specs.declared.refusal.Code.TheVariants.{F2}
use Rattle.circle.specs.declared.directory.Person.{Person}
use Rattle.circle.specs.declared.directory.Account.{Account}
use Rattle.hub_core.specs.Documents.{Lines}
use Rattle.hub_core.specs.Examples.{banker, clerk, professor, circle, incident, gate, june}
use Rattle.hub_core.specs.State.{State}
use Rattle.hub_state.specs.declared.reply.Reply.{Reply}
use Rattle.hub_state.specs.declared.reply.Reply.TheVariants.{Caller, Done, Refused, View}
use Rattle.hub_state.specs.declared.state.Incident.{Incident}
use Rattle.hub_state.specs.declared.state.Permission.{Permission}
use Rattle.hub.specs.Alike.{HasOtherPlainLines, HasOtherHiddenClass, HasOtherUnseenIncident, HasOtherRows, IsAlike}
use Rattle.hub.specs.Machine.{Asked}
use Rattle.hub.specs.Replies.{reply_of}
use Rattle.hub.specs.Stops.{MayBeLeft}
use Rattle.hub.specs.declared.key.Key.TheVariants.{Digest}
use Rattle.policy.specs.declared.permission.Grantee.TheVariants as grantee
use Rattle.hub_state.specs.declared.request.Request.TheVariants as ask
use Rattle.hub_state.specs.declared.request.Target.TheVariants as target

-- ---- the circle

-- an account with a key of one byte, to be short
abbrev pub account : ℕ → Person → Account
account byte p = record { person = p; key = byte ∷ [] }

-- the reader: the clerk of the insurer, which is in one community with the bank
abbrev pub reader : Account
reader = account 2 clerk

-- the circle of `hub_core`'s examples, with keys
abbrev pub keyed_circle : Directory
keyed_circle = record circle { accounts = account 1 banker ∷ reader ∷ account 3 professor ∷ [] }

-- ---- the reports

-- an EventData with these lines
abbrev pub event : List Line → List Line
event plain = class_line 2 (codes "EventData") true ∷ plain

-- a public report with an EventData that the reader sees, and these lines after it
abbrev pub report : List Line → Lines
report others =
    class_line 1 (codes "Incident") true
    ∷ value_line 2 (codes "Contact") false (codes "[]")
    ∷ class_line 2 (codes "EventData") true
    ∷ text_line 3 (codes "Description") true (codes "seen")
    ∷ others
    ++ text_line 2 (codes "GenerationTime") false (codes "g")
    ∷ text_line 2 (codes "IncidentID") false (codes "7")
    ∷ text_line 2 (codes "purpose") false (codes "p")
    ∷ text_line 2 (codes "restriction") false (codes "public")
    ∷ []

-- the label `red`
abbrev pub red : Line
red = text_line 3 (codes "restriction") false (codes "red")

-- a Description with this text
abbrev pub described : Bytes → Line
described text = text_line 3 (codes "Description") true text

-- the report with two red EventData after the visible one
abbrev pub two_red : Lines
two_red = report (event (described (codes "x") ∷ red ∷ []) ++ event (red ∷ []))

-- the report with another Description in the first red EventData, and one more
abbrev pub rewritten : Lines
rewritten = report (event (described (codes "y") ∷ described (codes "z") ∷ red ∷ []) ++ event (red ∷ []))

-- the report without the second red EventData
abbrev pub one_red : Lines
one_red = report (event (described (codes "y") ∷ described (codes "z") ∷ red ∷ []))

-- the bank's incident with this document
abbrev pub bank_report : Lines → Incident
bank_report document = record (incident 1 1 1 (codes "\"7\"")) { document = document }

-- a permission at an EventData of the bank's report, for the university
abbrev pub for_university : Bytes → Permission
for_university n = record { incident = 1; permission = record { path = incident_path ++ codes "EventData" ∷ n ∷ []; grantee = grantee.Org 3; until = None } }

-- ---- worlds

-- the state with the bank's incident and these permissions
abbrev pub world : Lines → List Permission → State
world document permissions = record {
  directory = keyed_circle;
  incidents = bank_report document ∷ [];
  gates = gate 1 [] 3 None ∷ [];
  recipients = [];
  permissions = permissions;
}

-- the university may see the last EventData
abbrev pub first : State
first = world two_red (for_university (codes "2") ∷ [])

-- the first red EventData has other Descriptions
abbrev pub with_other_words : State
with_other_words = world rewritten (for_university (codes "2") ∷ [])

-- the last EventData is taken out, and its permission with it
abbrev pub without_last_event : State
without_last_event = world one_red []

-- the university posts an incident for its own organisation only
abbrev pub with_second_incident : State
with_second_incident = record without_last_event {
  incidents = bank_report one_red ∷ incident 2 3 1 (codes "\"7\"") ∷ [];
  gates = gate 1 [] 3 None ∷ gate 2 [] 0 None ∷ [];
}

-- The professor is suspended, and is a recipient of the bank's report. The university may see the report's red
-- EventData and has no arrangement with the bank. The bank may no longer extend its own group.
abbrev pub with_other_rows : State
with_other_rows = record with_second_incident {
  directory = record keyed_circle {
    accounts = account 1 banker ∷ reader ∷ account 3 (record professor { active = false }) ∷ [];
    group_members = record { group = 1; org = 1; extend = false } ∷ record { group = 1; org = 2; extend = false } ∷ [];
    arrangements = [];
  };
  recipients = record { incident = 1; target = target.Person 3 } ∷ [];
  permissions = for_university (codes "1") ∷ [];
}

-- ---- the examples

-- the reply to the reader's View of the bank's report
abbrev pub view_in : State → Reply
view_in s = reply_of s june (Digest reader.key) (ask.View 1)

-- the report without its red parts, which are withheld at one place by one rule
abbrev pub what_is_seen : Reply
what_is_seen = View (record { number = 1; revision = 1; source = 1; classes = 2; document = report []; withheld = (incident_path, HRed) ∷ [] })

-- In each of these worlds the reader's view is the same, and serves something.
abbrev pub EachIsServed : Type 0
EachIsServed =
    map view_in (first ∷ with_other_words ∷ without_last_event ∷ with_second_incident ∷ with_other_rows ∷ [])
    ≡ what_is_seen ∷ what_is_seen ∷ what_is_seen ∷ what_is_seen ∷ what_is_seen ∷ []

-- Each kind of step between worlds that are alike joins two of them.
pub record StepsJoin : Type 0 where
  pub plain_lines : HasOtherPlainLines june reader first with_other_words
  pub hidden_class : HasOtherHiddenClass june reader with_other_words without_last_event
  pub unseen_incident : HasOtherUnseenIncident june reader without_last_event with_second_incident
  pub rows : HasOtherRows june reader with_second_incident with_other_rows

-- All of them are alike: a chain of sound worlds joins the first and the last.
abbrev pub EndsAreAlike : Type 0
EndsAreAlike = IsAlike june reader first with_other_rows

-- ---- a stop

-- The bank withdraws the university's permission. Then the reader asks for a new key, and who it is.
abbrev pub three_asked : List Asked
three_asked =
    (june, Digest (1 ∷ []), ask.Withdraw (record { incident = 1; path = codes "/Incident/0/EventData/2"; grantee = grantee.Org 3 }))
    ∷ (june, Digest reader.key, ask.Circle (NewKey (4 ∷ [])))
    ∷ (june, Digest reader.key, ask.WhoAmI)
    ∷ []

-- the permission is withdrawn, the new key is given up for want of memory, and the reader is told who it is
abbrev pub three_replies : List Reply
three_replies = Done ∷ Refused (bare F2) ∷ Caller clerk ∷ []

-- the state without the permission
abbrev pub withdrawn : State
withdrawn = record first { permissions = [] }

-- that with the reader's new key
abbrev pub withdrawn_with_key : State
withdrawn_with_key = record withdrawn { directory = record keyed_circle { accounts = account 1 banker ∷ account 4 clerk ∷ account 3 professor ∷ [] } }

-- what a stop may leave after these three, if it could have left the first state before
abbrev pub MayBeLeftThen : Option State → Type 0
MayBeLeftThen left = MayBeLeft (λ before. before ≡ Some first) first three_asked three_replies left

-- A stop may leave the state without the permission, or that with the new key, which was due and given up. The state
-- before the change that was made isn't left.
pub record StopsAreComputed : Type 0 where
  pub made : MayBeLeftThen (Some withdrawn)
  pub given_up : MayBeLeftThen (Some withdrawn_with_key)
  pub before : MayBeLeftThen (Some first) → ⊥
