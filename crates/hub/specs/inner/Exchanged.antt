-- A hidden class of one incident is exchanged, written out row by row.
use Rattle.std.specs.Prelude.{◌≡◌, ◌↔◌, ℤ, true, false, Some}
use Rattle.iodef_tree.specs.Text.{Tokens, is_root}
use Rattle.redact.specs.Alike.{is_within, lines_but, is_hidden_from}
use Rattle.redact.specs.Told.{withheld_of}
use Rattle.circle.specs.declared.directory.Account.{Account}
use Rattle.hub_core.specs.Documents.{Lines}
use Rattle.hub_core.specs.State.{State, incident_of}
use Rattle.hub_core.specs.Reads.{case_for}
use Rattle.hub_core.specs.Sound.{IsSound}
use Rattle.hub_state.specs.declared.state.Incident.{Incident}
use Rattle.hub.specs.Told.{standing_at}
use Rattle.hub.specs.Alike.{HasOtherHiddenClass, gates_but_at, is_own, permissions_but_at, report_of, with_document}

-- One incident has other lines in a wholly hidden class and below it: they are put, taken or exchanged, with the gates
-- and permissions there. The paths of all other classes stay, and what is withheld is the same on both sides.
pub record HasExchangedClass (now : ℤ) (a : Account) (s t : State) : Type 0 where
  pub incident : Incident
  pub path : Tokens
  pub document : Lines
  pub there : incident_of incident.naming.number s ≡ Some incident
  pub foreign : is_own now a s incident.naming.number ≡ false
  pub below_root : is_root path ≡ false
  pub first : is_hidden_from (standing_at s now a.person incident) path (report_of s incident incident.document) ≡ true
  pub second : is_hidden_from (standing_at t now a.person incident) path (report_of t incident document) ≡ true
  pub others : lines_but (is_within path) incident.document ≡ lines_but (is_within path) document
  pub withheld : withheld_of incident.document (case_for s incident) (standing_at s now a.person incident)
      ≡ withheld_of document (case_for t incident) (standing_at t now a.person (record incident { document = document }))
  pub gates : gates_but_at incident.naming.number path s.gates ≡ gates_but_at incident.naming.number path t.gates
  pub permissions : permissions_but_at incident.naming.number path s.permissions
      ≡ permissions_but_at incident.naming.number path t.permissions
  pub after : t ≡ record s { incidents = with_document incident.naming.number document s.incidents; gates = t.gates; permissions = t.permissions }

-- Two sound states are equal but for a hidden class exactly if that class of the one is exchanged in the other.
abbrev pub HiddenClassesAgree : Type 0
HiddenClassesAgree = (now : ℤ) (a : Account) (s t : State) → IsSound s → IsSound t →
    HasOtherHiddenClass now a s t ↔ HasExchangedClass now a s t
