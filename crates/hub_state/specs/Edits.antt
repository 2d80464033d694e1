-- What an edit does.
use Rattle.std.specs.Prelude.{not, ◌==◌, List, [], ◌∷◌, filter}
use Rattle.circle.specs.Ordered.{put_by, by_number}
use Rattle.circle.specs.Aftermath.{edited_row}
use Rattle.hub_state.specs.State.{State, incident_number, gate_cmp, recipient_cmp, permission_cmp, is_gate_at, is_recipient_being, is_permission_being}
use Rattle.hub_state.specs.declared.state.Incident.{Incident}
use Rattle.hub_state.specs.declared.state.Gate.{Gate}
use Rattle.hub_state.specs.declared.state.Recipient.{Recipient}
use Rattle.hub_state.specs.declared.state.Permission.{Permission}
use Rattle.hub_state.specs.declared.edit.Edit.{Edit}
use Rattle.hub_state.specs.declared.edit.Edit.TheVariants.{Directory, PutIncident, TakeIncident, TakePolicy, PutGate, TakeGate, PutRecipient, TakeRecipient}
use Rattle.hub_state.specs.declared.edit.Edit.TheVariants.{PutPermission, TakePermission}

-- the state after one edit; a put inserts the row before the first one above it and replaces none
abbrev pub edited : Edit → State → State
edited (Directory edit) s = record s { directory = edited_row edit s.directory }
edited (PutIncident incident) s = record s { incidents = put_by (by_number incident_number) incident s.incidents }
edited (TakeIncident n) s = record s { incidents = filter (λ (i : Incident). not (i.naming.number == n)) s.incidents }
edited (TakePolicy n) s = record s {
  gates = filter (λ (g : Gate). not (g.incident == n)) s.gates;
  permissions = filter (λ (x : Permission). not (x.incident == n)) s.permissions;
}
edited (PutGate gate) s = record s { gates = put_by gate_cmp gate s.gates }
edited (TakeGate key) s = record s { gates = filter (λ (g : Gate). not (is_gate_at key g)) s.gates }
edited (PutRecipient recipient) s = record s { recipients = put_by recipient_cmp recipient s.recipients }
edited (TakeRecipient recipient) s = record s { recipients = filter (λ (r : Recipient). not (is_recipient_being recipient.incident recipient.target r)) s.recipients }
edited (PutPermission permission) s = record s { permissions = put_by permission_cmp permission s.permissions }
edited (TakePermission key) s = record s { permissions = filter (λ (x : Permission). not (is_permission_being key x)) s.permissions }

-- the state after the edits, one after another
abbrev pub with_edits : List Edit → State → State
with_edits [] s = s
with_edits (edit ∷ edits) s = with_edits edits (edited edit s)
