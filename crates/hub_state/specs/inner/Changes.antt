-- Edits whose memory was taken before.
use Rattle.std.specs.Prelude.{Bool, true, false, List, filter, Option, Some, None}
use Rattle.std.specs.List.{filter_map}
use Rattle.circle.specs.declared.command.RowEdit.{RowEdit}
use Rattle.hub_state.specs.declared.change.Change.{Change}
use Rattle.hub_state.specs.declared.change.Change.TheVariants.{Directory, Row}
use Rattle.hub_state.specs.declared.change.RowChange.{RowChange}
use Rattle.hub_state.specs.declared.change.RowChange.TheVariants.{PutIncident, TakeIncident, TakePolicy, PutGate, TakeGate, PutRecipient, TakeRecipient}
use Rattle.hub_state.specs.declared.change.RowChange.TheVariants.{PutPermission, TakePermission}
use Rattle.hub_state.specs.declared.edit.Edit.{Edit}
use Rattle.hub_state.specs.declared.edit.Edit.TheVariants as edit

-- the edit of a change to a row of an incident
abbrev pub row_edit : RowChange → Edit
row_edit (PutIncident incident) = edit.PutIncident incident
row_edit (TakeIncident n) = edit.TakeIncident n
row_edit (TakePolicy n) = edit.TakePolicy n
row_edit (PutGate gate) = edit.PutGate gate
row_edit (TakeGate key) = edit.TakeGate key
row_edit (PutRecipient recipient) = edit.PutRecipient recipient
row_edit (TakeRecipient recipient) = edit.TakeRecipient recipient
row_edit (PutPermission permission) = edit.PutPermission permission
row_edit (TakePermission key) = edit.TakePermission key

-- the edit of a change
abbrev pub edit_in : Change → Edit
edit_in (Directory row) = edit.Directory row
edit_in (Row change) = row_edit change

-- the row of the directory that an edit changes, if it changes one
abbrev pub directory_edit : Edit → Option RowEdit
directory_edit (edit.Directory row) = Some row
directory_edit _ = None

-- the edits of the directory, in their order
abbrev pub directory_edits : List Edit → List RowEdit
directory_edits = filter_map directory_edit

-- the edit changes no row of the directory
abbrev pub is_row_edit : Edit → Bool
is_row_edit (edit.Directory row) = false
is_row_edit _ = true

-- the other edits, in their order
abbrev pub row_edits : List Edit → List Edit
row_edits = filter is_row_edit
