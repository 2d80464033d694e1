-- A state without its documents: what a shelf keeps of it that reads the documents elsewhere.
use Rattle.std.specs.Prelude.{Bool, true, false, [], map}
use Rattle.hub_state.specs.State.{State}
use Rattle.hub_state.specs.declared.state.Incident.{Incident}
use Rattle.hub_state.specs.declared.edit.Edit.{Edit}
use Rattle.hub_state.specs.declared.edit.Edit.TheVariants.{PutIncident}

-- the incident without its document
abbrev pub bare_incident : Incident → Incident
bare_incident i = record i { document = [] }

-- the state without its documents
abbrev pub bare : State → State
bare s = record s { incidents = map bare_incident s.incidents }

-- the edit without its document, if it puts one
abbrev pub bare_edit : Edit → Edit
bare_edit (PutIncident i) = PutIncident (bare_incident i)
bare_edit edit = edit

-- the edit, with its document or without it
abbrev pub kept_edit : Bool → Edit → Edit
kept_edit true edit = edit
kept_edit false edit = bare_edit edit
