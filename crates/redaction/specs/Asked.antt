-- A report, and the question about it.
use Rattle.std.specs.Prelude.{ℕ, List, Bool, not, ◌&&◌, ◌||◌, is_some, slice_get, Result, Ok, Err}
use Rattle.std.specs.List.{list_all}
use Rattle.iodef_tree.specs.Text.{Bytes, is_root}
use Rattle.iodef_tree.specs.Paths.{LocatedLine, located, has_class}
use Rattle.iodef_tree.specs.Reading.{reading}
use Rattle.iodef_tree.specs.declared.fault.ReadFault.{ReadFault}
use Rattle.iodef_tree.specs.declared.line.Line.{Line}
use Rattle.marking.specs.Marks.{first_bad_marking}
use Rattle.policy.specs.declared.case.Case.{Case}
use Rattle.policy.specs.declared.gate.Gate.{Gate}
use Rattle.policy.specs.declared.permission.Permission.{Permission}
use Rattle.redaction.specs.Faults.{of_report}
use Rattle.redaction.specs.Outcome.{Read, ◌>>=◌, or_fault, require}
use Rattle.redaction.specs.declared.asked.Asked.{Asked}
use Rattle.redaction.specs.declared.view.View.{View}
use Rattle.redaction.specs.declared.fault.Fault.TheVariants.{BadMarking, NoIncident, NoClass}

-- ---- the report

-- a result of reading, with its fault as one of this crate
abbrev pub or_read_fault : {A : Type 0} → Result A ReadFault → Read A
or_read_fault (Ok x) = Ok x
or_read_fault (Err e) = Err (of_report e)

-- the documents of a report, or the first fault of reading
abbrev pub read_of : Bytes → Read (List (List Line))
read_of report = or_read_fault (reading report)

-- no class of a document breaks the marking rule
abbrev pub is_well_marked : List Line → Bool
is_well_marked ls = not (is_some (first_bad_marking (located ls)))

-- the documents of a report, one for each Incident; BadMarking if a class of any of them breaks the marking rule
unfoldable pub reported : Bytes → Read (List (List Line))
reported report = do
  documents ← read_of report
  _ ← require (list_all is_well_marked documents) BadMarking
  Ok documents

-- the document of the Incident at a place, or NoIncident
unfoldable pub incident_of : Bytes → ℕ → Read (List Line)
incident_of report k = do
  documents ← reported report
  or_fault NoIncident (slice_get documents k)

-- ---- the question about it

-- a gate is at the root or at a class of the document
abbrev pub gate_stands : List LocatedLine → Gate → Bool
gate_stands es g = is_root g.path || has_class es g.path

-- a permission is at a class of the document
abbrev pub permission_stands : List LocatedLine → Permission → Bool
permission_stands es x = has_class es x.path

-- each gate is at the root or at a class, and each permission at a class
abbrev pub case_stands : List LocatedLine → Case → Bool
case_stands es c = list_all (gate_stands es) c.gates && list_all (permission_stands es) c.permissions

-- The document of the Incident that the view names, with its case and its reader; NoClass if a gate or a permission of
-- the case is at no class.
unfoldable pub asked_of : Bytes → View → Read Asked
asked_of report view = do
  document ← incident_of report view.incident
  _ ← require (case_stands (located document) view.case) NoClass
  Ok (record { document = document; case = view.case; reader = view.reader })
