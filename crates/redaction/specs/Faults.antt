-- The faults, in one order: of several the first is returned. NoMemory may come in place of any answer.
use Rattle.std.specs.Prelude.{ℕ, nat_lt, if◌then◌else◌, codes}
use Rattle.iodef_tree.specs.Text.{Bytes}
use Rattle.iodef_tree.specs.declared.fault.ReadFault.{ReadFault}
use Rattle.redaction.specs.declared.fault.Fault.{Fault}
use Rattle.redaction.specs.declared.fault.Fault.TheVariants.{NoMemory, ViewNotJson, DoubledMember, NotObject, UnknownMember, MissingMember, WrongKind}
use Rattle.redaction.specs.declared.fault.Fault.TheVariants.{OutOfRange, BadPointer, BadMoment, SourceUnsaid, NotUtf8, NotJson, NotDocument, Missing, NotWhole}
use Rattle.redaction.specs.declared.fault.Fault.TheVariants.{NestedClass, TooDeep, TooManyLines, BadMarking, NoIncident, NoClass, NothingVisible, NotReadable}
use Rattle.redaction.specs.declared.fault.Fault.TheVariants.{IdMissing}
use Rattle.iodef_tree.specs.declared.fault.ReadFault.TheVariants as read

-- the number of a fault: its place in the order, from 1 on
abbrev pub fault_number : Fault → ℕ
fault_number NoMemory = 1
-- of the view description
fault_number ViewNotJson = 2
fault_number DoubledMember = 3
fault_number NotObject = 4
fault_number UnknownMember = 5
fault_number MissingMember = 6
fault_number WrongKind = 7
fault_number OutOfRange = 8
fault_number BadPointer = 9
fault_number BadMoment = 10
fault_number SourceUnsaid = 11
-- of the question besides the view
fault_number NotUtf8 = 12
-- of the report
fault_number NotJson = 13
fault_number NotDocument = 14
fault_number Missing = 15
fault_number NotWhole = 16
fault_number NestedClass = 17
fault_number TooDeep = 18
fault_number TooManyLines = 19
fault_number BadMarking = 20
-- of both
fault_number NoIncident = 21
fault_number NoClass = 22
fault_number NothingVisible = 23
-- of an excerpt that is to be a report again
fault_number NotReadable = 24
fault_number IdMissing = 25

-- the earlier of two faults; the first of two equal ones
abbrev pub earlier : Fault → Fault → Fault
earlier e f = if nat_lt (fault_number f) (fault_number e) then f else e

-- the name of a fault
abbrev pub name_of : Fault → Bytes
name_of NoMemory = codes "NoMemory"
name_of ViewNotJson = codes "ViewNotJson"
name_of DoubledMember = codes "DoubledMember"
name_of NotObject = codes "NotObject"
name_of UnknownMember = codes "UnknownMember"
name_of MissingMember = codes "MissingMember"
name_of WrongKind = codes "WrongKind"
name_of OutOfRange = codes "OutOfRange"
name_of BadPointer = codes "BadPointer"
name_of BadMoment = codes "BadMoment"
name_of SourceUnsaid = codes "SourceUnsaid"
name_of NotUtf8 = codes "NotUtf8"
name_of NotJson = codes "NotJson"
name_of NotDocument = codes "NotDocument"
name_of Missing = codes "Missing"
name_of NotWhole = codes "NotWhole"
name_of NestedClass = codes "NestedClass"
name_of TooDeep = codes "TooDeep"
name_of TooManyLines = codes "TooManyLines"
name_of BadMarking = codes "BadMarking"
name_of NoIncident = codes "NoIncident"
name_of NoClass = codes "NoClass"
name_of NothingVisible = codes "NothingVisible"
name_of NotReadable = codes "NotReadable"
name_of IdMissing = codes "IdMissing"

-- the reason of a fault, in words
abbrev pub reason_of : Fault → Bytes
reason_of NoMemory = codes "memory ran out"
reason_of ViewNotJson = codes "the view is no JSON text in UTF-8"
reason_of DoubledMember = codes "an object of the view has a member twice"
reason_of NotObject = codes "the view is no object"
reason_of UnknownMember = codes "an object of the view has an unknown member"
reason_of MissingMember = codes "an object of the view lacks a member"
reason_of WrongKind = codes "a value of the view is of the wrong kind"
reason_of OutOfRange = codes "a value of the view is out of range"
reason_of BadPointer = codes "a path is no JSON pointer"
reason_of BadMoment = codes "a moment of the view is no whole second with an offset"
reason_of SourceUnsaid = codes "`source` isn't true exactly if the reader's organisation is the source"
reason_of NotUtf8 = codes "a word isn't UTF-8"
reason_of NotJson = codes "the report is no JSON text in UTF-8"
reason_of NotDocument = codes "the report is no IODEF document"
reason_of Missing = codes "an Incident lacks a member"
reason_of NotWhole = codes "a number is no whole one of 64 bits"
reason_of NestedClass = codes "an object is in an array inside an array"
reason_of TooDeep = codes "a member is too deep"
reason_of TooManyLines = codes "an Incident has too many lines"
reason_of BadMarking = codes "a class breaks the marking rule"
reason_of NoIncident = codes "there is no Incident at that place"
reason_of NoClass = codes "there is no class at a path"
reason_of NothingVisible = codes "no class is visible"
reason_of NotReadable = codes "the excerpt has too many lines for a report, or is too deep"
reason_of IdMissing = codes "the IncidentID is withheld, and none is given"

-- the fault of a report that can't be read, with the name that it has in a post to a hub
abbrev pub of_report : ReadFault → Fault
of_report read.NotJson = NotJson
of_report read.NotDocument = NotDocument
of_report (read.Missing p r) = Missing
of_report (read.NotWhole p) = NotWhole
of_report (read.NestedClass p) = NestedClass
of_report read.TooDeep = TooDeep
of_report read.TooManyLines = TooManyLines
of_report read.NoMemory = NoMemory
