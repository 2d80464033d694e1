-- Why the program prints nothing: the name and the reason of the trouble, and how the program ends.
use Rattle.std.specs.Prelude.{[], ◌∷◌, ◌++◌, Bool, true, Option, Some, Result, Ok, Err, codes, length, nat_lt, if◌then◌else◌}
use Rattle.std.specs.declared.io.ErrorKind.{ErrorKind}
use Rattle.std.specs.declared.io.ErrorKind.TheVariants.{NotFound, PermissionDenied, OutOfMemory}
use Rattle.input_hints.specs.Marks.{mark_hint}
use Rattle.input_hints.specs.declared.mark.ByteOrderMark.{ByteOrderMark}
use Rattle.iodef_tree.specs.Text.{Bytes}
use Rattle.redaction.specs.Faults.{name_of, reason_of}
use Rattle.redaction.specs.declared.fault.Fault.{Fault}
use Rattle.redaction.specs.declared.fault.Fault.TheVariants.{NoMemory, ViewNotJson, NotJson, BadPointer}
use Rattle.redact_program.specs.Streams.{Given}
use Rattle.redact_program.specs.declared.input.TheConstants.{INPUT_LIMIT}
use Rattle.redact_program.specs.declared.status.Status.{Status}
use Rattle.redact_program.specs.declared.status.Status.TheVariants.{Refused, Failed}
use Rattle.redact_program.specs.declared.trouble.Trouble.{Trouble}
use Rattle.redact_program.specs.declared.trouble.Trouble.TheVariants as trouble

-- the name of a trouble: that of the fault, ReadFailed or WriteFailed
abbrev pub trouble_name : Trouble → Bytes
trouble_name (trouble.NoAnswer fault) = name_of fault
trouble_name (trouble.MarkedView mark) = name_of ViewNotJson
trouble_name (trouble.MarkedReport mark) = name_of NotJson
trouble_name trouble.FileForPointer = name_of BadPointer
trouble_name trouble.NoReport = codes "ReadFailed"
trouble_name trouble.LongReport = codes "ReadFailed"
trouble_name trouble.NoSuchView = codes "ReadFailed"
trouble_name trouble.ClosedView = codes "ReadFailed"
trouble_name trouble.NoView = codes "ReadFailed"
trouble_name trouble.LongView = codes "ReadFailed"
trouble_name trouble.WriteFailed = codes "WriteFailed"

-- its reason, in words
abbrev pub trouble_reason : Trouble → Bytes
trouble_reason (trouble.NoAnswer fault) = reason_of fault
trouble_reason (trouble.MarkedView mark) = mark_hint mark
trouble_reason (trouble.MarkedReport mark) = mark_hint mark
trouble_reason trouble.FileForPointer =
    codes "POINTER isn't a JSON pointer, which begins with a slash; the report is read from standard input, as in '< FILE'"
trouble_reason trouble.NoReport = codes "standard input can't be read"
trouble_reason trouble.LongReport = codes "the report has more than 1048576 bytes"
trouble_reason trouble.NoSuchView = codes "no such file"
trouble_reason trouble.ClosedView = codes "no permission"
trouble_reason trouble.NoView = codes "the view's file can't be read"
trouble_reason trouble.LongView = codes "the view has more than 1048576 bytes"
trouble_reason trouble.WriteFailed = codes "standard output can't be written"

-- a place behind a reason; nothing if there is none
abbrev pub placed : Bytes → Bytes
placed [] = []
placed (b ∷ bs) = codes ": " ++ (b ∷ bs)

-- the line of a trouble's reason, with its place if it has one
abbrev pub reason_line : Trouble → Bytes → Bytes
reason_line t place = trouble_reason t ++ (placed place ++ codes "\n")

-- what is printed of a trouble: a line with its name, and that of its reason
abbrev pub trouble_text : Trouble → Bytes → Bytes
trouble_text t place = trouble_name t ++ codes "\n" ++ reason_line t place

-- a fault refuses the question, except want of memory, which is a failure
abbrev pub status_of_fault : Fault → Status
status_of_fault NoMemory = Failed
status_of_fault _ = Refused

-- how the program ends for a trouble
abbrev pub trouble_status : Trouble → Status
trouble_status (trouble.NoAnswer fault) = status_of_fault fault
trouble_status (trouble.MarkedView mark) = Refused
trouble_status (trouble.MarkedReport mark) = Refused
trouble_status trouble.FileForPointer = Refused
trouble_status _ = Failed

-- ---- what leads to a trouble

-- a text that was read, if it isn't too long
abbrev pub if_short : Trouble → Bytes → Result Bytes Trouble
if_short too_long bytes = if nat_lt INPUT_LIMIT (length bytes) then Err too_long else Ok bytes

-- the report, or why there is none
abbrev pub report_read : Given → Result Bytes Trouble
report_read (Ok bytes) = if_short trouble.LongReport bytes
report_read (Err OutOfMemory) = Err (trouble.NoAnswer NoMemory)
report_read (Err _) = Err trouble.NoReport

-- why the view's file isn't read
abbrev pub view_trouble : ErrorKind → Trouble
view_trouble OutOfMemory = trouble.NoAnswer NoMemory
view_trouble NotFound = trouble.NoSuchView
view_trouble PermissionDenied = trouble.ClosedView
view_trouble _ = trouble.NoView

-- the bytes of the view's file, or why there are none
abbrev pub view_read : Given → Result Bytes Trouble
view_read (Ok bytes) = if_short trouble.LongView bytes
view_read (Err kind) = Err (view_trouble kind)

-- the trouble of a fault under the byte order marks of the view and the report, and if a word for a pointer has no
-- slash before it: what a person is likely to have done that led to the fault
abbrev pub trouble_of : Fault → Option ByteOrderMark → Option ByteOrderMark → Bool → Trouble
trouble_of ViewNotJson (Some mark) _ _ = trouble.MarkedView mark
trouble_of NotJson _ (Some mark) _ = trouble.MarkedReport mark
trouble_of BadPointer _ _ true = trouble.FileForPointer
trouble_of fault _ _ _ = trouble.NoAnswer fault
