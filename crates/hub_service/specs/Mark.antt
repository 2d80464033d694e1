-- What `mark` prints for a body, or why it prints nothing.
use Rattle.std.specs.Prelude.{◌≡◌, List, map, if◌then◌else◌, Option, Some, None, Result, Ok, Err, String, slice_get, string_bytes, codes}
use Rattle.std.specs.Option.{option_map_or}
use Rattle.std.specs.List.{flat_map}
use Rattle.std.specs.declared.alloc.Global.{Global}
use Rattle.iodef_tree.specs.Text.{Bytes, Tokens}
use Rattle.iodef_tree.specs.Paths.{LocatedLine, located, class_paths, has_class}
use Rattle.iodef_tree.specs.Reading.{reading, fault_name as name_of_read}
use Rattle.iodef_tree.specs.declared.line.Line.{Line}
use Rattle.iodef_tree.specs.declared.fault.ReadFault.{ReadFault}
use Rattle.marking.specs.Marks.{marked_at, first_bad_marking}
use Rattle.hub_service.specs.Lines.{line_of}
use Rattle.hub_service.specs.declared.mark.Selection.{Selection}
use Rattle.hub_service.specs.declared.mark.MarkFault.{MarkFault}
use Rattle.hub_service.specs.declared.mark.MarkFault.TheVariants.{Body, BadMarking, NoClass, NoMemory}

-- a line for each class, in stored order
abbrev pub text_of_all : List LocatedLine → Bytes
text_of_all es = flat_map line_of (map (marked_at es) (class_paths es))

-- the line of the class at a path, or NoClass
abbrev pub text_of_class : Tokens → List LocatedLine → Result Bytes MarkFault
text_of_class p es = if has_class es p then Ok (line_of (marked_at es p)) else Err NoClass

-- the line of one class if a path is given, and otherwise all lines
abbrev pub text_of_wanted : Option Tokens → List LocatedLine → Result Bytes MarkFault
text_of_wanted None es = Ok (text_of_all es)
text_of_wanted (Some p) es = text_of_class p es

-- the text unless a class has a bad marking
abbrev pub unless_bad : Option Tokens → Result Bytes MarkFault → Result Bytes MarkFault
unless_bad None text = text
unless_bad (Some p) text = Err (BadMarking p)

-- the lines of a document
abbrev pub text_of_document : Option Tokens → List Line → Result Bytes MarkFault
text_of_document class ls = let es = located ls in unless_bad (first_bad_marking es) (text_of_wanted class es)

-- the lines of the document of the Incident at the place that is wanted, or NoClass
abbrev pub text_of_read : Selection → Result (List (List Line)) ReadFault → Result Bytes MarkFault
text_of_read w (Ok documents) = option_map_or (text_of_document w.class) (slice_get documents w.place) (Err NoClass)
text_of_read w (Err fault) = Err (Body fault)

-- what `mark` prints for a body
abbrev pub mark_text : Selection → Bytes → Result Bytes MarkFault
mark_text w body = text_of_read w (reading body)

-- The call returned this text or fault, unless memory ran out.
abbrev pub IsMarked : Result (String Global) MarkFault → Result Bytes MarkFault → Type 0
IsMarked (Ok s) told = told ≡ Ok (string_bytes s)
IsMarked (Err NoMemory) told = Unit {0}
IsMarked (Err (Body fault)) told = told ≡ Err (Body fault)
IsMarked (Err (BadMarking path)) told = told ≡ Err (BadMarking path)
IsMarked (Err NoClass) told = told ≡ Err NoClass

-- the name of a fault, as it is printed
abbrev pub fault_name : MarkFault → Bytes
fault_name (Body fault) = name_of_read fault
fault_name (BadMarking path) = codes "BadMarking"
fault_name NoClass = codes "NoClass"
fault_name NoMemory = codes "NoMemory"
