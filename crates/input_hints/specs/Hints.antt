-- What a person reads below the name of a report's fault: where it is, and what helps.
use Rattle.std.specs.Prelude.{◌++◌, Option, Some, None, codes}
use Rattle.json.specs.Print.{quoted}
use Rattle.iodef_tree.specs.Text.{Bytes, Tokens}
use Rattle.iodef_tree.specs.Pointer.{pointer_text}
use Rattle.iodef_tree.specs.Reading.{required_name}
use Rattle.iodef_tree.specs.declared.fault.Required.{Required}
use Rattle.iodef_tree.specs.declared.fault.ReadFault.{ReadFault}
use Rattle.iodef_tree.specs.declared.fault.ReadFault.TheVariants.{NotJson, NotDocument, Missing, NotWhole, NestedClass, TooDeep, TooManyLines, NoMemory}
use Rattle.input_hints.specs.Marks.{mark_of, mark_hint}
use Rattle.input_hints.specs.declared.mark.ByteOrderMark.{ByteOrderMark}

-- the words about a place: its JSON pointer, quoted since a member's name may have any character, stands before them
abbrev pub placed : Tokens → Bytes → Bytes
placed p words = ((codes "path " ++ quoted (pointer_text p)) ++ codes ": ") ++ words

-- the words about a member that an Incident lacks
abbrev pub lacking_hint : Required → Bytes
lacking_hint member = (codes "it lacks " ++ required_name member) ++ codes ", which may have any value"

-- the words about bytes that are no JSON text
abbrev pub bytes_hint : Option ByteOrderMark → Bytes
bytes_hint (Some mark) = mark_hint mark
bytes_hint None = codes "it isn't JSON in UTF-8: 'python3 -m json.tool FILE' names the line"

-- where the fault of reading a body is, and what helps
abbrev pub read_hint : ReadFault → Bytes → Bytes
read_hint NotJson body = bytes_hint (mark_of body)
read_hint NotDocument body = codes "it isn't an object with an array Incident of objects, or has too many: put brackets around a single Incident, or split the report"
read_hint (Missing p member) body = placed p (lacking_hint member)
read_hint (NotWhole p) body = placed p (codes "a number with a fraction or an exponent, -0, or one beyond 64 bits: write a whole number, or a text")
read_hint (NestedClass p) body = placed p (codes "an object in an array inside an array: remove the inner brackets")
read_hint TooDeep body = codes "a member is inside too many objects, or an array inside too many arrays: write the deep part as a text"
read_hint TooManyLines body = codes "an Incident has too many lines: split long lists among Incidents or reports"
read_hint NoMemory body = codes "memory ran out"
