-- Where in a body a fault of `mark` is, and what helps.
use Rattle.std.specs.Prelude.{codes}
use Rattle.iodef_tree.specs.Text.{Bytes}
use Rattle.input_hints.specs.Hints.{placed, read_hint}
use Rattle.hub_service.specs.declared.mark.MarkFault.{MarkFault}
use Rattle.hub_service.specs.declared.mark.MarkFault.TheVariants.{Body, BadMarking, NoClass, NoMemory}

-- the words below the name of a fault; the path of a bad marking is one in the Incident's own document
abbrev pub fault_hint : MarkFault → Bytes → Bytes
fault_hint (Body fault) body = read_hint fault body
fault_hint (BadMarking path) body = placed path (codes "its restriction is none of the ten texts, or its ext-restriction doesn't fit: TLP:AMBER is restriction ext-value with ext-restriction TLP:AMBER")
fault_hint NoClass body = codes "the report has no Incident K, counted from 0, or its document, in which that is /Incident/0, has no class at POINTER"
fault_hint NoMemory body = codes "memory ran out"
