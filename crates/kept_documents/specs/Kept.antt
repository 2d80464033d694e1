-- What is kept of the documents that were read.
use Rattle.std.specs.Prelude.{◌≡◌, ◌≤◌, ℕ, ◌+◌, ◌/◌, Bool, false, if◌then◌else◌, ◌==◌, List, [], ◌∷◌, length, Some, Contains}
use Rattle.std.specs.List.{list_any, sum_by}
use Rattle.iodef_tree.specs.declared.line.Line.{Line}
use Rattle.hub_state.specs.Documents.{Lines}
use Rattle.hub_state.specs.State.{State}
use Rattle.hub_state.specs.Reads.{document_of}
use Rattle.hub_state.specs.declared.edit.Edit.{Edit}
use Rattle.hub_state.specs.declared.edit.Edit.TheVariants.{PutIncident, TakeIncident}

-- an incident's number and the lines of its document
abbrev pub Entry : Type 0
Entry = ℕ × Lines

-- each entry is the document that its incident has in the state
abbrev pub AreDocuments : List Entry → State → Type 0
AreDocuments entries s = (e : Entry) → Contains entries e → document_of e.0 s ≡ Some e.1

-- the weight of a name or a text of so many bytes: a 32nd more than its bytes
abbrev pub text_weight : ℕ → ℕ
text_weight n = n + n / 32

-- the weight of a line without its name and its text, which is more if it is an element of an array
abbrev pub own_weight : Bool → ℕ
own_weight in_array = if in_array then 240 else 160

-- the weight of a line
abbrev pub line_weight : Line → ℕ
line_weight l = own_weight l.in_array + text_weight (length l.name) + text_weight (length l.text)

-- The weight of a document: 192, and the sum over its lines. No contract can say what memory a value takes; `weight.rt`
-- says how the numbers follow from what its blocks take.
abbrev pub document_weight : Lines → ℕ
document_weight ls = 192 + sum_by line_weight ls

-- the weight of the documents of all entries together
abbrev pub weight_in : List Entry → ℕ
weight_in [] = 0
weight_in (e ∷ es) = document_weight e.1 + weight_in es

-- no document of an entry weighs more than 1 MiB
abbrev pub AreLight : List Entry → Type 0
AreLight entries = (e : Entry) → Contains entries e → document_weight e.1 ≤ 1048576

-- each entry of the first list is one of the second
abbrev pub AreAmong : List Entry → List Entry → Type 0
AreAmong new old = (e : Entry) → Contains new e → Contains old e

-- the edit puts or takes the row of the incident of this number
abbrev pub is_of : ℕ → Edit → Bool
is_of n (PutIncident i) = i.naming.number == n
is_of n (TakeIncident m) = m == n
is_of n _ = false

-- each entry of the first list is one of the second, and no edit puts or takes its incident's row
abbrev pub AreSpared : List Edit → List Entry → List Entry → Type 0
AreSpared edits new old = (e : Entry) → Contains new e → Contains old e × (list_any (is_of e.0) edits ≡ false)
