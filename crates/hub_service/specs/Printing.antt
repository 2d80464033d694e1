-- What is printed for a command, as far as the bytes of a stream are known.
use Rattle.std.specs.Prelude.{◌≡◌, ◌⊎◌, List, [], ◌∷◌, ◌++◌, ℕ, Option, Result, Ok, Err}
use Rattle.std.specs.Option.{option_map_or}
use Rattle.std.specs.Io.KnownBytes.{Appends, Keeps}
use Rattle.iodef_tree.specs.Text.{Bytes}
use Rattle.hub_service.specs.Faults.{fault_name, fault_status, reason_of, reason_text}
use Rattle.hub_service.specs.declared.fault.Fault.{Fault}
use Rattle.hub_service.specs.declared.status.Status.{Status}
use Rattle.hub_service.specs.declared.status.Status.TheVariants.{Failed}

-- a text on a line of its own
abbrev pub line_of : Bytes → Bytes
line_of text = text ++ 10 ∷ []

-- what is printed for a fault: its name, and its reason, if there is one, on a second line
abbrev pub fault_lines : Fault → Bytes
fault_lines f = line_of (fault_name f) ++ option_map_or (λ r. line_of (reason_text r)) (reason_of f) []

-- Either the bytes were printed behind those of before, and the outcome is the one that was asked for; or the outcome is
-- `Failed`, and perhaps only some of them were printed.
abbrev pub IsTold : Option (List ℕ) → Option (List ℕ) → Bytes → Status → Status → Type 0
IsTold before after bytes asked outcome = (Appends before after bytes × (outcome ≡ asked)) ⊎ (outcome ≡ Failed)

-- how a command ends: its own outcome, with nothing printed; or that of its fault, which is told
abbrev pub HasEnded : Option (List ℕ) → Option (List ℕ) → Result Status Fault → Status → Type 0
HasEnded before after (Ok own) outcome = Keeps before after × (outcome ≡ own)
HasEnded before after (Err f) outcome = IsTold before after (fault_lines f) (fault_status f) outcome
