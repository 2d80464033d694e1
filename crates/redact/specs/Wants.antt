-- What is looked for in an incident: a want.
use Rattle.std.specs.Prelude.{◌≡◌, Bool, List, Option, Some, None, option_map, string_bytes}
use Rattle.iodef_tree.specs.Text.{Bytes}
use Rattle.iodef_tree.specs.declared.line.Line.{Line}
use Rattle.policy.specs.declared.standing.Standing.{Standing}
use Rattle.policy.specs.declared.case.Case.{Case}
use Rattle.redact.specs.Told.{is_listed, finds}
use Rattle.redact.specs.declared.want.Want.{Want}

-- Whether a want is met. Without a needle it is met if the incident is listed, whatever class is named; with one if a
-- search finds it there.
abbrev pub meets_by : Option Bytes → Option Bytes → List Line → Case → Standing → Bool
meets_by None class ls c s = is_listed ls c s
meets_by (Some needle) class ls c s = finds ls c s needle class

-- these lines meet the want, for this case and standing
abbrev pub meets : Want → List Line → Case → Standing → Bool
meets want ls c s = meets_by (option_map string_bytes want.needle) (option_map string_bytes want.class) ls c s

-- two wants have the same needle and the same class
pub record HasSameWords (copy want : Want) : Type 0 where
  pub needle : option_map string_bytes copy.needle ≡ option_map string_bytes want.needle
  pub class : option_map string_bytes copy.class ≡ option_map string_bytes want.class
