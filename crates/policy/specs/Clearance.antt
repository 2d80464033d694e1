-- The clearance of a reader (FIRST TLP 2.0). The strictest goes to the recipients that the source named. Then come
-- their organisations, and the clients of these and of the source. Then comes the community that the incident names,
-- or those of the source if it names none.
use Rattle.std.specs.Prelude.{Bool, true, ◌&&◌, List, [], ◌∷◌, find}
use Rattle.std.specs.Option.{option_map_or}
use Rattle.marking.specs.declared.label.Handling.{Handling}
use Rattle.marking.specs.declared.label.Handling.TheVariants.{Clear, Green, Amber, Strict, Red}
use Rattle.policy.specs.declared.rule.Rule.{Rule}
use Rattle.policy.specs.declared.rule.Rule.TheVariants.{P, O, C, M, A}
use Rattle.policy.specs.declared.standing.Standing.{Standing}

-- a row of the table of clearances: a rule, whether it holds of the reader, and the handling that it clears the reader
-- for
pub record Row : Type 0 where
  pub rule : Rule
  pub holds : Bool
  pub handling : Handling

-- a row made of its parts
abbrev pub row : Rule → Bool → Handling → Row
row r holds h = record { rule = r; holds = holds; handling = h }

-- The table, the strictest row first. TLP:RED is for individual recipients, TLP:AMBER+STRICT for their organisation,
-- and TLP:AMBER for its clients too. TLP:GREEN is for the community that the incident names, or for the source's if it
-- names none; TLP:CLEAR is for everybody.
abbrev pub clearance_rows : Standing → List Row
clearance_rows s =
    row P s.person Red
    ∷ row O (s.nominated && s.addressed) Strict
    ∷ row C (s.nominated && s.client) Amber
    ∷ row M s.peer Green
    ∷ row A true Clear
    ∷ []

-- the handling and the rule of a row
abbrev pub cleared_by : Row → Handling × Rule
cleared_by r = (r.handling, r.rule)

-- the handling of the first row that holds, and its rule
abbrev pub clearance_of : Standing → Handling × Rule
clearance_of s = option_map_or cleared_by (find (λ r. r.holds) (clearance_rows s)) (Clear, A)
