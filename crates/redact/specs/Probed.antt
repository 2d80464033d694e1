-- A search of a report whose lines come one at a time: when it is sure that the report meets the want.
use Rattle.std.specs.Prelude.{◌≡◌, Bool, true, List, ◌++◌, None, Result, IfOk, IfSome}
use Rattle.iodef_tree.specs.Paths.{located}
use Rattle.iodef_tree.specs.Outline.{is_outline}
use Rattle.iodef_tree.specs.declared.line.Line.{Line}
use Rattle.iodef_tree.specs.declared.fault.OutlineFault.{OutlineFault}
use Rattle.marking.specs.Marks.{first_bad_marking}
use Rattle.policy.specs.declared.standing.Standing.{Standing}
use Rattle.policy.specs.declared.case.Case.{Case}
use Rattle.redact.specs.Feeding.{Progress, TakesLine}
use Rattle.redact.specs.Wants.{meets}
use Rattle.redact.specs.declared.want.Want.{Want}

-- ---- the answers of a search

-- this holds of each outline that begins with these lines, if its markings are accepted
abbrev pub InEach : List Line → (List Line → Type 0) → Type 0
InEach ls P = (more : List Line) → is_outline (ls ++ more) ≡ true →
    first_bad_marking (located (ls ++ more)) ≡ None → P (ls ++ more)

-- whatever lines come behind these, the want is met
abbrev pub IsSure : Want → List Line → Case → Standing → Type 0
IsSure w ls c s = InEach ls (λ all. meets w all c s ≡ true)

-- a search as contracts see it: its case, its standing, its want, the lines so far, and whether it returned true
pub record ProbeState : Type 0 where
  pub case : Case
  pub standing : Standing
  pub want : Want
  pub fed : Progress
  pub met : Bool

-- A search takes one more line. If it returns true, that is sure, and it returns true from then on. After a fault
-- nothing changes.
pub record ProbesLine (old : ProbeState) (line : Line) (result : Result Bool OutlineFault) (new : ProbeState) : Type 0 where
  pub case : new.case ≡ old.case
  pub standing : new.standing ≡ old.standing
  pub want : new.want ≡ old.want
  pub takes : TakesLine old.fed line result new.fed
  pub answers : IfOk result (λ b. b ≡ new.met)
  pub stays : old.met ≡ true → new.met ≡ true
  pub ended : IfSome old.fed.fault (λ f. new.met ≡ old.met)
  pub sure : new.met ≡ true → IsSure new.want new.fed.lines new.case new.standing
