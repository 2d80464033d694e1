-- A pass that is fed the lines of a document one at a time, and its answer to each.
use Rattle.std.specs.Prelude.{◌≡◌, List, [], ◌∷◌, ◌++◌, true, false, Option, Some, None, Result, Err, OnOk, IfErr, IfSome}
use Rattle.iodef_tree.specs.Outline.{is_outline}
use Rattle.iodef_tree.specs.declared.line.Line.{Line}
use Rattle.iodef_tree.specs.declared.fault.OutlineFault.{OutlineFault}
use Rattle.iodef_tree.specs.declared.fault.OutlineFault.TheVariants.{BadOutline}
use Rattle.policy.specs.declared.standing.Standing.{Standing}
use Rattle.policy.specs.declared.case.Case.{Case}

-- the lines so far, and the fault that was returned, if any
pub record Progress : Type 0 where
  pub lines : List Line
  pub fault : Option OutlineFault

-- the lines so far with one more
abbrev pub with_line : Progress → Line → List Line
with_line p line = p.lines ++ line ∷ []

-- One more line is taken exactly if the lines with it are an outline, unless memory runs out. After a fault nothing
-- changes, and each call returns that fault.
pub record TakesLine {T : Type 0} (old : Progress) (line : Line) (result : Result T OutlineFault) (new : Progress) : Type 0 where
  pub ended : IfSome old.fault (λ f. (result ≡ Err f) × (new ≡ old))
  pub taken : old.fault ≡ None → OnOk result ((is_outline (with_line old line) ≡ true) × (new ≡ record { lines = with_line old line; fault = None }))
  pub refused : old.fault ≡ None → IfErr result (λ f. (f ≡ BadOutline → is_outline (with_line old line) ≡ false) × (new ≡ record { lines = old.lines; fault = Some f }))

-- a pass as contracts see it: its case, its standing, and the lines so far
pub record PassState : Type 0 where
  pub case : Case
  pub standing : Standing
  pub fed : Progress

-- A pass takes one more line; its case and its standing stay.
pub record FeedsLine {T : Type 0} (old : PassState) (line : Line) (result : Result T OutlineFault) (new : PassState) : Type 0 where
  pub case : new.case ≡ old.case
  pub standing : new.standing ≡ old.standing
  pub takes : TakesLine old.fed line result new.fed
