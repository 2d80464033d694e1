use Rattle.{std.{proofs.Common.{◌≡◌, drop}, specs.List.list_all}, sketch.specs.{Bits.holds, Runs.runs}}
use Rattle.sketch.proofs.runs.has_runs.Given as goal

abbrev pub invariant-loop-start : goal.invariant-loop-start
invariant-loop-start l = list_all (holds l.bits) (runs l.base (drop l.start l.text)) ≡ list_all (holds l.bits) (runs l.base l.text)
