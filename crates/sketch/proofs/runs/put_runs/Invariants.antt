use Rattle.{std.proofs.Common.{◌≡◌, drop}, sketch.specs.{Runs.runs, inner.Puts.put_all}}
use Rattle.sketch.proofs.runs.put_runs.Given as goal

abbrev pub invariant-loop-start : goal.invariant-loop-start
invariant-loop-start l = put_all l.bits (runs l.base (drop l.start l.text)) ≡ put_all l.fn.bits (runs l.base l.text)
