use Rattle.{std.proofs.Common.{◌≡◌, drop}, sketch.specs.Labels.{least_from, least_of}}
use Rattle.sketch.proofs.labels.least.Given as goal

abbrev pub invariant-loop-handling : goal.invariant-loop-handling
invariant-loop-handling l = least_from l.least (drop l.handling-index l.handlings) ≡ least_of l.handlings
