use Rattle.{std.proofs.Common.{◌≡◌, ◌++◌, map, take, drop}, redact_c.specs.Delivery.refused}
use Rattle.redact_c.proofs.delivery.refuse_each.Given as goal

abbrev pub invariant-loop-one : goal.invariant-loop-one
invariant-loop-one l = l.asked ≡ map (refused l.number) (take l.one-index l.initial.asked) ++ drop l.one-index l.initial.asked
