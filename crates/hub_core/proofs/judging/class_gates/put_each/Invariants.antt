use Rattle.{std.proofs.Common.{◌≡◌, ◌++◌, take, map}, hub_core.specs.inner.Wanted.put_at}
use Rattle.hub_core.proofs.judging.class_gates.put_each.Given as goal

abbrev pub invariant-loop-gate : goal.invariant-loop-gate
invariant-loop-gate l = l.edits.items ≡ l.fn.edits.items ++ map (put_at l.incident) (take l.gate-index l.gates)
