use Rattle.{std.{proofs.Common.{◌≡◌, false, take, map}, specs.List.list_any}, hub_core.specs.{Refusals.is_bad_gate, inner.Wanted.asked_as}}
use Rattle.hub_core.proofs.judging.class_gates.ClassGates.new.Given as goal

abbrev pub invariant-loop-gate : goal.invariant-loop-gate
invariant-loop-gate l = record {
  good : list_any is_bad_gate (take l.gate-index l.wanted) ≡ false;
  same : map asked_as l.gates.items ≡ take l.gate-index l.wanted;
}
