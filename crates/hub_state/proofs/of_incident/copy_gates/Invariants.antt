use Rattle.{std.proofs.Common.{◌≡◌, map, take}, hub_state.specs.declared.state.Gate.Gate}
use Rattle.hub_state.proofs.of_incident.copy_gates.Given as goal

abbrev pub invariant-loop-gate : goal.invariant-loop-gate
invariant-loop-gate l = l.copies.items ≡ map (λ (g : Gate). g.gate) (take l.gate-index l.gates)
