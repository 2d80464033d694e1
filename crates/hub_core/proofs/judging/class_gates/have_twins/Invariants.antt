use Rattle.{std.proofs.Common.{◌≡◌, map, drop}, hub_state.specs.declared.request.WantedGate.WantedGate, hub_core.specs.Refusals.stands_twice}
use Rattle.hub_core.proofs.judging.class_gates.have_twins.Given as goal

abbrev pub invariant-loop-place : goal.invariant-loop-place
invariant-loop-place l = stands_twice (map (λ (g : WantedGate). g.path) (drop l.place l.wanted)) ≡ stands_twice (map (λ (g : WantedGate). g.path) l.wanted)
