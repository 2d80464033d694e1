use Rattle.{std.proofs.{Common.arith, lemmas.Grind.common_steps}, hub_state.specs.declared.request.WantedGate.WantedGate, hub_core.proofs.Twins.twins_here}
use Rattle.hub_core.proofs.judging.class_gates.have_twins.Goals as goal

pub returns-then-is_among : goal.returns-then-is_among
returns-then-is_among c =
    let here = twins_here (λ (g : WantedGate). g.path) c.args.wanted.now c.loop-place.place c.index-wanted-place.result (omega arith) c.index-wanted-place.is in
    grind (arith, common_steps)

pub loop-place-preserved : goal.loop-place-preserved
loop-place-preserved c =
    let here = twins_here (λ (g : WantedGate). g.path) c.args.wanted.now c.loop-place.place c.index-wanted-place.result (omega arith) c.index-wanted-place.is in
    grind (arith, common_steps)
