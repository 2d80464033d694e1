use Rattle.{std.proofs.{Common.arith, lemmas.Grind.common_steps}, hub_state.specs.Documents.ident_of, hub_core.proofs.Twins.twins_here}
use Rattle.hub_core.proofs.judging.body.have_twins.Goals as goal

pub returns-then-is_among : goal.returns-then-is_among
returns-then-is_among c =
    let here = twins_here ident_of c.args.documents.now c.loop-place.place c.index-documents-place.result (omega arith) c.index-documents-place.is in
    grind (arith, common_steps)

pub loop-place-preserved : goal.loop-place-preserved
loop-place-preserved c =
    let here = twins_here ident_of c.args.documents.now c.loop-place.place c.index-documents-place.result (omega arith) c.index-documents-place.is in
    grind (arith, common_steps)
