use Rattle.hub_core.proofs.Wanted.{stand_seen}
use Rattle.hub_core.proofs.judging.class_gates.ClassGates.stand_at_classes.Goals as goal

pub returns : goal.returns
returns c = stand_seen c.deref.result.now c.self.inside.gates.items c.args.self.now c.args.documents.now c.stand_in_each.result c.deref.ensures.value c.self.view_is c.stand_in_each.ensures
