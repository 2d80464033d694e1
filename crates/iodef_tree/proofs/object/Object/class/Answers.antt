use Rattle.iodef_tree.{proofs.Onward.{found-onward, stands-onward}, specs.View.forest}
use Rattle.iodef_tree.proofs.object.Object.class.Goals as goal

pub returns-clause-found : goal.returns-clause-found
returns-clause-found c = found-onward (forest c.args.self.now) c.args.path.now c.object_at.result c.object_at.ensures.found

pub returns-clause-class : goal.returns-clause-class
returns-clause-class c = stands-onward (forest c.args.self.now) c.args.path.now c.object_at.result c.object_at.ensures.found
