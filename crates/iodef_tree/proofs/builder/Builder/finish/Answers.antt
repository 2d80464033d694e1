use Rattle.{std.proofs.Common.{◌∙◌, ap}, iodef_tree.{proofs.Spines.{finished-sound, finished-filled}, specs.Outline.is_outline}}
use Rattle.iodef_tree.proofs.builder.Builder.finish.Goals as goal

pub new-requires-clause-sound : goal.new-requires-clause-sound
new-requires-clause-sound c = finished-sound c.self.inside.spine c.in_ok-spine.spine c.in_ok-spine.ensures (ap is_outline c.self.view_is ∙ c.requires)

pub new-requires-clause-filled : goal.new-requires-clause-filled
new-requires-clause-filled c = finished-filled c.self.inside.spine c.in_ok-spine.spine c.in_ok-spine.ensures
