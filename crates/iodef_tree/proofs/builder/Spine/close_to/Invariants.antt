use Rattle.{std.proofs.Common.{◌+◌, ◌-◌, []}, iodef_tree.specs.Built.Extends}
use Rattle.iodef_tree.proofs.builder.Spine.close_to.Given as goal

abbrev pub invariant-loop-closed : goal.invariant-loop-closed
invariant-loop-closed l = Extends l.initial.spine [] ((l.count + l.depth) - l._closed) l.spine
