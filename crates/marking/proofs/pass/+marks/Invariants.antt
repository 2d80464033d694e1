use Rattle.{std.{proofs.Common.{◌≡◌, ◌++◌, drop, map}, specs.List.flat_map}, iodef_tree.specs.{Tree.{end, member_front, elements}, View.{forest, bodies, body}}}
use Rattle.{iodef_tree.specs.View.members_forest, marking.specs.{Marks.marked_by, inner.Pass.marked_below}}
use Rattle.marking.proofs.pass.+marks.Given as goal

abbrev pub invariant-write_members-loop-name : goal.invariant-write_members-loop-name
invariant-write_members-loop-name g l =
    g.W.MarkWriter.text l.writer ++ flat_map g.W.MarkWriter.line (marked_below (marked_by l.above) (members_forest (drop l.name-index l.name-items)))
    ≡ g.W.MarkWriter.text l.fn.writer ++ flat_map g.W.MarkWriter.line (marked_below (marked_by l.above) (forest l.object))

abbrev pub invariant-write_member-loop-index : goal.invariant-write_member-loop-index
invariant-write_member-loop-index g l =
    g.W.MarkWriter.text l.writer ++ flat_map g.W.MarkWriter.line (marked_below (marked_by l.above) (elements l.name l.index (map body (drop l.index l.item-items)) end))
    ≡ g.W.MarkWriter.text l.fn.writer ++ flat_map g.W.MarkWriter.line (marked_below (marked_by l.above) (member_front l.name (bodies l.member) end))
