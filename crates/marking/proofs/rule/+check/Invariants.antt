use Rattle.{std.proofs.Common.{◌≡◌, drop, map}, iodef_tree.specs.{Tree.{end, member_front, elements}, View.{forest, bodies, body, members_forest}}}
use Rattle.marking.specs.inner.Pass.{bad_below}
use Rattle.marking.proofs.rule.+check.Given as goal

abbrev pub invariant-bad_below-loop-name : goal.invariant-bad_below-loop-name
invariant-bad_below-loop-name l = bad_below (members_forest (drop l.name-index l.name-items)) ≡ bad_below (forest l.object)

abbrev pub invariant-bad_in_member-loop-index : goal.invariant-bad_in_member-loop-index
invariant-bad_in_member-loop-index l =
    bad_below (elements l.name l.index (map body (drop l.index l.item-items)) end) ≡ bad_below (member_front l.name (bodies l.member) end)
