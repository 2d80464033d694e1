use Rattle.{std.proofs.Common.{◌≡◌, drop, map}, iodef_tree.specs.View.{forest, bodies, body, members_forest}, redaction.specs.inner.Labels.strictest_in}
use Rattle.redaction.specs.inner.Labels.{strictest_among, strictest_of}
use Rattle.redaction.proofs.highest.+strictest.Given as goal

abbrev pub invariant-strictest_in-loop-name : goal.invariant-strictest_in-loop-name
invariant-strictest_in-loop-name l = strictest_in l.arranged (members_forest (drop l._name-index l._name-items)) l.strictest ≡ strictest_in l.arranged (forest l.object) l.fn.before

abbrev pub invariant-strictest_of-loop-item : goal.invariant-strictest_of-loop-item
invariant-strictest_of-loop-item l = strictest_among l.arranged (map body (drop l.item-index l.item-items)) l.strictest ≡ strictest_of l.arranged (bodies l.member) l.fn.before
