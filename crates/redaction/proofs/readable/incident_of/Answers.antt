use Rattle.{std.proofs.{Common.{◌≡◌, ◌+◌, drop, map, arith, false}, lemmas.Grind.common_steps}, iodef_tree.proofs.Filled.{member-at, member-elements}}
use Rattle.{iodef_tree.specs.{View.{bodies, named, members_forest}, inner.Written.goes_on}, redaction.proofs.TreeIncidents.{goes-none, other-member}}
use Rattle.redaction.proofs.TreeIncidents.{this-member}
use Rattle.redaction.proofs.readable.incident_of.Goals as goal

pub returns-then-eq-clause-found : goal.returns-then-eq-clause-found
returns-then-eq-clause-found c =
    let key = c.loop-key-item.result.0 in
    let member = c.loop-key-item.result.1 in
    let others = drop (c.loop-key.key-index + 1) c.deref-key-items.result.now in
    let filled = member-at c.args.root.now c.deref-key-items.result.now c.loop-key.key-index c.loop-key-item.result c.requires c.deref-key-items.ensures.value c.loop-key-test.true c.loop-key-item.is in
    let ends : goes_on (members_forest others) ≡ false = goes-none (map named others) in
    grind (arith, common_steps, this-member key (bodies member) (members_forest others) (member-elements member filled) ends)

pub loop-key-preserved : goal.loop-key-preserved
loop-key-preserved c =
    let key = c.loop-key-item.result.0 in
    let member = c.loop-key-item.result.1 in
    let rest = members_forest (drop (c.loop-key.key-index + 1) c.deref-key-items.result.now) in
    grind (arith, common_steps, other-member key (bodies member) rest)

pub only_class-requires : goal.only_class-requires
only_class-requires c = member-at c.args.root.now c.deref-key-items.result.now c.loop-key.key-index c.loop-key-item.result c.requires c.deref-key-items.ensures.value c.loop-key-test.true c.loop-key-item.is
