use Rattle.{std.proofs.Common.◌++◌, serde_json.specs.Written.{comma_if, compact_text}, json_text.proofs.Lists.{array-begins, element-more, array-ends}}
use Rattle.{json_text.proofs.Puts.ok-both-are, hub_http.specs.Bodies.group_object}
use Rattle.hub_http.proofs.bodies.put_groups.Goals as goal

pub loop-group-init : goal.loop-group-init
loop-group-init g c = (
  _,
  c.in_ok-token.ensures.puts,
  array-begins group_object c.args.out.now.after_value c.token.new.self.after_value c.args.groups.now c.in_ok-token.ensures.after,
)

pub loop-group-preserved : goal.loop-group-preserved
loop-group-preserved g c =
    let inv = c.loop-group.invariant in (
      inv.0 ++ (comma_if c.loop-group.out.after_value ++ compact_text (group_object c.group-item.result)),
      g.met.S.Sink.joins _ _ _ _ _ inv.1 c.in_ok-put_group.ensures.puts,
      element-more group_object inv.0 _ c.loop-group.out.after_value c.put_group.new.out.after_value c.args.groups.now c.loop-group.group-index c.group-item.result
          c.loop-group-test.true c.group-item.is c.in_ok-put_group.ensures.after inv.2,
    )

pub returns-clause-puts : goal.returns-clause-puts
returns-clause-puts g c =
    let inv = c.loop-group.invariant in
    ok-both-are g.S.Sink.puts g.met.S.Sink.joins _ _ _ _ _ _ c.token-2.result
    (array-ends group_object inv.0 _ c.loop-group.out.after_value c.args.groups.now c.loop-group.group-index c.loop-group-test.false inv.2) inv.1 c.token-2.ensures.puts
