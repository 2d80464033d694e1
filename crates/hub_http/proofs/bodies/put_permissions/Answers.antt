use Rattle.{std.proofs.Common.◌++◌, serde_json.specs.Written.{comma_if, compact_text}, json_text.proofs.Lists.{array-begins, element-more, array-ends}}
use Rattle.{json_text.proofs.Puts.ok-both-are, hub_http.specs.Bodies.permission_row}
use Rattle.hub_http.proofs.bodies.put_permissions.Goals as goal

pub loop-permission-init : goal.loop-permission-init
loop-permission-init g c = (
  _,
  c.in_ok-token.ensures.puts,
  array-begins permission_row c.args.out.now.after_value c.token.new.self.after_value c.args.permissions.now c.in_ok-token.ensures.after,
)

pub loop-permission-preserved : goal.loop-permission-preserved
loop-permission-preserved g c =
    let inv = c.loop-permission.invariant in (
      inv.0 ++ (comma_if c.loop-permission.out.after_value ++ compact_text (permission_row c.permission-item.result)),
      g.met.S.Sink.joins _ _ _ _ _ inv.1 c.in_ok-put_permission.ensures.puts,
      element-more permission_row inv.0 _ c.loop-permission.out.after_value c.put_permission.new.out.after_value
          c.args.permissions.now c.loop-permission.permission-index c.permission-item.result
          c.loop-permission-test.true c.permission-item.is c.in_ok-put_permission.ensures.after inv.2,
    )

pub returns-clause-puts : goal.returns-clause-puts
returns-clause-puts g c =
    let inv = c.loop-permission.invariant in
    ok-both-are g.S.Sink.puts g.met.S.Sink.joins _ _ _ _ _ _ c.token-2.result
    (array-ends permission_row inv.0 _ c.loop-permission.out.after_value c.args.permissions.now c.loop-permission.permission-index
    c.loop-permission-test.false inv.2)
    inv.1 c.token-2.ensures.puts
