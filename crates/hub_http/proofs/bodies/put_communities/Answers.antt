use Rattle.{std.proofs.Common.◌++◌, serde_json.specs.Written.{comma_if, compact_text}, json_text.proofs.Lists.{array-begins, element-more, array-ends}}
use Rattle.{json_text.proofs.Puts.ok-both-are, hub_http.specs.Bodies.community_object}
use Rattle.hub_http.proofs.bodies.put_communities.Goals as goal

pub loop-community-init : goal.loop-community-init
loop-community-init g c = (
  _,
  c.in_ok-token.ensures.puts,
  array-begins community_object c.args.out.now.after_value c.token.new.self.after_value c.args.communities.now c.in_ok-token.ensures.after,
)

pub loop-community-preserved : goal.loop-community-preserved
loop-community-preserved g c =
    let inv = c.loop-community.invariant in (
      inv.0 ++ (comma_if c.loop-community.out.after_value ++ compact_text (community_object c.community-item.result)),
      g.met.S.Sink.joins _ _ _ _ _ inv.1 c.in_ok-put_community.ensures.puts,
      element-more community_object inv.0 _ c.loop-community.out.after_value c.put_community.new.out.after_value
          c.args.communities.now c.loop-community.community-index c.community-item.result
          c.loop-community-test.true c.community-item.is c.in_ok-put_community.ensures.after inv.2,
    )

pub returns-clause-puts : goal.returns-clause-puts
returns-clause-puts g c =
    let inv = c.loop-community.invariant in
    ok-both-are g.S.Sink.puts g.met.S.Sink.joins _ _ _ _ _ _ c.token-2.result
    (array-ends community_object inv.0 _ c.loop-community.out.after_value c.args.communities.now c.loop-community.community-index
    c.loop-community-test.false inv.2)
    inv.1 c.token-2.ensures.puts
