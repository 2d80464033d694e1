use Rattle.{std.proofs.Common.◌++◌, serde_json.specs.Written.{comma_if, compact_text}, json_text.proofs.Lists.{array-begins, element-more, array-ends}}
use Rattle.{json_text.proofs.Puts.ok-both-are, hub_http.specs.Bodies.withheld_pair}
use Rattle.hub_http.proofs.bodies.put_withheld.Goals as goal

pub loop-pair-init : goal.loop-pair-init
loop-pair-init g c = (
  _,
  c.in_ok-token.ensures.puts,
  array-begins withheld_pair c.args.out.now.after_value c.token.new.self.after_value c.args.pairs.now c.in_ok-token.ensures.after,
)

pub loop-pair-preserved : goal.loop-pair-preserved
loop-pair-preserved g c =
    let inv = c.loop-pair.invariant in (
      inv.0 ++ (comma_if c.loop-pair.out.after_value ++ compact_text (withheld_pair c.pair-item.result)),
      g.met.S.Sink.joins _ _ _ _ _ inv.1 c.in_ok-put_withheld_pair.ensures.puts,
      element-more withheld_pair inv.0 _ c.loop-pair.out.after_value c.put_withheld_pair.new.out.after_value c.args.pairs.now c.loop-pair.pair-index c.pair-item.result
          c.loop-pair-test.true c.pair-item.is c.in_ok-put_withheld_pair.ensures.after inv.2,
    )

pub returns-clause-puts : goal.returns-clause-puts
returns-clause-puts g c =
    let inv = c.loop-pair.invariant in
    ok-both-are g.S.Sink.puts g.met.S.Sink.joins _ _ _ _ _ _ c.token-2.result
    (array-ends withheld_pair inv.0 _ c.loop-pair.out.after_value c.args.pairs.now c.loop-pair.pair-index c.loop-pair-test.false inv.2) inv.1 c.token-2.ensures.puts
