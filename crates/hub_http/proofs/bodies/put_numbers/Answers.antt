use Rattle.{std.proofs.Common.{◌++◌, get_or, rules}, serde_json.specs.Written.{comma_if, compact_text}, json_text.proofs.Lists.{array-begins, element-more}}
use Rattle.{json_text.proofs.{Lists.array-ends, Puts.ok-both-are}, hub_http.specs.Bodies.whole}
use Rattle.hub_http.proofs.bodies.put_numbers.Goals as goal

pub loop-n-init : goal.loop-n-init
loop-n-init g c = (
  _,
  c.in_ok-token.ensures.puts,
  array-begins whole c.args.out.now.after_value c.token.new.self.after_value c.args.numbers.now c.in_ok-token.ensures.after,
)

pub loop-n-preserved : goal.loop-n-preserved
loop-n-preserved g c =
    let inv = c.loop-n.invariant in (
      inv.0 ++ (comma_if c.loop-n.out.after_value ++ compact_text (whole (get_or c.args.numbers.now c.loop-n.n-index 0))),
      g.met.S.Sink.joins _ _ _ _ _ inv.1 c.in_ok-number.ensures.puts,
      element-more whole inv.0 _ c.loop-n.out.after_value c.number.new.self.after_value c.args.numbers.now c.loop-n.n-index (get_or c.args.numbers.now c.loop-n.n-index 0)
          c.loop-n-test.true (search rules) c.in_ok-number.ensures.after inv.2,
    )

pub returns-clause-puts : goal.returns-clause-puts
returns-clause-puts g c =
    let inv = c.loop-n.invariant in
    ok-both-are g.S.Sink.puts g.met.S.Sink.joins _ _ _ _ _ _ c.token-2.result
    (array-ends whole inv.0 _ c.loop-n.out.after_value c.args.numbers.now c.loop-n.n-index c.loop-n-test.false inv.2) inv.1 c.token-2.ensures.puts
