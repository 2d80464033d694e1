use Rattle.{std.proofs.Common.{◌++◌, get_or, rules}, hub_state.specs.declared.request.Target.TheVariants.Person, serde_json.specs.Written.comma_if}
use Rattle.{serde_json.specs.Written.compact_text, json_text.proofs.{Lists.{array-begins, element-more, array-ends}, Puts.ok-both-are}}
use Rattle.hub_http.specs.Bodies.{target_pair}
use Rattle.hub_http.proofs.bodies.put_recipients.Goals as goal

pub loop-target-init : goal.loop-target-init
loop-target-init g c = (
  _,
  c.in_ok-token.ensures.puts,
  array-begins target_pair c.args.out.now.after_value c.token.new.self.after_value c.args.targets.now c.in_ok-token.ensures.after,
)

pub loop-target-preserved : goal.loop-target-preserved
loop-target-preserved g c =
    let inv = c.loop-target.invariant in (
      inv.0 ++ (comma_if c.loop-target.out.after_value ++ compact_text (target_pair (get_or c.args.targets.now c.loop-target.target-index (Person 0)))),
      g.met.S.Sink.joins _ _ _ _ _ inv.1 c.in_ok-put_target.ensures.puts,
      element-more target_pair inv.0 _ c.loop-target.out.after_value c.put_target.new.out.after_value
          c.args.targets.now c.loop-target.target-index (get_or c.args.targets.now c.loop-target.target-index (Person 0))
          c.loop-target-test.true (search rules) c.in_ok-put_target.ensures.after inv.2,
    )

pub returns-clause-puts : goal.returns-clause-puts
returns-clause-puts g c =
    let inv = c.loop-target.invariant in
    ok-both-are g.S.Sink.puts g.met.S.Sink.joins _ _ _ _ _ _ c.token-2.result
    (array-ends target_pair inv.0 _ c.loop-target.out.after_value c.args.targets.now c.loop-target.target-index c.loop-target-test.false inv.2)
    inv.1 c.token-2.ensures.puts
