use Rattle.{std.proofs.Common.◌++◌, serde_json.specs.Written.{comma_if, compact_text}, json_text.proofs.Lists.{array-begins, element-more, array-ends}}
use Rattle.{json_text.proofs.Puts.ok-both-are, hub_http.specs.Bodies.gate_triple}
use Rattle.hub_http.proofs.bodies.put_gates.Goals as goal

pub loop-gate-init : goal.loop-gate-init
loop-gate-init g c = (
  _,
  c.in_ok-token.ensures.puts,
  array-begins gate_triple c.args.out.now.after_value c.token.new.self.after_value c.args.gates.now c.in_ok-token.ensures.after,
)

pub loop-gate-preserved : goal.loop-gate-preserved
loop-gate-preserved g c =
    let inv = c.loop-gate.invariant in (
      inv.0 ++ (comma_if c.loop-gate.out.after_value ++ compact_text (gate_triple c.gate-item.result)),
      g.met.S.Sink.joins _ _ _ _ _ inv.1 c.in_ok-put_gate.ensures.puts,
      element-more gate_triple inv.0 _ c.loop-gate.out.after_value c.put_gate.new.out.after_value
          c.args.gates.now c.loop-gate.gate-index c.gate-item.result
          c.loop-gate-test.true c.gate-item.is c.in_ok-put_gate.ensures.after inv.2,
    )

pub returns-clause-puts : goal.returns-clause-puts
returns-clause-puts g c =
    let inv = c.loop-gate.invariant in
    ok-both-are g.S.Sink.puts g.met.S.Sink.joins _ _ _ _ _ _ c.token-2.result
    (array-ends gate_triple inv.0 _ c.loop-gate.out.after_value c.args.gates.now c.loop-gate.gate-index c.loop-gate-test.false inv.2)
    inv.1 c.token-2.ensures.puts
