use Rattle.{std.proofs.Common.{[], ◌∷◌, decimal, refl, ap}, json.specs.Print.quoted, serde_json.specs.Data.string, iodef_tree.specs.Pointer.pointer_text}
use Rattle.hub_http.{proofs.Arrays.{begins, next, ends}, specs.Bodies.{whole, whole_or_zero}}
use Rattle.hub_http.proofs.bodies.put_gate.Goals as goal

pub returns-clause-puts : goal.returns-clause-puts
returns-clause-puts g c =
    ends g.S.Sink.puts g.met.S.Sink.joins _ c.token-2.result
    (next g.S.Sink.puts g.met.S.Sink.joins (decimal c.number_or_zero.result)
    (next g.S.Sink.puts g.met.S.Sink.joins (decimal c.from.result)
    (next g.S.Sink.puts g.met.S.Sink.joins (quoted (pointer_text c.args.gate.now.path))
    (begins g.S.Sink.puts g.met.S.Sink.joins c.args.out.now.after_value
    (string (pointer_text c.args.gate.now.path) ∷ whole c.args.gate.now.level ∷ whole_or_zero c.args.gate.now.group ∷ [])
    c.in_ok-token.ensures.puts c.in_ok-token.ensures.after)
    c.in_ok-pointer.ensures.puts c.in_ok-pointer.ensures.after refl)
    c.in_ok-number.ensures.puts c.in_ok-number.ensures.after (ap decimal c.from.ensures))
    c.in_ok-number-2.ensures.puts c.in_ok-number-2.ensures.after (ap decimal c.number_or_zero.ensures))
    c.token-2.ensures.puts
