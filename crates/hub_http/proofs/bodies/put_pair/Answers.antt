use Rattle.{std.proofs.Common.{[], ◌∷◌, decimal, refl}, json.specs.Print.quoted, serde_json.specs.Data.string, hub_http.proofs.Arrays.{begins, next}}
use Rattle.hub_http.{proofs.Arrays.{next-token, ends}, specs.Bodies.whole}
use Rattle.hub_http.proofs.bodies.put_pair.Goals as goal

pub returns-clause-puts : goal.returns-clause-puts
returns-clause-puts g c =
    ends g.S.Sink.puts g.met.S.Sink.joins _ c.token-3.result
    (next g.S.Sink.puts g.met.S.Sink.joins (decimal c.args.number)
    (next-token g.S.Sink.puts g.met.S.Sink.joins (quoted c.args.kind.now)
    (begins g.S.Sink.puts g.met.S.Sink.joins c.args.out.now.after_value (string c.args.kind.now ∷ whole c.args.number ∷ []) c.in_ok-token.ensures.puts c.in_ok-token.ensures.after)
    c.in_ok-token-2.ensures.puts c.in_ok-token-2.ensures.after refl)
    c.in_ok-number.ensures.puts c.in_ok-number.ensures.after refl)
    c.token-3.ensures.puts
