use Rattle.{std.proofs.Common.{None, refl}, json.specs.{Print.token_text, Token.null}, serde_json.specs.Written.compact_text, hub_http.proofs.Arrays.token-is}
use Rattle.hub_http.specs.Bodies.{end_or_null}
use Rattle.hub_http.proofs.bodies.put_end.Goals as goal

pub returns-in-None-clause-puts : goal.returns-in-None-clause-puts
returns-in-None-clause-puts g c =
    rw c.in-None.is
    (token-is g.S.Sink.puts g.met.S.Sink.joins _ _ c.args.out.now.after_value (token_text null) (compact_text (end_or_null None)) c.token.result
    c.token.ensures.puts refl)
