use Rattle.{std.proofs.Common.{codes, true, refl}, json.specs.{Print.token_text, Token.boolean}, json_text.proofs.Objects.{begins, holds-more, ends}}
use Rattle.hub_http.proofs.bodies.put_done.Goals as goal

pub returns-clause-puts : goal.returns-clause-puts
returns-clause-puts g c =
    ends g.S.Sink.puts g.met.S.Sink.joins _ c.token-2.result
    (holds-more g.S.Sink.puts g.met.S.Sink.joins (codes "done") (token_text (boolean true)) (token_text (boolean true))
    (begins g.S.Sink.puts g.met.S.Sink.joins c.in_ok-token.ensures.puts c.in_ok-token.ensures.after)
    c.in_ok-flag_member.ensures.puts c.in_ok-flag_member.ensures.after refl)
    c.token-2.ensures.puts
