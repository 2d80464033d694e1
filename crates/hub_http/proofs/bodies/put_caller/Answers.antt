use Rattle.{std.proofs.Common.{codes, decimal, refl, ap}, json.specs.{Print.{quoted, token_text}, Token.boolean}, json_text.proofs.Objects.{begins, holds-more}}
use Rattle.{json_text.proofs.Objects.ends, hub_http.specs.Bodies.role_name}
use Rattle.hub_http.proofs.bodies.put_caller.Goals as goal

pub returns-clause-puts : goal.returns-clause-puts
returns-clause-puts g c =
    ends g.S.Sink.puts g.met.S.Sink.joins _ c.token-2.result
    (holds-more g.S.Sink.puts g.met.S.Sink.joins (codes "role") (quoted (role_name c.args.person.now.role)) (quoted c.role_name.result.now)
    (holds-more g.S.Sink.puts g.met.S.Sink.joins (codes "org") (decimal c.args.person.now.org) (decimal c.args.person.now.org)
    (holds-more g.S.Sink.puts g.met.S.Sink.joins (codes "number") (decimal c.args.person.now.number) (decimal c.args.person.now.number)
    (holds-more g.S.Sink.puts g.met.S.Sink.joins (codes "nominated") (token_text (boolean c.args.person.now.nominated)) (token_text (boolean c.args.person.now.nominated))
    (holds-more g.S.Sink.puts g.met.S.Sink.joins (codes "name") (quoted c.args.person.now.name) (quoted c.as_str.result.now)
    (begins g.S.Sink.puts g.met.S.Sink.joins c.in_ok-token.ensures.puts c.in_ok-token.ensures.after)
    c.in_ok-text_member.ensures.puts c.in_ok-text_member.ensures.after (ap quoted c.as_str.ensures.value))
    c.in_ok-flag_member.ensures.puts c.in_ok-flag_member.ensures.after refl)
    c.in_ok-number_member.ensures.puts c.in_ok-number_member.ensures.after refl)
    c.in_ok-number_member-2.ensures.puts c.in_ok-number_member-2.ensures.after refl)
    c.in_ok-text_member-2.ensures.puts c.in_ok-text_member-2.ensures.after (ap quoted c.role_name.ensures))
    c.token-2.ensures.puts
