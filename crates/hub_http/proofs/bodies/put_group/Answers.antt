use Rattle.{std.proofs.Common.{codes, decimal, refl, ap}, json.specs.{Print.{quoted, token_text}, Token.boolean}, json_text.proofs.Objects.{begins, holds-more}}
use Rattle.json_text.proofs.Objects.{ends}
use Rattle.hub_http.proofs.bodies.put_group.Goals as goal

pub returns-clause-puts : goal.returns-clause-puts
returns-clause-puts g c =
    ends g.S.Sink.puts g.met.S.Sink.joins _ c.token-2.result
    (holds-more g.S.Sink.puts g.met.S.Sink.joins (codes "releasability") (quoted c.args.group.now.releasability) (quoted c.as_str-2.result.now)
    (holds-more g.S.Sink.puts g.met.S.Sink.joins (codes "owner") (decimal c.args.group.now.owner) (decimal c.args.group.now.owner)
    (holds-more g.S.Sink.puts g.met.S.Sink.joins (codes "number") (decimal c.args.group.now.number) (decimal c.args.group.now.number)
    (holds-more g.S.Sink.puts g.met.S.Sink.joins (codes "name") (quoted c.args.group.now.name) (quoted c.as_str.result.now)
    (holds-more g.S.Sink.puts g.met.S.Sink.joins (codes "extend") (token_text (boolean c.args.group.now.extend)) (token_text (boolean c.args.group.now.extend))
    (holds-more g.S.Sink.puts g.met.S.Sink.joins (codes "active") (token_text (boolean c.args.group.now.active)) (token_text (boolean c.args.group.now.active))
    (begins g.S.Sink.puts g.met.S.Sink.joins c.in_ok-token.ensures.puts c.in_ok-token.ensures.after)
    c.in_ok-flag_member.ensures.puts c.in_ok-flag_member.ensures.after refl)
    c.in_ok-flag_member-2.ensures.puts c.in_ok-flag_member-2.ensures.after refl)
    c.in_ok-text_member.ensures.puts c.in_ok-text_member.ensures.after (ap quoted c.as_str.ensures.value))
    c.in_ok-number_member.ensures.puts c.in_ok-number_member.ensures.after refl)
    c.in_ok-number_member-2.ensures.puts c.in_ok-number_member-2.ensures.after refl)
    c.in_ok-text_member-2.ensures.puts c.in_ok-text_member-2.ensures.after (ap quoted c.as_str-2.ensures.value))
    c.token-2.ensures.puts
