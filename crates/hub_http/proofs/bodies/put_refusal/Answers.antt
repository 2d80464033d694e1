use Rattle.{std.proofs.Common.{codes, refl}, json.specs.Print.quoted, json_text.proofs.Objects.{begins, holds-more, ends}}
use Rattle.hub_http.proofs.bodies.put_refusal.Goals as goal

pub returns-clause-puts : goal.returns-clause-puts
returns-clause-puts g c =
    ends g.S.Sink.puts g.met.S.Sink.joins _ c.token-2.result
    (holds-more g.S.Sink.puts g.met.S.Sink.joins (codes "reason") (quoted c.args.why.now) (quoted c.args.why.now)
    (holds-more g.S.Sink.puts g.met.S.Sink.joins (codes "detail") (quoted c.args.detail.now) (quoted c.args.detail.now)
    (holds-more g.S.Sink.puts g.met.S.Sink.joins (codes "code") (quoted c.args.name.now) (quoted c.args.name.now)
    (begins g.S.Sink.puts g.met.S.Sink.joins c.in_ok-token.ensures.puts c.in_ok-token.ensures.after)
    c.in_ok-text_member.ensures.puts c.in_ok-text_member.ensures.after refl)
    c.in_ok-text_member-2.ensures.puts c.in_ok-text_member-2.ensures.after refl)
    c.in_ok-text_member-3.ensures.puts c.in_ok-text_member-3.ensures.after refl)
    c.token-2.ensures.puts
