use Rattle.{std.proofs.Common.{codes, decimal, refl}, json_text.proofs.Objects.{begins, holds-more, ends}}
use Rattle.hub_http.proofs.bodies.put_entry.Goals as goal

pub returns-clause-puts : goal.returns-clause-puts
returns-clause-puts g c =
    ends g.S.Sink.puts g.met.S.Sink.joins _ c.token-2.result
    (holds-more g.S.Sink.puts g.met.S.Sink.joins (codes "source") (decimal c.args.entry.now.source) (decimal c.args.entry.now.source)
    (holds-more g.S.Sink.puts g.met.S.Sink.joins (codes "revision") (decimal c.args.entry.now.revision) (decimal c.args.entry.now.revision)
    (holds-more g.S.Sink.puts g.met.S.Sink.joins (codes "number") (decimal c.args.entry.now.number) (decimal c.args.entry.now.number)
    (begins g.S.Sink.puts g.met.S.Sink.joins c.in_ok-token.ensures.puts c.in_ok-token.ensures.after)
    c.in_ok-number_member.ensures.puts c.in_ok-number_member.ensures.after refl)
    c.in_ok-number_member-2.ensures.puts c.in_ok-number_member-2.ensures.after refl)
    c.in_ok-number_member-3.ensures.puts c.in_ok-number_member-3.ensures.after refl)
    c.token-2.ensures.puts
