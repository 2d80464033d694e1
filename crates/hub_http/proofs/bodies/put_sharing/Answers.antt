use Rattle.{std.proofs.Common.{codes, decimal, unwrap_or, map, refl, ap}, json.specs.Print.quoted, serde_json.specs.Written.compact_text}
use Rattle.{json_text.proofs.Objects.{begins, holds-more, holds-named, ends}, hub_http.specs.Bodies.{listed, gate_triple, permission_row, target_pair}}
use Rattle.hub_http.proofs.bodies.put_sharing.Goals as goal

pub returns-clause-puts : goal.returns-clause-puts
returns-clause-puts g c =
    ends g.S.Sink.puts g.met.S.Sink.joins _ c.token-2.result
    (holds-more g.S.Sink.puts g.met.S.Sink.joins (codes "revision") (decimal c.args.told.now.naming.revision) (decimal c.args.told.now.naming.revision)
    (holds-named g.S.Sink.puts g.met.S.Sink.joins (codes "recipients") (compact_text (listed (map target_pair c.args.told.now.recipients)))
    (compact_text (listed (map target_pair c.as_slice-3.result.now)))
    (holds-named g.S.Sink.puts g.met.S.Sink.joins (codes "permissions") (compact_text (listed (map permission_row c.args.told.now.permissions)))
    (compact_text (listed (map permission_row c.as_slice-2.result.now)))
    (holds-more g.S.Sink.puts g.met.S.Sink.joins (codes "number") (decimal c.args.told.now.naming.number) (decimal c.args.told.now.naming.number)
    (holds-more g.S.Sink.puts g.met.S.Sink.joins (codes "ident") (quoted c.args.told.now.naming.ident) (quoted c.as_str.result.now)
    (holds-named g.S.Sink.puts g.met.S.Sink.joins (codes "gates") (compact_text (listed (map gate_triple c.args.told.now.gates)))
    (compact_text (listed (map gate_triple c.as_slice.result.now)))
    (holds-more g.S.Sink.puts g.met.S.Sink.joins (codes "community") (decimal (unwrap_or c.args.told.now.naming.community 0)) (decimal c.number_or_zero.result)
    (begins g.S.Sink.puts g.met.S.Sink.joins c.in_ok-token.ensures.puts c.in_ok-token.ensures.after)
    c.in_ok-number_member.ensures.puts c.in_ok-number_member.ensures.after (ap decimal c.number_or_zero.ensures))
    c.in_ok-name.ensures.puts c.in_ok-name.ensures.after c.in_ok-put_gates.ensures.puts c.in_ok-put_gates.ensures.after
    (ap (λ l. compact_text (listed (map gate_triple l))) c.as_slice.ensures))
    c.in_ok-text_member.ensures.puts c.in_ok-text_member.ensures.after (ap quoted c.as_str.ensures))
    c.in_ok-number_member-2.ensures.puts c.in_ok-number_member-2.ensures.after refl)
    c.in_ok-name-2.ensures.puts c.in_ok-name-2.ensures.after c.in_ok-put_permissions.ensures.puts c.in_ok-put_permissions.ensures.after
    (ap (λ l. compact_text (listed (map permission_row l))) c.as_slice-2.ensures))
    c.in_ok-name-3.ensures.puts c.in_ok-name-3.ensures.after c.in_ok-put_recipients.ensures.puts c.in_ok-put_recipients.ensures.after
    (ap (λ l. compact_text (listed (map target_pair l))) c.as_slice-3.ensures))
    c.in_ok-number_member-3.ensures.puts c.in_ok-number_member-3.ensures.after refl)
    c.token-2.ensures.puts
