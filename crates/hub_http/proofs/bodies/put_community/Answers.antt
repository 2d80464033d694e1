use Rattle.{std.proofs.Common.{codes, decimal, map, refl, ap}, json.specs.Print.quoted, serde_json.specs.Written.compact_text, json_text.proofs.Objects.begins}
use Rattle.{json_text.proofs.Objects.{holds-more, holds-named, ends}, hub_http.specs.Bodies.{listed, whole}}
use Rattle.hub_http.proofs.bodies.put_community.Goals as goal

pub returns-clause-puts : goal.returns-clause-puts
returns-clause-puts g c =
    ends g.S.Sink.puts g.met.S.Sink.joins _ c.token-2.result
    (holds-more g.S.Sink.puts g.met.S.Sink.joins (codes "number") (decimal c.args.community.now.number) (decimal c.args.community.now.number)
    (holds-more g.S.Sink.puts g.met.S.Sink.joins (codes "name") (quoted c.args.community.now.name) (quoted c.as_str.result.now)
    (holds-named g.S.Sink.puts g.met.S.Sink.joins (codes "members") (compact_text (listed (map whole c.args.community.now.members)))
    (compact_text (listed (map whole c.as_slice-2.result.now)))
    (holds-named g.S.Sink.puts g.met.S.Sink.joins (codes "connected") (compact_text (listed (map whole c.args.community.now.connected)))
    (compact_text (listed (map whole c.as_slice.result.now)))
    (begins g.S.Sink.puts g.met.S.Sink.joins c.in_ok-token.ensures.puts c.in_ok-token.ensures.after)
    c.in_ok-name.ensures.puts c.in_ok-name.ensures.after c.in_ok-put_numbers.ensures.puts c.in_ok-put_numbers.ensures.after
    (ap (λ l. compact_text (listed (map whole l))) c.as_slice.ensures))
    c.in_ok-name-2.ensures.puts c.in_ok-name-2.ensures.after c.in_ok-put_numbers-2.ensures.puts c.in_ok-put_numbers-2.ensures.after
    (ap (λ l. compact_text (listed (map whole l))) c.as_slice-2.ensures))
    c.in_ok-text_member.ensures.puts c.in_ok-text_member.ensures.after (ap quoted c.as_str.ensures.value))
    c.in_ok-number_member.ensures.puts c.in_ok-number_member.ensures.after refl)
    c.token-2.ensures.puts
