use Rattle.{std.proofs.Common.{codes, map, refl}, serde_json.specs.Written.compact_text, json_text.proofs.Objects.{begins, holds-named, ends}}
use Rattle.hub_http.specs.Bodies.{listed, group_object}
use Rattle.hub_http.proofs.bodies.put_joined.Goals as goal

pub returns-clause-puts : goal.returns-clause-puts
returns-clause-puts g c =
    ends g.S.Sink.puts g.met.S.Sink.joins _ c.token-2.result
    (holds-named g.S.Sink.puts g.met.S.Sink.joins (codes "groups") (compact_text (listed (map group_object c.args.groups.now))) (compact_text (listed (map group_object c.args.groups.now)))
    (begins g.S.Sink.puts g.met.S.Sink.joins c.in_ok-token.ensures.puts c.in_ok-token.ensures.after)
    c.in_ok-name.ensures.puts c.in_ok-name.ensures.after c.in_ok-put_groups.ensures.puts c.in_ok-put_groups.ensures.after refl)
    c.token-2.ensures.puts
