use Rattle.{std.proofs.Common.{codes, map, refl}, serde_json.specs.Written.compact_text, json_text.proofs.Objects.{begins, holds-named, ends}}
use Rattle.hub_http.specs.Bodies.{listed, community_object}
use Rattle.hub_http.proofs.bodies.put_joined_communities.Goals as goal

pub returns-clause-puts : goal.returns-clause-puts
returns-clause-puts g c =
    ends g.S.Sink.puts g.met.S.Sink.joins _ c.token-2.result
    (holds-named g.S.Sink.puts g.met.S.Sink.joins (codes "communities") (compact_text (listed (map community_object c.args.communities.now)))
    (compact_text (listed (map community_object c.args.communities.now)))
    (begins g.S.Sink.puts g.met.S.Sink.joins c.in_ok-token.ensures.puts c.in_ok-token.ensures.after)
    c.in_ok-name.ensures.puts c.in_ok-name.ensures.after c.in_ok-put_communities.ensures.puts c.in_ok-put_communities.ensures.after refl)
    c.token-2.ensures.puts
