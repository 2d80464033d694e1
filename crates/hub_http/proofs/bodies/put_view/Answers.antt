use Rattle.{std.proofs.Common.{codes, decimal, map, refl, ap}, serde_json.specs.{Data.object, Written.compact_text}, iodef_tree.specs.Json.data_of}
use Rattle.{json_text.proofs.Objects.{begins, holds-more, holds-named, ends}, hub_http.specs.Bodies.{listed, withheld_pair}}
use Rattle.hub_http.proofs.bodies.put_view.Goals as goal

pub returns-clause-puts : goal.returns-clause-puts
returns-clause-puts g c =
    ends g.S.Sink.puts g.met.S.Sink.joins _ c.token-2.result
    (holds-named g.S.Sink.puts g.met.S.Sink.joins (codes "withheld") (compact_text (listed (map withheld_pair c.args.told.now.withheld))) (compact_text (listed (map withheld_pair c.as_slice.result.now)))
    (holds-more g.S.Sink.puts g.met.S.Sink.joins (codes "source") (decimal c.args.told.now.source) (decimal c.args.told.now.source)
    (holds-more g.S.Sink.puts g.met.S.Sink.joins (codes "revision") (decimal c.args.told.now.revision) (decimal c.args.told.now.revision)
    (holds-more g.S.Sink.puts g.met.S.Sink.joins (codes "number") (decimal c.args.told.now.number) (decimal c.args.told.now.number)
    (holds-named g.S.Sink.puts g.met.S.Sink.joins (codes "document") (compact_text (object (data_of c.args.told.now.document))) (compact_text (object (data_of c.args.told.now.document)))
    (holds-more g.S.Sink.puts g.met.S.Sink.joins (codes "classes") (decimal c.args.told.now.classes) (decimal c.args.told.now.classes)
    (begins g.S.Sink.puts g.met.S.Sink.joins c.in_ok-token.ensures.puts c.in_ok-token.ensures.after)
    c.in_ok-number_member.ensures.puts c.in_ok-number_member.ensures.after refl)
    c.in_ok-name.ensures.puts c.in_ok-name.ensures.after c.in_ok-document.ensures.puts c.in_ok-document.ensures.after refl)
    c.in_ok-number_member-2.ensures.puts c.in_ok-number_member-2.ensures.after refl)
    c.in_ok-number_member-3.ensures.puts c.in_ok-number_member-3.ensures.after refl)
    c.in_ok-number_member-4.ensures.puts c.in_ok-number_member-4.ensures.after refl)
    c.in_ok-name-2.ensures.puts c.in_ok-name-2.ensures.after c.in_ok-put_withheld.ensures.puts c.in_ok-put_withheld.ensures.after (ap (λ w. compact_text (listed (map withheld_pair w))) c.as_slice.ensures))
    c.token-2.ensures.puts
