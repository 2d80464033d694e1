use Rattle.{std.proofs.Common.{codes, decimal, map, refl, ap, ◌∙◌}, json.specs.{Print.{quoted, token_text}, Token.boolean}, serde_json.specs.Data.object}
use Rattle.{serde_json.specs.{Data.array, View.items_of, Written.compact_text}, iodef_tree.specs.Json.data_of, json_text.proofs.Objects.{begins, holds-more}}
use Rattle.{json_text.proofs.Objects.{holds-named, ends}, redaction.specs.{Answers.withheld_pair, Readable.is_readable}}
use Rattle.redaction.specs.Highest as spec
use Rattle.redaction.proofs.body.put_excerpt.Goals as goal

pub returns-clause-puts : goal.returns-clause-puts
returns-clause-puts g c =
    ends g.S.Sink.puts g.met.S.Sink.joins _ c.token-2.result
    (holds-named g.S.Sink.puts g.met.S.Sink.joins (codes "withheld") (compact_text (array (items_of (map withheld_pair c.args.excerpt.now.withheld.items)))) (compact_text (array (items_of (map withheld_pair c.as_slice.result.now))))
    (holds-more g.S.Sink.puts g.met.S.Sink.joins (codes "readable") (token_text (boolean (is_readable c.args.excerpt.now.document))) (token_text (boolean c.is_readable.result))
    (holds-more g.S.Sink.puts g.met.S.Sink.joins (codes "label") (quoted (spec.tlp_name (spec.highest c.args.arranged c.args.excerpt.now.document))) (quoted c.tlp_name.result.now)
    (holds-named g.S.Sink.puts g.met.S.Sink.joins (codes "document") (compact_text (object (data_of c.args.excerpt.now.document))) (compact_text (object (data_of c.args.excerpt.now.document)))
    (holds-more g.S.Sink.puts g.met.S.Sink.joins (codes "classes") (decimal c.args.excerpt.now.classes) (decimal c.args.excerpt.now.classes)
    (begins g.S.Sink.puts g.met.S.Sink.joins c.in_ok-token.ensures.puts c.in_ok-token.ensures.after)
    c.in_ok-number_member.ensures.puts c.in_ok-number_member.ensures.after refl)
    c.in_ok-name.ensures.puts c.in_ok-name.ensures.after c.in_ok-document.ensures.puts c.in_ok-document.ensures.after refl)
    c.in_ok-text_member.ensures.puts c.in_ok-text_member.ensures.after (ap quoted (c.tlp_name.ensures ∙ ap spec.tlp_name c.highest.ensures)))
    c.in_ok-flag_member.ensures.puts c.in_ok-flag_member.ensures.after (ap (λ b. token_text (boolean b)) c.is_readable.ensures))
    c.in_ok-name-2.ensures.puts c.in_ok-name-2.ensures.after c.in_ok-put_withheld.ensures.puts c.in_ok-put_withheld.ensures.after (ap (λ w. compact_text (array (items_of (map withheld_pair w)))) c.as_slice.ensures.value))
    c.token-2.ensures.puts
