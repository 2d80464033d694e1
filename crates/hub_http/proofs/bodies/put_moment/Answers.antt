use Rattle.{std.{proofs.Common.{◌≡◌, ℤ, pos, negsuc, Some, to_z-of_z, refl, ap, ◌∙◌}, specs.Fmt.signed_decimal}, serde_json.specs.Written.compact_text}
use Rattle.hub_http.{proofs.Arrays.token-is, specs.Bodies.end_or_null}
use Rattle.hub_http.proofs.bodies.put_moment.Goals as goal

-- the text of a moment is that of its number
digits-are : (z : ℤ) → signed_decimal z ≡ compact_text (end_or_null (Some z))
digits-are (pos n) = refl
digits-are (negsuc n) = refl

pub returns-clause-puts : goal.returns-clause-puts
returns-clause-puts g c =
    token-is g.S.Sink.puts g.met.S.Sink.joins _ _ c.args.out.now.after_value c.format.result.now (compact_text (end_or_null (Some c.args.moment)))
    c.token.result c.token.ensures.puts
    (c.format.ensures.text ∙ ap signed_decimal (to_z-of_z c.ranges.moment) ∙ digits-are c.args.moment)
