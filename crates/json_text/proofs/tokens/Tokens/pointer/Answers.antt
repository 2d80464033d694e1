use Rattle.{std.proofs.Common.{[], ◌∷◌, ◌++◌, ◌∙◌}, serde_json.specs.Written.comma_if, json_text.proofs.{Puts.ok-both-are, Texts.{token-more, pointer-is}}}
use Rattle.json_text.specs.{Shown.shown_bytes, declared.escape.Within.TheVariants.Token}
use Rattle.json_text.proofs.tokens.Tokens.pointer.Goals as goal

pub loop-token-preserved : goal.loop-token-preserved
loop-token-preserved g c =
    let inv = c.loop-token.invariant in (
      (inv.0 ++ 47 ∷ []) ++ shown_bytes Token c.as_bytes.result.now,
      g.met.S.Sink.joins _ _ _ _ _ (g.met.S.Sink.joins _ _ _ _ _ inv.1 c.in_ok-put.ensures) c.in_ok-put_escaped.ensures,
      token-more inv.0 _ c.tokens-token-items.result.now c.loop-token.token-index c.token-item.result c.as_bytes.result.now c.loop-token-test.true c.token-item.is
          (c.as_bytes.ensures.value ∙ c.as_str.ensures) inv.2,
    )

pub returns-clause-puts : goal.returns-clause-puts
returns-clause-puts g c =
    let inv = c.loop-token.invariant in
    ok-both-are g.S.Sink.puts g.met.S.Sink.joins _ _ _ _ _ _ c.end.result
    (pointer-is (comma_if c.args.self.now.after_value) inv.0 c.tokens-token-items.result.now c.args.path.now c.loop-token.token-index inv.2 c.loop-token-test.false c.tokens-token-items.ensures)
    inv.1 c.end.ensures.puts
