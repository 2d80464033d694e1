use Rattle.{std.proofs.Common.{◌++◌, [], ◌∷◌, ap, ◌∙◌}, json.specs.{Print.{quoted, token_text}, Token.boolean}, serde_json.specs.Written.comma_if}
use Rattle.json_text.proofs.{Puts.ok-both-are, Texts.{named-is, separator-begins}}
use Rattle.json_text.proofs.tokens.Tokens.flag_member.Goals as goal

pub returns-clause-puts : goal.returns-clause-puts
returns-clause-puts g c =
    let named = comma_if c.args.self.now.after_value ++ (quoted c.args.name.now ++ 58 ∷ []) in
    let flag = token_text (boolean c.args.flag) in
    ok-both-are g.S.Sink.puts g.met.S.Sink.joins _ _ _ _ _ _ c.token.result
    (ap (λ l. named ++ (l ++ flag)) (separator-begins c.name.new.self.after_value)
    ∙ named-is c.args.self.now.after_value c.name.new.self.after_value (quoted c.args.name.now) flag c.in_ok-name.ensures.after)
    c.in_ok-name.ensures.puts c.token.ensures.puts
