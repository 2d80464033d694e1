use Rattle.{serde_json.specs.Written.comma_if, json_text.proofs.{Puts.ok-both-are, Texts.quoted-is}}
use Rattle.json_text.proofs.tokens.Tokens.quote.Goals as goal

pub returns-clause-puts : goal.returns-clause-puts
returns-clause-puts g c =
    ok-both-are g.S.Sink.puts g.met.S.Sink.joins _ _ _ _ _ _ c.end.result (quoted-is (comma_if c.args.self.now.after_value) c.args.text.now)
    c.in_ok-open_quote.ensures c.end.ensures.puts
