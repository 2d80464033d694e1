use Rattle.{serde_json.specs.Written.comma_if, json_text.proofs.{Puts.both-are, Texts.name-is}}
use Rattle.json_text.proofs.tokens.Tokens.name.Goals as goal

pub returns-clause-puts : goal.returns-clause-puts
returns-clause-puts g c =
    both-are g.S.Sink.puts g.met.S.Sink.joins _ _ _ _ _ _ (name-is (comma_if c.args.self.now.after_value) c.args.name.now)
    c.in_ok-open_quote.ensures c.in_ok-put.ensures
