use Rattle.{serde_json.specs.Written.comma_if, json_text.proofs.{Puts.ok-both-are, Texts.opened-is}}
use Rattle.json_text.proofs.tokens.Tokens.open_quote.Goals as goal

pub returns : goal.returns
returns g c =
    ok-both-are g.S.Sink.puts g.met.S.Sink.joins _ _ _ _ _ _ c.put_text.result
    (opened-is (comma_if c.args.self.now.after_value) c.args.text.now c.as_bytes.result.now c.as_bytes.ensures.value) c.in_ok-begin_at_once.ensures.puts c.put_text.ensures
