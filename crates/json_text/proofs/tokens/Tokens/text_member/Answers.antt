use Rattle.{json.specs.Print.quoted, json_text.proofs.{Puts.ok-both-are, Texts.named-is}}
use Rattle.json_text.proofs.tokens.Tokens.text_member.Goals as goal

pub returns-clause-puts : goal.returns-clause-puts
returns-clause-puts g c =
    ok-both-are g.S.Sink.puts g.met.S.Sink.joins _ _ _ _ _ _ c.quote.result
    (named-is c.args.self.now.after_value c.name.new.self.after_value (quoted c.args.name.now) _ c.in_ok-name.ensures.after) c.in_ok-name.ensures.puts c.quote.ensures.puts
