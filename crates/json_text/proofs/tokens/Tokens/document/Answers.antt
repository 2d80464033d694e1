use Rattle.{std.proofs.Common.{OnOk, subst, ◌++◌, ◌∙◌, ap}, serde_json.specs.{Data.object as json_object, Written.{comma_if, compact_text}}}
use Rattle.iodef_tree.{proofs.Meaning.text-is, specs.{Json.data_of, View.forest}}
use Rattle.json_text.proofs.tokens.Tokens.document.Goals as goal

pub returns-clause-puts : goal.returns-clause-puts
returns-clause-puts g c =
    subst (λ t. OnOk c.put_object.result (g.S.Sink.puts c.args.self.now.sink (comma_if c.args.self.now.after_value ++ t) c.put_object.new.out.sink))
    (text-is (forest c.root.result.now) c.root.ensures.sound ∙ ap (λ ls. compact_text (json_object (data_of ls))) c.root.ensures.lines) c.put_object.ensures.puts
