use Rattle.{std.proofs.Common.{◌≡◌, ℕ, List, ◌∷◌, ◌++◌, drop, false}, serde_json.specs.Written.comma_if, json_text.proofs.Lists.left_text}
use Rattle.redaction.specs.Answers.{withheld_pair}
use Rattle.redaction.proofs.body.put_withheld.Given as goal

abbrev pub invariant-loop-pair : goal.invariant-loop-pair
invariant-loop-pair g l =
    (done : List ℕ) × g.S.Sink.puts l.fn.out.sink done l.out.sink ×
    (done ++ left_text withheld_pair l.out.after_value (drop l.pair-index l.pairs) ≡ comma_if l.fn.out.after_value ++ 91 ∷ left_text withheld_pair false l.pairs)
