use Rattle.{std.{proofs.Common.{◌≡◌, ℕ, List, [], ◌∷◌, ◌++◌, drop}, specs.List.flat_map}, serde_json.specs.Written.comma_if, json_text.proofs.Texts.token_shown}
use Rattle.json_text.proofs.tokens.Tokens.pointer.Given as goal

abbrev pub invariant-loop-token : goal.invariant-loop-token
invariant-loop-token g l =
    (done : List ℕ) × g.S.Sink.puts l.fn.self.sink done l.self.sink ×
    (done ++ flat_map token_shown (drop l.token-index l.token-items) ≡ (comma_if l.fn.self.after_value ++ 34 ∷ []) ++ flat_map token_shown l.token-items)
