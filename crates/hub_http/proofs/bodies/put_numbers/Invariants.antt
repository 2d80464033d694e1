use Rattle.{std.proofs.Common.{◌≡◌, ℕ, List, ◌∷◌, ◌++◌, drop, false}, serde_json.specs.Written.comma_if, json_text.proofs.Lists.left_text}
use Rattle.hub_http.specs.Bodies.{whole}
use Rattle.hub_http.proofs.bodies.put_numbers.Given as goal

abbrev pub invariant-loop-n : goal.invariant-loop-n
invariant-loop-n g l =
    (done : List ℕ) × g.S.Sink.puts l.fn.out.sink done l.out.sink ×
    (done ++ left_text whole l.out.after_value (drop l.n-index l.numbers) ≡ comma_if l.fn.out.after_value ++ 91 ∷ left_text whole false l.numbers)
