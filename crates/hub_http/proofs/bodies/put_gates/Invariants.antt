use Rattle.{std.proofs.Common.{◌≡◌, ℕ, List, ◌∷◌, ◌++◌, drop, false}, serde_json.specs.Written.comma_if, json_text.proofs.Lists.left_text}
use Rattle.hub_http.specs.Bodies.{gate_triple}
use Rattle.hub_http.proofs.bodies.put_gates.Given as goal

abbrev pub invariant-loop-gate : goal.invariant-loop-gate
invariant-loop-gate g l =
    (done : List ℕ) × g.S.Sink.puts l.fn.out.sink done l.out.sink ×
    (done ++ left_text gate_triple l.out.after_value (drop l.gate-index l.gates)
    ≡ comma_if l.fn.out.after_value ++ 91 ∷ left_text gate_triple false l.gates)
