use Rattle.{std.proofs.Common.{◌≡◌, ℕ, List, ◌∷◌, ◌++◌, drop, false}, serde_json.specs.Written.comma_if, json_text.proofs.Lists.left_text}
use Rattle.hub_http.specs.Bodies.{target_pair}
use Rattle.hub_http.proofs.bodies.put_recipients.Given as goal

abbrev pub invariant-loop-target : goal.invariant-loop-target
invariant-loop-target g l =
    (done : List ℕ) × g.S.Sink.puts l.fn.out.sink done l.out.sink ×
    (done ++ left_text target_pair l.out.after_value (drop l.target-index l.targets)
    ≡ comma_if l.fn.out.after_value ++ 91 ∷ left_text target_pair false l.targets)
