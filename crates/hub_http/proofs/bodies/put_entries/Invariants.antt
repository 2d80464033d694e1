use Rattle.{std.proofs.Common.{◌≡◌, ℕ, List, ◌∷◌, ◌++◌, drop, false}, serde_json.specs.Written.comma_if, json_text.proofs.Lists.left_text}
use Rattle.hub_http.specs.Bodies.{entry_object}
use Rattle.hub_http.proofs.bodies.put_entries.Given as goal

abbrev pub invariant-loop-entry : goal.invariant-loop-entry
invariant-loop-entry g l =
    (done : List ℕ) × g.S.Sink.puts l.fn.out.sink done l.out.sink ×
    (done ++ left_text entry_object l.out.after_value (drop l.entry-index l.entries) ≡ comma_if l.fn.out.after_value ++ 91 ∷ left_text entry_object false l.entries)
