use Rattle.{std.proofs.Common.{◌≡◌, ℕ, List, ◌∷◌, ◌++◌, drop, false}, serde_json.specs.Written.comma_if, json_text.proofs.Lists.left_text}
use Rattle.hub_http.specs.Bodies.{permission_row}
use Rattle.hub_http.proofs.bodies.put_permissions.Given as goal

abbrev pub invariant-loop-permission : goal.invariant-loop-permission
invariant-loop-permission g l =
    (done : List ℕ) × g.S.Sink.puts l.fn.out.sink done l.out.sink ×
    (done ++ left_text permission_row l.out.after_value (drop l.permission-index l.permissions)
    ≡ comma_if l.fn.out.after_value ++ 91 ∷ left_text permission_row false l.permissions)
