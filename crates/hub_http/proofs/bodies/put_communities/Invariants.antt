use Rattle.{std.proofs.Common.{◌≡◌, ℕ, List, ◌∷◌, ◌++◌, drop, false}, serde_json.specs.Written.comma_if, json_text.proofs.Lists.left_text}
use Rattle.hub_http.specs.Bodies.{community_object}
use Rattle.hub_http.proofs.bodies.put_communities.Given as goal

abbrev pub invariant-loop-community : goal.invariant-loop-community
invariant-loop-community g l =
    (done : List ℕ) × g.S.Sink.puts l.fn.out.sink done l.out.sink ×
    (done ++ left_text community_object l.out.after_value (drop l.community-index l.communities)
    ≡ comma_if l.fn.out.after_value ++ 91 ∷ left_text community_object false l.communities)
