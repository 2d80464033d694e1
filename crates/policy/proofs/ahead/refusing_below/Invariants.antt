use Rattle.{std.proofs.Common.{◌≡◌, ◌∷◌, ◌++◌, drop}, iodef_tree.specs.Text.Tokens, policy.specs.Ahead.refused_with}
use Rattle.policy.proofs.ahead.refusing_below.Given as goal

abbrev pub invariant-loop-gate : goal.invariant-loop-gate
invariant-loop-gate l =
    (z : Tokens) → refused_with l.below.items z ++ refused_with (drop l.gate-index l.gates) (l.token ∷ z) ≡ refused_with l.gates (l.token ∷ z)
