use Rattle.{std.proofs.Common.{◌≡◌, ◌∷◌, ◌||◌, drop}, iodef_tree.specs.Text.Tokens, policy.specs.Ahead.granted_with}
use Rattle.policy.proofs.ahead.granting_below.Given as goal

abbrev pub invariant-loop-permission : goal.invariant-loop-permission
invariant-loop-permission l =
    (z : Tokens) → (granted_with l.below.items z || granted_with (drop l.permission-index l.permissions) (l.token ∷ z)) ≡ granted_with l.permissions (l.token ∷ z)
