use Rattle.{std.proofs.Common.{◌≡◌, ◌||◌, drop}, iodef_tree.specs.Text.Tokens, policy.{proofs.Onwards.granted_among, specs.Ahead.granted_with}}
use Rattle.policy.specs.Inherited.{is_granted}
use Rattle.policy.proofs.ahead.granting.Given as goal

abbrev pub invariant-loop-permission : goal.invariant-loop-permission
invariant-loop-permission l =
    (z : Tokens) → (granted_with l.granting.items z || granted_among l.standing (drop l.permission-index l.permission-items) z) ≡ is_granted l.case l.standing z
