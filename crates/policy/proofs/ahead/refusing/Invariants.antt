use Rattle.{std.proofs.Common.{◌≡◌, ◌++◌, drop}, iodef_tree.specs.Text.Tokens, policy.{proofs.Onwards.refusals_among, specs.Ahead.refused_with}}
use Rattle.policy.specs.Verdict.{refusals_at}
use Rattle.policy.proofs.ahead.refusing.Given as goal

abbrev pub invariant-loop-gate : goal.invariant-loop-gate
invariant-loop-gate l =
    (z : Tokens) → refused_with l.refusing.items z ++ refusals_among l.standing (drop l.gate-index l.gate-items) z ≡ refusals_at l.case l.standing z
