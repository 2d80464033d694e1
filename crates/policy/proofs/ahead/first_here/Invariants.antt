use Rattle.{std.proofs.Common.{◌≡◌, [], drop}, policy.specs.{Ahead.refused_with, Verdict.first_of}}
use Rattle.policy.proofs.ahead.first_here.Given as goal

abbrev pub invariant-loop-gate : goal.invariant-loop-gate
invariant-loop-gate l = first_of (refused_with (drop l.gate-index l.gates) []) ≡ first_of (refused_with l.gates [])
