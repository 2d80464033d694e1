use Rattle.std.proofs.Common.{◌≡◌}
use Rattle.redact.proofs.sorted_withheld.pairs_of.Given as goal

abbrev pub invariant-loop-note : goal.invariant-loop-note
invariant-loop-note l = l.pairs.items ≡ l.yielded
