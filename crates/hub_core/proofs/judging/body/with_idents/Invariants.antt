use Rattle.std.proofs.Common.{◌≡◌}
use Rattle.hub_core.proofs.judging.body.with_idents.Given as goal

abbrev pub invariant-loop-document : goal.invariant-loop-document
invariant-loop-document l = l.all.items ≡ l.yielded
