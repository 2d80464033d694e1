use Rattle.std.proofs.Common.{◌≡◌, take}
use Rattle.kept_documents.proofs.copies.copy_gates.Given as goal

abbrev pub invariant-loop-gate : goal.invariant-loop-gate
invariant-loop-gate l = l.copies.items ≡ take l.gate-index l.gates
