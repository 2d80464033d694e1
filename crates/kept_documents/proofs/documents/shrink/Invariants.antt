use Rattle.{std.proofs.Common.{◌≤◌, length}, kept_documents.specs.Kept.{weight_in, AreAmong}}
use Rattle.kept_documents.proofs.documents.shrink.Given as goal

abbrev pub invariant-loop-left : goal.invariant-loop-left
invariant-loop-left l = record { counted : weight_in l.kept.entries ≤ l.left; among : AreAmong l.kept.entries l.initial.kept.entries }

abbrev pub decreases-loop-left : goal.decreases-loop-left
decreases-loop-left l = length l.kept.entries
