use Rattle.std.{proofs.Common.{◌≡◌, ◌++◌, List, ℕ}, specs.Io.KnownBytes.Appends}
use Rattle.redact_program.proofs.output.put.Given as goal

abbrev pub invariant-loop : goal.invariant-loop
invariant-loop g l = (done : List ℕ) × Appends (g.W.Write.contents l.fn.writer) (g.W.Write.contents l.writer) done × (l.fn.bytes ≡ done ++ l.rest)
