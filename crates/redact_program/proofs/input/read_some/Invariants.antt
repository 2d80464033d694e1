use Rattle.std.{proofs.Common.{◌≤◌, length}, specs.Io.KnownBytes.Consumes}
use Rattle.redact_program.proofs.input.read_some.Given as goal

abbrev pub invariant-loop : goal.invariant-loop
invariant-loop g l = record {
  within : length l.bytes.items ≤ 1048577;
  reads : Consumes (g.R.Read.remaining l.fn.reader) (g.R.Read.remaining l.reader) l.bytes.items;
}
