use Rattle.{std.proofs.Common.{◌≡◌, ◌<◌, ◌^◌, drop}, sketch.specs.Runs.{number_from, number_of}}
use Rattle.sketch.proofs.runs.number.Given as goal

abbrev pub invariant-loop-byte : goal.invariant-loop-byte
invariant-loop-byte l = record {
  rest : number_from l.number (drop l.byte-index l.name) ≡ number_of l.name;
  small : l.number < 2 ^ 32;
}
