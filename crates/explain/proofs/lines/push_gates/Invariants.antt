use Rattle.{std.{proofs.Common.{◌≡◌, ◌++◌, drop, string_bytes}, specs.List.flat_map}, explain.specs.Lines.gate_line}
use Rattle.explain.proofs.lines.push_gates.Given as goal

abbrev pub invariant-loop-passage : goal.invariant-loop-passage
invariant-loop-passage l =
    string_bytes l.out ++ flat_map gate_line (drop l.passage-index l.passages) ≡ string_bytes l.initial.out ++ flat_map gate_line l.passages
