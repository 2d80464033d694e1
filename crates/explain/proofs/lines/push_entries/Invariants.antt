use Rattle.{std.{proofs.Common.{◌≡◌, ◌++◌, drop, string_bytes}, specs.List.flat_map}, explain.specs.Lines.permission_line}
use Rattle.explain.proofs.lines.push_entries.Given as goal

abbrev pub invariant-loop-entry : goal.invariant-loop-entry
invariant-loop-entry l =
    string_bytes l.out ++ flat_map permission_line (drop l.entry-index l.entries) ≡ string_bytes l.initial.out ++ flat_map permission_line l.entries
