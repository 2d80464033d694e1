use Rattle.std.proofs.Common.{◌≡◌, ◌++◌}
use Rattle.redact.proofs.outline_document.document_of.Given as goal

abbrev pub invariant-loop-line : goal.invariant-loop-line
invariant-loop-line l = record {
  built : l.builder ≡ l.yielded;
  left : l.builder ++ l.line-iterator.rest.items ≡ l.fn.lines.items;
}
