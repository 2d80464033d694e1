use Rattle.{std.specs.{Io.KnownBytes.Consumes, List.list_all, Prelude.IsTrue}, hub_service.specs.Keys.is_no_newline}
use Rattle.hub_service.proofs.input.read_line.Given as goal

abbrev pub invariant-loop : goal.invariant-loop
invariant-loop g l = record {
  plain : IsTrue (list_all is_no_newline l.line.items);
  reads : Consumes (g.R.Read.remaining l.fn.reader) (g.R.Read.remaining l.reader) l.line.items;
}
