use Rattle.{std.proofs.Common.{drop, map}, httparse.specs.Borrowed.header_parts, hub_http.{proofs.ValuesSoFar.IsFront, specs.Fields.field_values}}
use Rattle.hub_http.proofs.fields.field_of.Given as goal

abbrev pub invariant-loop-field : goal.invariant-loop-field
invariant-loop-field l =
    IsFront (field_values l.name (map header_parts l.fields)) l.found (field_values l.name (map header_parts (drop l.field-index l.fields)))
