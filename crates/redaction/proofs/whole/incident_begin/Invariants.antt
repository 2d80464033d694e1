use Rattle.{std.{proofs.Common.{◌≡◌, drop}, specs.List.position_from}, redaction.specs.Whole.is_incident}
use Rattle.redaction.proofs.whole.incident_begin.Given as goal

abbrev pub invariant-loop-line : goal.invariant-loop-line
invariant-loop-line l = record {
  counted : l.place ≡ l.line-index;
  left : position_from is_incident l.line-index (drop l.line-index l.lines) ≡ position_from is_incident 0 l.lines;
}
