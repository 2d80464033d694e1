use Rattle.{std.proofs.Common.{◌≡◌, drop}, redaction.specs.Described.{has_alike, same_place}}
use Rattle.redaction.proofs.gates.has_alike.Given as goal

abbrev pub invariant-loop-gate : goal.invariant-loop-gate
invariant-loop-gate l = record {
  left : l.rest ≡ drop l.gate-index l.gates;
  same : has_alike same_place (drop l.gate-index l.gates) ≡ has_alike same_place l.gates;
}
