use Rattle.{std.{proofs.Common.{◌≡◌, drop, not}, specs.List.position_from}, iodef_tree.specs.Paths.located, redaction.specs.Asked.gate_stands}
use Rattle.redaction.proofs.locating.stray_gate.Given as goal

abbrev pub invariant-loop-gate : goal.invariant-loop-gate
invariant-loop-gate l = record {
  counted : l.place ≡ l.gate-index;
  left : position_from (λ x. not (gate_stands (located l.document) x)) l.gate-index (drop l.gate-index l.gates) ≡ position_from (λ x. not (gate_stands (located l.document) x)) 0 l.gates;
}
