use Rattle.{std.proofs.Common.{◌≡◌, drop}, hub_http.{proofs.Gates.behind, specs.{Spelling.gates, inner.Texts.texts}}}
use Rattle.hub_http.proofs.spelling.read_gates.Given as goal

abbrev pub invariant-loop-text : goal.invariant-loop-text
invariant-loop-text l = behind l.gates.items (gates (texts (drop l.text-index l.found))) ≡ gates (texts l.found)
