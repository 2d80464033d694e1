use Rattle.{std.proofs.Common.{◌≡◌, ap, Some, rules, List, ℕ}, iodef_tree.{proofs.Inverse.pointer_text-pointer_tokens, specs.Pointer.pointer_tokens}}
use Rattle.hub_state.specs.declared.request.WantedGate.{WantedGate}
use Rattle.hub_core.proofs.judging.class_gates.class_gate.Goals as goal

pub returns-clause-gate : goal.returns-clause-gate
returns-clause-gate c =
    let read : pointer_tokens c.args.wanted.now.path ≡ Some c.in_ok-path.path = search rules in
    let same = pointer_text-pointer_tokens c.args.wanted.now.path c.in_ok-path.path read in
    let asked : List ℕ → WantedGate = λ path. record { level = c.args.wanted.now.level; group = c.args.wanted.now.group; path = path } in
    ap asked same
