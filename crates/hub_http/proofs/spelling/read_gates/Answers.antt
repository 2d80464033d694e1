use Rattle.{std.proofs.Common.{◌≡◌, ◌++◌, ◌∷◌, [], rules}, hub_http.proofs.Gates.{gates_step, gates_end, gates_fault}}
use Rattle.hub_http.proofs.spelling.read_gates.Goals as goal

pub returns-in-Err : goal.returns-in-Err
returns-in-Err c = gates_fault c.args.found.now c.loop-text.gates.items _ c.loop-text.text-index _ c.in-Err.e c.loop-text-test.true c.in-Err.ensures c.loop-text.invariant

pub loop-text-preserved : goal.loop-text-preserved
loop-text-preserved c =
    let grown : c.push.new.self.items ≡ c.loop-text.gates.items ++ c.in-Ok.gate ∷ [] = search rules in
    rw grown (gates_step c.args.found.now c.loop-text.gates.items _ c.loop-text.text-index _ c.in-Ok.gate c.loop-text-test.true c.in-Ok.ensures c.loop-text.invariant)

pub returns : goal.returns
returns c = rw c.new.ensures (gates_end c.args.found.now c.loop-text.gates.items _ c.loop-text.text-index c.loop-text-test.false c.loop-text.invariant)
