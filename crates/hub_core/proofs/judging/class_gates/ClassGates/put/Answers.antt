use Rattle.{std.proofs.Common.{◌≡◌, ◌++◌, [], rules}, hub_state.specs.Aftermath.put_gate, hub_core.proofs.Wanted.put_seen}
use Rattle.hub_core.proofs.judging.class_gates.ClassGates.put.Goals as goal

pub returns : goal.returns
returns c =
    let root : c.push.new.self.items ≡ c.args.edits.now.items ++ put_gate c.args.incident c.args.level c.args.group [] = search rules in
    put_seen c.args.incident c.args.level c.args.group c.deref.result.now c.self.inside.gates.items c.args.self.now c.args.edits.now.items c.push.new.self.items c.put_each.new.edits.items c.deref.ensures.value c.self.view_is root (search rules)
