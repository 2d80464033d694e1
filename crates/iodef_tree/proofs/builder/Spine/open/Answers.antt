use Rattle.{std.proofs.Common.refl, iodef_tree.{proofs.Spines.opened, specs.declared.{builder.{Open.Open, Spine.Spine}, object.Object.{Object, roll-Object}}}}
use Rattle.iodef_tree.proofs.builder.Spine.open.Goals as goal

pub returns : goal.returns
returns c =
    let o : Object = roll-Object (record { members = c.new.result }) in
    let x : Open = record { name = c.args.name; in_array = c.args.in_array; object = o } in
    let t : Spine = record { root = c.args.self.root; classes = c.push.new.self } in
    opened c.args.self t x c.requires refl c.in_ok-push.ensures.items c.new.ensures.items
