use Rattle.{std.proofs.Common.refl, iodef_tree.{proofs.Spines.put-class, specs.{View.body, declared.{builder.{Open.Open, Spine.Spine}, object.Object.Object}}}}
use Rattle.iodef_tree.specs.declared.object.Object.{roll-Object}
use Rattle.iodef_tree.proofs.builder.Spine.put.Goals as goal

pub returns-in_ok-push-in-Some : goal.returns-in_ok-push-in-Some
returns-in_ok-push-in-Some c =
    let x = c.in-Some.class in
    let o : Object = roll-Object (record { members = c.in_ok-members-in-Some.members }) in
    let y : Open = record { name = x.name; in_array = x.in_array; object = o } in
    let t : Spine = record { root = c.args.self.root; classes = c.push.new.self } in
    put-class c.args.self t c.pop.new.self.items x y c.args.name c.args.in_array (body c.args.item) c.requires.grown refl c.in-Some.ensures.items c.in_ok-push-in-Some.ensures.items refl refl
    c.in_ok-members-in-Some.ensures
