use Rattle.{std.proofs.{Common.{refl, arith}, lemmas.{Grind.common_steps, Result.IfOk-weaker}}, iodef_tree.proofs.Filled.{object-filled, filled-Class}}
use Rattle.iodef_tree.{proofs.{Spines.{innermost-grown, closed}, Views.{forest-members, body-Class}}, specs.declared.builder.Spine.Spine}
use Rattle.iodef_tree.proofs.builder.Spine.close.Goals as goal

pub put-requires-clause-numbered : goal.put-requires-clause-numbered
put-requires-clause-numbered c = grind (arith, body-Class, forest-members, innermost-grown)

pub put-requires-clause-filled : goal.put-requires-clause-filled
put-requires-clause-filled c = grind (arith, common_steps, filled-Class, innermost-grown, object-filled)

pub returns-in-Some : goal.returns-in-Some
returns-in-Some c =
    let x = c.in-Some.class in
    let o : Spine = record { root = c.args.self.root; classes = c.pop.new.self } in
    IfOk-weaker c.put.result _ _ (λ t e. closed c.args.self o t x refl c.in-Some.ensures.items e) c.put.ensures
