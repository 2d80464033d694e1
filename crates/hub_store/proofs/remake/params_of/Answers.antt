use Rattle.{std.proofs.{Common.{◌≡◌, ◌++◌, [], ◌∷◌, take, arith, rules}, lemmas.Grind.common_steps}, hub_store.proofs.Versions.Remaking.bound_more}
use Rattle.hub_store.proofs.remake.params_of.Goals as goal

pub loop-at-preserved : goal.loop-at-preserved
loop-at-preserved c =
    let items : c.push.new.self.items ≡ c.loop-at.params.items ++ c.in_ok-get_ref.field-0 ∷ [] = search rules in
    bound_more c.loop-at.params.items c.push.new.self.items c.in_ok-get_ref.field-0 c.args.row.now c.loop-at.at c.in_ok-get_ref.ensures.ok.0 c.in_ok-get_ref.ensures.ok.1 items c.loop-at.invariant

pub returns-clause-value : goal.returns-clause-value
returns-clause-value c =
    let all : take c.loop-at.at c.args.row.now ≡ c.args.row.now = grind (arith, common_steps) in
    rw all at c.loop-at.invariant
