use Rattle.{std.proofs.{Common.{◌≡◌, take, arith, rules, sym, subst, Ok}, lemmas.Grind.common_steps}, sqlite.specs.Held.state, hub_state.specs.Edits.with_edits}
use Rattle.{hub_state.specs.State.empty, hub_store.{proofs.Edits.{Runs.after_more, Steps.makes_then}, specs.{Means.Holds, inner.Makes.Makes}}}
use Rattle.hub_store.proofs.apply.make_all.Goals as goal

pub loop-edit-preserved : goal.loop-edit-preserved
loop-edit-preserved g c = record {
  same_reference = search rules;
  made = λ s.
      let more = after_more c.args.edits.now c.loop-edit.edit-index c.edit-item.result s c.loop-edit-test.true c.edit-item.is in
      subst (λ t. Makes {T = Unit {0}} (state g.S.Store c.args.tx.now.conn.now) (state g.S.Store c.make_edit.new.tx.conn.now) (λ db. Holds db s) (λ db. Holds db t) (Ok tt)) (sym more)
      (makes_then _ _ _ _ _ _ tt _ (c.loop-edit.invariant.made s) (c.in_ok-make_edit.ensures.made (with_edits (take c.loop-edit.edit-index c.args.edits.now) s)));
}

pub returns-in_err-make_edit-clause-goes : goal.returns-in_err-make_edit-clause-goes
returns-in_err-make_edit-clause-goes g c =
    let whole = makes_then _ _ _ _ _ _ tt _ (c.loop-edit.invariant.made empty) (c.in_err-make_edit.ensures.made (with_edits (take c.loop-edit.edit-index c.args.edits.now) empty)) in
    record { kept = whole.goes.kept; inside = λ _ inside. search rules; survives = whole.goes.survives }

pub returns-in_err-make_edit-clause-made : goal.returns-in_err-make_edit-clause-made
returns-in_err-make_edit-clause-made g c s =
    let whole = makes_then _ _ _ _ _ _ tt _ (c.loop-edit.invariant.made s) (c.in_err-make_edit.ensures.made (with_edits (take c.loop-edit.edit-index c.args.edits.now) s)) in
    record { goes = record { kept = whole.goes.kept; inside = λ _ inside. search rules; survives = whole.goes.survives }; made = λ _ _ before. search rules }

pub returns-clause-goes : goal.returns-clause-goes
returns-clause-goes g c = (c.loop-edit.invariant.made empty).goes

pub returns-clause-made : goal.returns-clause-made
returns-clause-made g c s =
    let all : take c.loop-edit.edit-index c.args.edits.now ≡ c.args.edits.now = grind (arith, common_steps) in
    rw all at (c.loop-edit.invariant.made s)
