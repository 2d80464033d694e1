use Rattle.{std.proofs.{Common.{◌≡◌, take, ap, ◌∙◌, arith}, lemmas.Grind.common_steps}, hub_state.specs.Edits.edited, hub_store.proofs.LookUps.Adding.put_none}
use Rattle.hub_store.proofs.LookUps.Adding.{put_more}
use Rattle.hub_store.proofs.into_edit.put_shown.Goals as goal

pub loop-row-init : goal.loop-row-init
loop-row-init g c = put_none g.T.FromRow.shows g.T.IntoEdit.edit c.args.rows

pub loop-row-preserved : goal.loop-row-preserved
loop-row-preserved g c =
    put_more g.T.FromRow.shows g.T.IntoEdit.edit c.args.shown.now c.loop-row.row-index c.row-item.result c.in_ok-from_row.field-0 c.args.rows c.loop-row.rows c.make.new.self c.loop-row-test.true c.row-item.is c.loop-row.invariant c.in_ok-from_row.ensures
    (c.in_ok-make.ensures.made ∙ ap (λ e. edited e c.loop-row.rows) c.into_edit-edit.ensures)

pub returns : goal.returns
returns g c =
    let all : take c.loop-row.row-index c.args.shown.now ≡ c.args.shown.now = grind (arith, common_steps) in
    rw all at c.loop-row.invariant
