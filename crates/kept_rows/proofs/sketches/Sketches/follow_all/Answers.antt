use Rattle.{std.proofs.{Common.{◌∙◌, ◌+◌, sym, ap, subst, drop}, lemmas.List.{drop_more, drop_all}}, hub_state.specs.Edits.{edited, with_edits}}
use Rattle.kept_rows.specs.Drawn.{AreDrawn}
use Rattle.kept_rows.proofs.sketches.Sketches.follow_all.Goals as goal

pub loop-edit-preserved : goal.loop-edit-preserved
loop-edit-preserved c = λ s all.
    let before = c.loop-edit.invariant s all in (
      edited c.edit-item.result before.0,
      c.follow.ensures before.0 before.1,
      ap (λ e. with_edits (drop (c.loop-edit.edit-index + 1) c.args.edits.now) (edited e before.0)) c.edit-item.is
          ∙ (sym (ap (λ l. with_edits l before.0) (drop_more c.args.edits.now c.loop-edit.edit-index c.edit-item.result c.loop-edit-test.true)) ∙ before.2),
    )

pub returns : goal.returns
returns c = λ s all.
    let before = c.loop-edit.invariant s all in
    subst (AreDrawn c.loop-edit.self) (sym (ap (λ l. with_edits l before.0) (drop_all c.loop-edit.edit-index c.args.edits.now c.loop-edit-test.false)) ∙ before.2) before.1
