use Rattle.{std.proofs.Common.{◌≡◌, List, ◌∙◌, ap, map}, hub_state.{proofs.Bare.edits_bare, specs.{Bare.{bare, bare_edit}, Edits.with_edits, Lists.Ready}}}
use Rattle.hub_state.specs.{State.State, declared.edit.Edit.Edit}
use Rattle.kept_rows.proofs.kept_rows.KeptRowsShelf.apply.Goals as goal

-- the rows of a state, with the edits made, are those of the state with them made
made_bare : (edits : List Edit) (rows after s : State) → after ≡ with_edits (map bare_edit edits) rows → rows ≡ bare s → after ≡ bare (with_edits edits s)
made_bare edits rows after s made same = made ∙ (ap (with_edits (map bare_edit edits)) same ∙ edits_bare edits s)

pub returns-in-Ok-apply-clause-made : goal.returns-in-Ok-apply-clause-made
returns-in-Ok-apply-clause-made g c = λ clean s has sound. (
  c.in-Ok-apply.ensures.made clean s has.0 sound,
  record {
    same = made_bare c.args.edits.now _ _ s (c.make.ensures ∙ ap (λ (r : Ready). r.after) c.in-Ok.ensures.ready) (c.replace-rows.ensures.value ∙ has.1.same);
    person = tt;
    drawn = c.follow_all.ensures s has.1.drawn;
    sound = sound;
  },
)

pub returns-in-Ok-apply-clause-written : goal.returns-in-Ok-apply-clause-written
returns-in-Ok-apply-clause-written g c = λ clean s has. (
  c.in-Ok-apply.ensures.written clean s has.0,
  made_bare c.args.edits.now _ _ s (c.make.ensures ∙ ap (λ (r : Ready). r.after) c.in-Ok.ensures.ready) (c.replace-rows.ensures.value ∙ has.1.same),
  c.follow_all.ensures s has.1.drawn,
)
