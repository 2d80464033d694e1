use Rattle.{std.proofs.Common.{◌==◌, refl, ◌∙◌}, circle.specs.declared.directory.Group.Group, hub_store.proofs.Rows.Compare.{and-true, equal_numbers, cast_int}}
use Rattle.hub_store.proofs.Rows.{Compare.{cast_null, cast_flag}, SetKinds.exchanged_in, Sets.groups, Texts.set_group_active_is}
use Rattle.hub_store.proofs.directory_edits.switch.Goals as goal

pub returns-clause-made : goal.returns-clause-made
returns-clause-made g c s =
    exchanged_in g.S.Store groups s set_group_active_is _ _ _ c.run.ensures.goes
    (λ clean inside. rw (c.params-to_sql.ensures, c.params-to_sql-2.ensures) at (c.run.ensures.ran clean inside))
    (λ (x : Group). x.number == c.args.group) (λ x. record x { active = c.args.active }) refl refl (λ l. refl)
    (λ x. and-true _ ∙ equal_numbers x.number c.args.group)
    (λ x. rw (cast_int x.number, cast_null, cast_int x.owner, cast_flag c.args.active) refl) (λ x h. h)
