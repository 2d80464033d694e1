use Rattle.{std.proofs.Common.{◌==◌, false, refl, ◌∙◌}, circle.specs.declared.directory.Account.Account, hub_store.proofs.Rows.Compare.and-true}
use Rattle.hub_store.proofs.Rows.{Compare.{equal_numbers, cast_int, cast_null, cast_flag}, SetKinds.exchanged_in, Sets.persons, Texts.set_active_is}
use Rattle.hub_store.specs.Rows.{role_number}
use Rattle.hub_store.proofs.directory_edits.suspend.Goals as goal

pub returns-clause-made : goal.returns-clause-made
returns-clause-made g c s =
    exchanged_in g.S.Store persons s set_active_is _ _ _ c.run.ensures.goes
    (λ clean inside. rw (c.params-to_sql.ensures, c.params-to_sql-2.ensures) at (c.run.ensures.ran clean inside))
    (λ (x : Account). x.person.number == c.args.person)
    (λ x. record x { person = record x.person { active = false } }) refl refl (λ l. refl)
    (λ x. and-true _ ∙ equal_numbers x.person.number c.args.person)
    (λ x. rw (
      cast_int x.person.number,
      cast_null,
      cast_int x.person.org,
      cast_int (role_number x.person.role),
      cast_flag false,
      cast_flag x.person.nominated,
    ) refl) (λ x h. h)
