use Rattle.{std.proofs.Common.{◌==◌, refl, ◌∙◌}, circle.specs.declared.directory.Account.Account, hub_store.proofs.Rows.Compare.{and-true, equal_numbers}}
use Rattle.hub_store.{proofs.Rows.{Compare.{cast_int, cast_null, cast_flag}, SetKinds.exchanged_in, Sets.persons, Texts.set_key_is}, specs.Rows.role_number}
use Rattle.hub_store.proofs.directory_edits.set_key.Goals as goal

pub returns-clause-made : goal.returns-clause-made
returns-clause-made g c s =
    exchanged_in g.S.Store persons s set_key_is _ _ _ c.run.ensures.goes
    (λ clean inside. rw (
      c.params-to_sql.ensures,
      c.params-to_sql-2.ensures,
      c.as_slice.ensures,
    ) at (c.run.ensures.ran clean inside))
    (λ (x : Account). x.person.number == c.args.person) (λ x. record x { key = c.args.key.now }) refl refl (λ l. refl)
    (λ x. and-true _ ∙ equal_numbers x.person.number c.args.person)
    (λ x. rw (
      cast_int x.person.number,
      cast_null,
      cast_int x.person.org,
      cast_int (role_number x.person.role),
      cast_flag x.person.active,
      cast_flag x.person.nominated,
    ) refl) (λ x h. h)
