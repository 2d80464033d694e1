use Rattle.{std.proofs.Common.refl, hub_store.proofs.Rows.{SetKinds.put_into, Sets.persons, Texts.put_person_is}}
use Rattle.hub_store.proofs.directory_edits.put_person.Goals as goal

pub returns-clause-made : goal.returns-clause-made
returns-clause-made g c s =
    put_into g.S.Store persons s put_person_is _ _ _ c.run.ensures.goes
    (λ clean inside. rw (
      c.params-to_sql.ensures,
      c.params-to_sql-2.ensures,
      c.params-to_sql-3.ensures,
      c.params-to_sql-4.ensures,
      c.params-to_sql-5.ensures,
      c.params-to_sql-6.ensures,
      c.params-to_sql-7.ensures,
      c.as_str.ensures.value,
      c.role_number.ensures,
      c.as_slice.ensures,
    ) at (c.run.ensures.ran clean inside))
    c.args.account.now refl c.as_str.ensures.limits
