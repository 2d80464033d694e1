use Rattle.{std.proofs.Common.refl, hub_store.proofs.Rows.{Compare.bound_moment, SetKinds.put_into, Sets.permissions, Texts.put_permission_is}}
use Rattle.hub_store.proofs.incident_edits.insert_permission.Goals as goal

pub returns-clause-made : goal.returns-clause-made
returns-clause-made g c is s =
    put_into g.S.Store permissions s put_permission_is _ _ _ c.run.ensures.goes
    (λ clean inside. rw (
      c.params-to_sql.ensures,
      c.params-to_sql-2.ensures,
      c.params-to_sql-3.ensures,
      c.params-to_sql-4.ensures,
      c.params-to_sql-5.ensures,
      c.grantee_key-kind.ensures,
      bound_moment,
      is,
    ) at (c.run.ensures.ran clean inside))
    c.args.permission.now refl tt
