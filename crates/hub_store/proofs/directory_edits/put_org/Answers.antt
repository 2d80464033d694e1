use Rattle.{std.proofs.Common.refl, hub_store.proofs.Rows.{SetKinds.put_into, Sets.orgs, Texts.put_org_is}}
use Rattle.hub_store.proofs.directory_edits.put_org.Goals as goal

pub returns-clause-made : goal.returns-clause-made
returns-clause-made g c s =
    put_into g.S.Store orgs s put_org_is _ _ _ c.run.ensures.goes
    (λ clean inside. rw (
      c.params-to_sql.ensures,
      c.params-to_sql-2.ensures,
      c.as_str.ensures.value,
    ) at (c.run.ensures.ran clean inside))
    c.args.org.now refl c.as_str.ensures.limits
