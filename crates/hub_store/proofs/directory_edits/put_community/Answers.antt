use Rattle.{std.proofs.Common.refl, hub_store.proofs.Rows.{SetKinds.put_into, Sets.communities, Texts.put_community_is}}
use Rattle.hub_store.proofs.directory_edits.put_community.Goals as goal

pub returns-clause-made : goal.returns-clause-made
returns-clause-made g c s =
    put_into g.S.Store communities s put_community_is _ _ _ c.run.ensures.goes
    (λ clean inside. rw (
      c.params-to_sql.ensures,
      c.params-to_sql-2.ensures,
      c.as_str.ensures.value,
    ) at (c.run.ensures.ran clean inside))
    c.args.community.now refl c.as_str.ensures.limits
