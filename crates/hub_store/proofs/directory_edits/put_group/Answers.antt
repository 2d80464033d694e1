use Rattle.{std.proofs.Common.refl, hub_store.proofs.Rows.{SetKinds.put_into, Sets.groups, Texts.put_group_is}}
use Rattle.hub_store.proofs.directory_edits.put_group.Goals as goal

pub returns-clause-made : goal.returns-clause-made
returns-clause-made g c s =
    put_into g.S.Store groups s put_group_is _ _ _ c.run.ensures.goes
    (λ clean inside. rw (
      c.params-to_sql.ensures,
      c.params-to_sql-2.ensures,
      c.params-to_sql-3.ensures,
      c.params-to_sql-4.ensures,
      c.params-to_sql-5.ensures,
      c.as_str.ensures.value,
      c.as_str-2.ensures.value,
    ) at (c.run.ensures.ran clean inside))
    c.args.group.now refl (c.as_str.ensures.limits, c.as_str-2.ensures.limits)
