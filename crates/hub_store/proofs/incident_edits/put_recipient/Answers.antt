use Rattle.{std.proofs.Common.refl, hub_store.proofs.Rows.{SetKinds.put_into, Sets.recipients, Texts.put_recipient_is}}
use Rattle.hub_store.proofs.incident_edits.put_recipient.Goals as goal

pub returns-clause-made : goal.returns-clause-made
returns-clause-made g c s =
    put_into g.S.Store recipients s put_recipient_is _ _ _ c.run.ensures.goes
    (λ clean inside. rw (
      c.params-to_sql.ensures,
      c.params-to_sql-2.ensures,
      c.params-to_sql-3.ensures,
      c.target_key-kind.ensures,
    ) at (c.run.ensures.ran clean inside))
    c.args.recipient.now refl tt
