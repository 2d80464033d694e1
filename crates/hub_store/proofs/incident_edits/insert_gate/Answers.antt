use Rattle.{std.proofs.Common.{refl, rules}, hub_store.proofs.Rows.{Compare.bound_option, SetKinds.put_into, Sets.gates, Texts.put_gate_is}}
use Rattle.hub_store.proofs.incident_edits.insert_gate.Goals as goal

pub returns-clause-made : goal.returns-clause-made
returns-clause-made g c is s =
    put_into g.S.Store gates s put_gate_is _ _ _ c.run.ensures.goes
    (λ clean inside. rw (
      c.params-to_sql.ensures,
      c.params-to_sql-2.ensures,
      c.params-to_sql-3.ensures,
      c.params-to_sql-4.ensures,
      c.from.ensures,
      bound_option,
      is,
    ) at (c.run.ensures.ran clean inside))
    c.args.gate.now refl (search rules)
