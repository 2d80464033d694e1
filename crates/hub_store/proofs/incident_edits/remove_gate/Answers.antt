use Rattle.{std.proofs.Common.{pos, [], ◌∷◌, not, ap}, sqlite_value.specs.declared.value.Value.TheVariants.{Int, Text}, iodef_tree.specs.Pointer.pointer_text}
use Rattle.{hub_state.specs.State.is_gate_at, hub_store.proofs.{Edits.Changes.gate_test, Rows.{Compare.{begins, past}, Found.filter_rows, SetKinds.taken_from}}}
use Rattle.hub_store.{proofs.Rows.{Sets.gates, Texts.take_gate_is}, specs.Rows.gate_row}
use Rattle.hub_store.proofs.incident_edits.remove_gate.Goals as goal

pub returns-clause-made : goal.returns-clause-made
returns-clause-made g c is s =
    let key = c.args.key.now in
    let params = Int (pos key.incident) ∷ Text (pointer_text key.path) ∷ [] in
    taken_from g.S.Store gates s take_gate_is _ _ _ c.run.ensures.goes
    (λ clean inside. rw (c.params-to_sql.ensures, c.params-to_sql-2.ensures, is) at (c.run.ensures.ran clean inside))
    (begins 0 params) (is_gate_at key) (past 0 (0 ∷ 1 ∷ []) params)
    (filter_rows gate_row (λ r. not (begins 0 params r)) (λ x. not ((is_gate_at key) x))
    (λ x. ap not (gate_test key x)) s.gates)
