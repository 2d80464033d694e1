use Rattle.{std.proofs.Common.{pos, [], ◌∷◌, not, ap}, sqlite_value.specs.declared.value.Value.TheVariants.{Int, Text}, iodef_tree.specs.Pointer.pointer_text}
use Rattle.{hub_state.specs.State.{is_permission_being, grantee_key}, hub_store.proofs.{Edits.Changes.permission_test, Rows.Compare.{begins, past}}}
use Rattle.hub_store.{proofs.Rows.{Found.filter_rows, SetKinds.taken_from, Sets.permissions, Texts.take_permission_is}, specs.Rows.permission_row}
use Rattle.hub_store.proofs.incident_edits.remove_permission.Goals as goal

pub returns-clause-made : goal.returns-clause-made
returns-clause-made g c is s =
    let key = c.args.key.now in
    let kind = (grantee_key key.grantee).0 in
    let target = (grantee_key key.grantee).1 in
    let params = Int (pos key.incident) ∷ Text (pointer_text key.path) ∷ Int (pos kind) ∷ Int (pos target) ∷ [] in
    taken_from g.S.Store permissions s take_permission_is _ _ _ c.run.ensures.goes
    (λ clean inside. rw (
      c.params-to_sql.ensures,
      c.params-to_sql-2.ensures,
      c.params-to_sql-3.ensures,
      c.params-to_sql-4.ensures,
      c.grantee_key-kind.ensures,
      is,
    ) at (c.run.ensures.ran clean inside))
    (begins 0 params) (is_permission_being key) (past 0 (0 ∷ 1 ∷ 2 ∷ 3 ∷ []) params)
    (filter_rows permission_row (λ r. not (begins 0 params r)) (λ x. not ((is_permission_being key) x))
    (λ x. ap not (permission_test key x)) s.permissions)
