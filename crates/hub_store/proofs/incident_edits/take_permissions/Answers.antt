use Rattle.{std.proofs.Common.{pos, [], ◌∷◌, ◌==◌, not, ap, ◌∙◌}, sqlite_value.specs.declared.value.Value.TheVariants.Int, hub_store.proofs.Rows.Compare.begins}
use Rattle.hub_store.proofs.Rows.{Compare.{and-true, equal_numbers, past}, Found.filter_rows, SetKinds.taken_from, Sets.permissions, Texts.take_permissions_is}
use Rattle.hub_store.specs.{Rows.permission_row, inner.Partly.without_gates}
use Rattle.hub_store.proofs.incident_edits.take_permissions.Goals as goal

pub returns-clause-made : goal.returns-clause-made
returns-clause-made g c s =
    let n = c.args.incident in
    let params = Int (pos n) ∷ [] in
    taken_from g.S.Store permissions (without_gates n s) take_permissions_is _ _ _ c.run.ensures.goes
    (λ clean inside. rw c.params-to_sql.ensures at (c.run.ensures.ran clean inside))
    (begins 0 params) (λ x. x.incident == n) (past 0 (0 ∷ []) params)
    (filter_rows permission_row (λ r. not (begins 0 params r)) (λ x. not (x.incident == n))
    (λ x. ap not (and-true _ ∙ equal_numbers x.incident n)) s.permissions)
