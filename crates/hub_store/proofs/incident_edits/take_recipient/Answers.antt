use Rattle.{std.proofs.Common.{[], ◌∷◌, not, ap}, hub_state.specs.State.is_recipient_being, hub_store.proofs.Edits.Changes.recipient_test}
use Rattle.hub_store.proofs.Rows.{Compare.{begins, past}, Found.filter_rows, SetKinds.taken_from, Sets.recipients, Texts.take_recipient_is}
use Rattle.hub_store.specs.Rows.{recipient_row}
use Rattle.hub_store.proofs.incident_edits.take_recipient.Goals as goal

pub returns-clause-made : goal.returns-clause-made
returns-clause-made g c s =
    let it = c.args.recipient.now in
    let params = recipient_row it in
    taken_from g.S.Store recipients s take_recipient_is _ _ _ c.run.ensures.goes
    (λ clean inside. rw (
      c.params-to_sql.ensures,
      c.params-to_sql-2.ensures,
      c.params-to_sql-3.ensures,
      c.target_key-kind.ensures,
    ) at (c.run.ensures.ran clean inside))
    (begins 0 params) (is_recipient_being it.incident it.target) (past 0 (0 ∷ 1 ∷ 2 ∷ []) params)
    (filter_rows recipient_row (λ r. not (begins 0 params r))
    (λ x. not ((is_recipient_being it.incident it.target) x))
    (λ x. ap not (recipient_test it.incident it.target x)) s.recipients)
