use Rattle.{std.proofs.Common.[], hub_state.specs.State.empty, hub_store.proofs.Edits.Steps.{makes_then, fails_then, fails_passed, goes_passed, makes_passed}}
use Rattle.hub_store.specs.{Layout.tables_2, Parts.HoldsParts}
use Rattle.hub_store.proofs.migrate.move_incidents.Goals as goal

pub returns-in_err-create_incident-clause-goes : goal.returns-in_err-create_incident-clause-goes
returns-in_err-create_incident-clause-goes g c = goes_passed c.from_residual.ensures.1 (c.in_err-create_incident.ensures.made empty []).goes

pub returns-in_err-create_incident-clause-made : goal.returns-in_err-create_incident-clause-made
returns-in_err-create_incident-clause-made g c s items = makes_passed c.from_residual.ensures.1 (c.in_err-create_incident.ensures.made s items).goes

pub returns-clause-goes : goal.returns-clause-goes
returns-clause-goes g c = (makes_then _ _ _ _ (HoldsParts (tables_2 1 [] [] empty)) _ _ _ (c.in_ok-create_incident.ensures.made empty []) (c.put_back.ensures.made empty [])).goes

pub returns-clause-made : goal.returns-clause-made
returns-clause-made g c s items = makes_then _ _ _ _ (HoldsParts (tables_2 1 items [] s)) _ _ _ (c.in_ok-create_incident.ensures.made s items) (c.put_back.ensures.made s items)

pub returns-in_err-create_incident-clause-cause : goal.returns-in_err-create_incident-clause-cause
returns-in_err-create_incident-clause-cause g c s items can = fails_passed c.from_residual.ensures.1 (c.in_err-create_incident.ensures.cause s items)

pub returns-clause-cause : goal.returns-clause-cause
returns-clause-cause g c s items can = fails_then (c.in_ok-create_incident.ensures.made s items) c.put_back.ensures.goes (c.put_back.ensures.cause s items can)
