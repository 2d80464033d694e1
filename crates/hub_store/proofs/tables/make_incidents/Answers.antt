use Rattle.hub_store.proofs.Edits.Steps.{creates_then, creates_not}
use Rattle.hub_store.proofs.tables.make_incidents.Goals as goal

pub returns-in_err-make_pair-clause-made : goal.returns-in_err-make_pair-clause-made
returns-in_err-make_pair-clause-made g c = creates_not c.from_residual.ensures.1 c.in_err-make_pair.ensures.made

pub returns-in_err-make_gate-clause-made : goal.returns-in_err-make_gate-clause-made
returns-in_err-make_gate-clause-made g c = creates_not c.from_residual-in_err-make_gate.ensures.1 (creates_then c.in_ok-make_pair.ensures.made c.in_err-make_gate.ensures.made)

pub returns-in_err-make_recipient-clause-made : goal.returns-in_err-make_recipient-clause-made
returns-in_err-make_recipient-clause-made g c = creates_not c.from_residual-in_err-make_recipient.ensures.1 (creates_then c.in_ok-make_pair.ensures.made (creates_then c.in_ok-make_gate.ensures.made c.in_err-make_recipient.ensures.made))

pub returns-in_err-make_permission-clause-made : goal.returns-in_err-make_permission-clause-made
returns-in_err-make_permission-clause-made g c = creates_not c.from_residual-in_err-make_permission.ensures.1 (creates_then c.in_ok-make_pair.ensures.made (creates_then c.in_ok-make_gate.ensures.made (creates_then c.in_ok-make_recipient.ensures.made c.in_err-make_permission.ensures.made)))

pub returns-clause-made : goal.returns-clause-made
returns-clause-made g c = creates_then c.in_ok-make_pair.ensures.made (creates_then c.in_ok-make_gate.ensures.made (creates_then c.in_ok-make_recipient.ensures.made (creates_then c.in_ok-make_permission.ensures.made c.make_incident.ensures.made)))
