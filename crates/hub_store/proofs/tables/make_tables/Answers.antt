use Rattle.hub_store.proofs.Edits.Steps.{creates_then, creates_not}
use Rattle.hub_store.proofs.tables.make_tables.Goals as goal

pub returns-in_err-make_directory-clause-made : goal.returns-in_err-make_directory-clause-made
returns-in_err-make_directory-clause-made g c = creates_not c.from_residual.ensures.1 c.in_err-make_directory.ensures.made

pub returns-clause-made : goal.returns-clause-made
returns-clause-made g c = creates_then c.in_ok-make_directory.ensures.made c.make_incidents.ensures.made
