use Rattle.hub_store.proofs.Edits.Steps.{creates_then, creates_not}
use Rattle.hub_store.proofs.tables.make_directory.Goals as goal

pub returns-in_err-make_hub-clause-made : goal.returns-in_err-make_hub-clause-made
returns-in_err-make_hub-clause-made g c = creates_not c.from_residual.ensures.1 c.in_err-make_hub.ensures.made

pub returns-in_err-make_org-clause-made : goal.returns-in_err-make_org-clause-made
returns-in_err-make_org-clause-made g c = creates_not c.from_residual-in_err-make_org.ensures.1 (creates_then c.in_ok-make_hub.ensures.made c.in_err-make_org.ensures.made)

pub returns-in_err-make_person-clause-made : goal.returns-in_err-make_person-clause-made
returns-in_err-make_person-clause-made g c = creates_not c.from_residual-in_err-make_person.ensures.1 (creates_then c.in_ok-make_hub.ensures.made (creates_then c.in_ok-make_org.ensures.made c.in_err-make_person.ensures.made))

pub returns-in_err-make_community-clause-made : goal.returns-in_err-make_community-clause-made
returns-in_err-make_community-clause-made g c = creates_not c.from_residual-in_err-make_community.ensures.1 (creates_then c.in_ok-make_hub.ensures.made (creates_then c.in_ok-make_org.ensures.made (creates_then c.in_ok-make_person.ensures.made c.in_err-make_community.ensures.made)))

pub returns-clause-made : goal.returns-clause-made
returns-clause-made g c = creates_then c.in_ok-make_hub.ensures.made (creates_then c.in_ok-make_org.ensures.made (creates_then c.in_ok-make_person.ensures.made (creates_then c.in_ok-make_community.ensures.made c.make_grp.ensures.made)))
