use Rattle.{std.proofs.Common.sym, hub_store.proofs.Versions.OldTexts.shows_first}
use Rattle.hub_store.proofs.old_rows.first_incident.Goals as goal

pub returns-in_ok-incident_of-in-Some-clause-value : goal.returns-in_ok-incident_of-in-Some-clause-value
returns-in_ok-incident_of-in-Some-clause-value c = shows_first c.args.rows.now c.in-Some.row.now _ (sym c.in-Some.ensures.value) c.in_ok-incident_of-in-Some.ensures.value
