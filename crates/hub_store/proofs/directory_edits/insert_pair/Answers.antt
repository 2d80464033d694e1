use Rattle.hub_store.proofs.Rows.Compare.{bound_option}
use Rattle.hub_store.proofs.directory_edits.insert_pair.Goals as goal

pub returns-clause-ran : goal.returns-clause-ran
returns-clause-ran g c clean inside = rw (c.params-to_sql.ensures, c.name.ensures, c.params-to_sql-2.ensures, c.params-to_sql-3.ensures, c.params-to_sql-4.ensures, bound_option) at (c.run.ensures.ran clean inside)
