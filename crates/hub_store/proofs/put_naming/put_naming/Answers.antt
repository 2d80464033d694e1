use Rattle.hub_store.{proofs.{Edits.{Changes.puts_naming, Steps.made_by}, Rows.{Compare.bound_option, Texts.put_naming}}, specs.Means.HoldsBetween}
use Rattle.hub_store.proofs.put_naming.put_naming.Goals as goal

pub returns-clause-edited : goal.returns-clause-edited
returns-clause-edited g c s items incidents more same =
    made_by g.S.Store put_naming _ _ _ (λ db. HoldsBetween items incidents db s) (λ db. HoldsBetween items more db s) _ c.run.ensures.goes
    (λ clean inside. rw (c.params-to_sql.ensures, c.params-to_sql-2.ensures, c.params-to_sql-3.ensures, c.params-to_sql-4.ensures, c.params-to_sql-5.ensures, bound_option, c.as_str.ensures) at (c.run.ensures.ran clean inside))
    (λ mid count h held. puts_naming mid _ c.args.naming.now count h s items incidents more same held)
