use Rattle.hub_store.{proofs.{Edits.Steps.{made_by, fails_by}, Rows.Texts.put_naming_2, Versions.Migrating.{moves_naming, naming_fails}}, specs.Layout.tables_2}
use Rattle.hub_store.specs.Parts.{HoldsParts}
use Rattle.hub_store.proofs.put_naming.put_naming_2.Goals as goal

pub returns-clause-moved : goal.returns-clause-moved
returns-clause-moved g c s items incidents more same =
    made_by g.S.Store put_naming_2 _ _ _ (HoldsParts (tables_2 1 items incidents s)) (HoldsParts (tables_2 1 items more s)) _ c.run.ensures.goes (λ clean inside. rw (c.params-to_sql.ensures, c.params-to_sql-2.ensures, c.params-to_sql-3.ensures, c.params-to_sql-4.ensures, c.as_str.ensures) at (c.run.ensures.ran clean inside)) (λ mid count h held. moves_naming mid _ c.args.naming.now s items incidents more same count h held)

pub returns-clause-cause : goal.returns-clause-cause
returns-clause-cause g c s items incidents can =
    fails_by g.S.Store put_naming_2 _ _ _ (HoldsParts (tables_2 1 items incidents s)) _ (λ clean inside. rw (c.params-to_sql.ensures, c.params-to_sql-2.ensures, c.params-to_sql-3.ensures, c.params-to_sql-4.ensures, c.as_str.ensures) at (c.run.ensures.failed clean inside))
    (λ mid e h held other. naming_fails c.args.naming.now s items incidents can mid _ e h held other)
