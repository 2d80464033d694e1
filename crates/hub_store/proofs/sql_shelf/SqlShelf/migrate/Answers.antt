use Rattle.{std.proofs.{Common.{◌≡◌, ◌≢◌, Some, rules, sym, subst, ◌∙◌}, lemmas.Result.{IfOk-weaker, IfErr-weaker}}, sqlite.specs.Held.state}
use Rattle.{sqlite.specs.State.HasCleanDisk, hub_store.{proofs.Versions.Renewed.{at_newest, not_begun, is_brought, is_not_brought}, specs.Opening.newest}}
use Rattle.hub_store.specs.{Opening.IsMigrated, Versions.version_of, declared.sql_shelf.OpenFault.TheVariants.WrongVersion}
use Rattle.hub_store.proofs.sql_shelf.SqlShelf.migrate.Goals as goal

pub returns-in-Ok-Some-eq4-clause-opened : goal.returns-in-Ok-Some-eq4-clause-opened
returns-in-Ok-Some-eq4-clause-opened g c =
    subst (λ h. IsMigrated (state g.S.Store c.args.conn) (state g.S.Store h) c.over.result.failures) (sym c.over.ensures.same)
    (at_newest (state g.S.Store c.args.conn) (state g.S.Store c.version.new.conn) c.version.ensures.survives c.version.ensures.kept c.over.result.failures (search rules) (search rules) c.over.ensures.begun)

pub returns-in-Ok-Some-clause-opened : goal.returns-in-Ok-Some-clause-opened
returns-in-Ok-Some-clause-opened g c =
    IfOk-weaker c.from_version.result _ _
    (λ shelf it. is_brought (state g.S.Store c.args.conn) (state g.S.Store c.version.new.conn) c.version.ensures.survives c.version.ensures.kept c.in-Ok-Some.found (sym c.is_older.ensures ∙ c.if-is_older.true) (search rules) (state g.S.Store shelf.conn) shelf.failures it)
    c.from_version.ensures.brought

pub returns-in-Ok-Some-clause-refused : goal.returns-in-Ok-Some-clause-refused
returns-in-Ok-Some-clause-refused g c =
    IfErr-weaker c.from_version.result _ _
    (λ e it. is_not_brought (state g.S.Store c.args.conn) (state g.S.Store c.version.new.conn) c.version.ensures.survives c.version.ensures.kept c.in-Ok-Some.found (sym c.is_older.ensures ∙ c.if-is_older.true) (search rules) (state g.S.Store e.1) e.0 it)
    c.from_version.ensures.refused

pub returns-in-Ok-Some-2-clause-refused : goal.returns-in-Ok-Some-2-clause-refused
returns-in-Ok-Some-2-clause-refused g c =
    let told : HasCleanDisk (state g.S.Store c.version.new.conn) → version_of (state g.S.Store c.args.conn).now ≡ Some c.in-Ok-Some.found = search rules in
    let other : c.in-Ok-Some.found ≢ newest = search rules in
    not_begun (state g.S.Store c.args.conn) (state g.S.Store c.version.new.conn) c.version.ensures.survives c.version.ensures.kept (WrongVersion c.in-Ok-Some.found)
    (λ clean. (told clean, other, sym c.is_older.ensures ∙ c.if-is_older.false)) (λ clean is. absurd cc)
