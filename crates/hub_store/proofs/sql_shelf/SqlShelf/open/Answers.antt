use Rattle.{std.proofs.Common.{rules, sym, subst}, sqlite.specs.Held.state, hub_store.{proofs.Shelf.Opened.{is_opened, is_refused}, specs.Opening.IsOpened}}
use Rattle.hub_store.proofs.sql_shelf.SqlShelf.open.Goals as goal

pub returns-in-Ok-Some-eq4-clause-opened : goal.returns-in-Ok-Some-eq4-clause-opened
returns-in-Ok-Some-eq4-clause-opened g c =
    subst (λ h. IsOpened (state g.S.Store c.args.conn) (state g.S.Store h) c.over.result.failures) (sym c.over.ensures.same)
    (is_opened (state g.S.Store c.args.conn) (state g.S.Store c.version.new.conn) c.version.ensures.survives c.version.ensures.kept c.over.result.failures (search rules) c.over.ensures.begun)

pub returns-in-Ok-Some-clause-refused : goal.returns-in-Ok-Some-clause-refused
returns-in-Ok-Some-clause-refused g c = is_refused (state g.S.Store c.args.conn) (state g.S.Store c.version.new.conn) c.version.ensures.survives c.version.ensures.kept _ (search rules) (search rules)

pub returns-in-Ok-None-clause-refused : goal.returns-in-Ok-None-clause-refused
returns-in-Ok-None-clause-refused g c = is_refused (state g.S.Store c.args.conn) (state g.S.Store c.version.new.conn) c.version.ensures.survives c.version.ensures.kept _ (search rules) (search rules)

pub returns-in-Err-NoMemory-clause-refused : goal.returns-in-Err-NoMemory-clause-refused
returns-in-Err-NoMemory-clause-refused g c = is_refused (state g.S.Store c.args.conn) (state g.S.Store c.version.new.conn) c.version.ensures.survives c.version.ensures.kept _ (search rules) (search rules)

pub returns-in-Err-Failed-clause-refused : goal.returns-in-Err-Failed-clause-refused
returns-in-Err-Failed-clause-refused g c = is_refused (state g.S.Store c.args.conn) (state g.S.Store c.version.new.conn) c.version.ensures.survives c.version.ensures.kept _ (search rules) (search rules)
