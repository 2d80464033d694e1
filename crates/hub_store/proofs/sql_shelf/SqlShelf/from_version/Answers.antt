use Rattle.{std.proofs.Common.{sym, subst, ◌∙◌}, sqlite.specs.Held.state, hub_store.proofs.{Shelf.Left.left_by_commit, Versions.Renewed.committed_has}}
use Rattle.hub_store.{proofs.Versions.Renewed.{committed_tells, either_fault, store_cause}, specs.Opening.IsBrought}
use Rattle.hub_store.proofs.sql_shelf.SqlShelf.from_version.Goals as goal

pub returns-in-Ok-clause-brought : goal.returns-in-Ok-clause-brought
returns-in-Ok-clause-brought g c =
    subst (λ h. IsBrought c.args.found (state g.S.Store c.args.conn) (state g.S.Store h) c.over.result.failures) (sym c.over.ensures.same)
    (record {
      was_open = c.in-Ok.ensures.asked;
      content = λ clean s has. committed_has (state g.S.Store c.args.conn) (state g.S.Store c.renew.new.conn) c.args.found s has (c.in-Ok.ensures.made clean c.requires.older s has);
      now = λ clean s has. committed_tells (state g.S.Store c.args.conn) (state g.S.Store c.renew.new.conn) c.args.found s has (c.in-Ok.ensures.made clean c.requires.older s has);
      durable = λ clean s has left. left_by_commit (state g.S.Store c.renew.new.conn) s left (c.in-Ok.ensures.made clean c.requires.older s has) has.sound
          (λ db up may. g.met.S.Store.settled c.renew.new.conn.store db up may) (λ up. g.met.S.Store.stays c.renew.new.conn.store up);
      begun = c.over.ensures.begun;
      survives = c.renew.ensures.survives c.requires.older;
    })

pub returns-in-Err-clause-refused : goal.returns-in-Err-clause-refused
returns-in-Err-clause-refused g c = record {
  why = rw c.open_fault.ensures (either_fault c.fault_of.result);
  cause = λ clean is s has taken.
      store_cause c.fault_of.result _ (λ failed. c.in-Err.ensures.cause clean c.requires.older s has taken (λ unheld. let told = c.fault_of.ensures.1 unheld in absurd (let clash = sym told ∙ failed in cc))) (sym c.open_fault.ensures ∙ is);
  kept = c.in-Err.ensures.none;
  survives = c.renew.ensures.survives c.requires.older;
}
