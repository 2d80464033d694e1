use Rattle.{std.proofs.Common.{◌≡◌, ◌⊎◌, Some, sym, subst}, sqlite.specs.Held.state, hub_state.specs.Edits.with_edits, hub_store.proofs.Edits.Runs.kept_has}
use Rattle.hub_store.{proofs.Shelf.{Left.{left_by_commit, left_by_apply}, Telling.{err_only, ok_only}}, specs.Content.{Has, MayLeave}}
use Rattle.hub_store.proofs.sql_shelf.shelf.SqlShelfShelf.apply.Goals as goal

pub returns-clause-written : goal.returns-clause-written
returns-clause-written g c clean s has =
    let here : Has (state g.S.Store c.self.inside.conn) s = subst (λ h. Has (state g.S.Store h.conn) s) (sym c.self.view_is) has in
    ok_only c.apply-made.result c.count_failure.result _ _ c.count_failure.ensures.value (c.apply-made.ensures.made clean s here) (λ is. is)

pub returns-clause-none : goal.returns-clause-none
returns-clause-none g c =
    err_only c.apply-made.result c.count_failure.result _ _ _ c.count_failure.ensures.given c.apply-made.ensures.none
    (λ kept clean s has.
    kept_has (state g.S.Store c.self.inside.conn) _ s (kept clean) (subst (λ h. Has (state g.S.Store h.conn) s) (sym c.self.view_is) has))

pub returns-clause-durable : goal.returns-clause-durable
returns-clause-durable g c clean s has sound =
    let here : Has (state g.S.Store c.self.inside.conn) s = subst (λ h. Has (state g.S.Store h.conn) s) (sym c.self.view_is) has in
    ok_only c.apply-made.result c.count_failure.result _ _ c.count_failure.ensures.value (c.apply-made.ensures.made clean s here)
    (λ is left. left_by_commit (state g.S.Store c.apply-made.new.conn) _ left is sound
    (λ db up may. g.met.S.Store.settled c.apply-made.new.conn.store db up may) (λ up. g.met.S.Store.stays c.apply-made.new.conn.store up))

pub returns-clause-crash : goal.returns-clause-crash
returns-clause-crash g c clean s has sound left may =
    let here : Has (state g.S.Store c.self.inside.conn) s = subst (λ h. Has (state g.S.Store h.conn) s) (sym c.self.view_is) has in
    subst (λ h. MayLeave (state g.S.Store h.conn) left ⊎ (left ≡ Some (with_edits c.args.edits.now s))) c.self.view_is
    (left_by_apply (state g.S.Store c.self.inside.conn) (state g.S.Store c.apply-made.new.conn) (with_edits c.args.edits.now) s left
    clean here sound c.apply-made.ensures.survives may)
