use Rattle.{std.proofs.Common.{◌≡◌, OnOk, sym, subst, arith, rules}, sqlite_trees.specs.Tree.Trees, sqlite.proofs.Callers.survives_begin}
use Rattle.{sqlite.{proofs.StateLemmas.survives_then, specs.{Held.state, State.{HasCleanDisk, Survives}}}, hub_state.specs.{Edits.with_edits, State.State}}
use Rattle.hub_store.{proofs.{Edits.{Runs.{committed_made, ready}, Steps.{on_ok, survives_on}}, Shelf.Left.trees_hold}, specs.Content.{Has, CommitsState}}
use Rattle.hub_store.specs.Means.{TreesHold, Holds}
use Rattle.hub_store.proofs.apply.apply.Goals as goal

pub returns-clause-made : goal.returns-clause-made
returns-clause-made g c clean s has =
    let begun = c.transaction-tx.ensures.begun in
    let mid = c.make_all.new.tx.conn.now in
    let end = c.commit.new.self.0 in
    let same : end ≡ c.conn-2-1.given.0 = search rules in
    let late : HasCleanDisk (state g.S.Store end) = search rules in
    let before : HasCleanDisk (state g.S.Store mid) = omega (arith, c.commit.ensures.survives.clean) in
    let edits = c.in_ok-make_all.ensures.made s in
    let first : HasCleanDisk (state g.S.Store c.probe.new.tx.conn.now) = omega (arith, edits.goes.survives.clean) in
    let at = ready g.S.Store c.args.conn.now (state g.S.Store c.probe.new.tx.conn.now) s has ((rw begun at c.in_ok-probe.ensures.same) first) in
    let made : Holds (state g.S.Store mid).now (with_edits c.args.edits.now s) = edits.made before at.1 at.0 in
    subst (λ h. OnOk c.commit.result (CommitsState (state g.S.Store h) (with_edits c.args.edits.now s))) same
    (on_ok c.commit.result _ _ (λ ok. committed_made (state g.S.Store mid) (state g.S.Store end) _ made ok.1) (c.commit.ensures.ok late))

pub returns-clause-survives : goal.returns-clause-survives
returns-clause-survives g c =
    let old = c.args.conn.now in
    let begun = c.transaction-tx.ensures.begun in
    let mid = c.make_all.new.tx.conn.now in
    let end = c.commit.new.self.0 in
    let same : end ≡ c.conn-2-1.given.0 = search rules in
    let P = λ (left : Trees). (s : State) → Has (state g.S.Store old) s → TreesHold left (with_edits c.args.edits.now s) in
    let inside = survives_on _ _ _ (rw begun at c.in_ok-probe.ensures.survives) c.make_all.ensures.goes.survives in
    let whole = survives_then (state g.S.Store old) (state g.S.Store mid) (state g.S.Store end) (λ _. ⊥) (λ db. db ≡ (state g.S.Store mid).now.trees) P (λ _ db none. absurd none)
    (λ clean db is s has.
    let before : HasCleanDisk (state g.S.Store mid) = omega (arith, c.commit.ensures.survives.clean) in
    let edits = c.in_ok-make_all.ensures.made s in
    let first : HasCleanDisk (state g.S.Store c.probe.new.tx.conn.now) = omega (arith, edits.goes.survives.clean) in
    let at = ready g.S.Store old (state g.S.Store c.probe.new.tx.conn.now) s has ((rw begun at c.in_ok-probe.ensures.same) first) in
    let made : Holds (state g.S.Store mid).now (with_edits c.args.edits.now s) = edits.made before at.1 at.0 in
    subst (λ t. TreesHold t (with_edits c.args.edits.now s)) (sym is) (trees_hold (state g.S.Store mid).now (with_edits c.args.edits.now s) made))
    (survives_begin g.S.Store old (state g.S.Store mid) _ inside) c.commit.ensures.survives in
    subst (λ h. Survives (state g.S.Store old) (state g.S.Store h) P) same whole
