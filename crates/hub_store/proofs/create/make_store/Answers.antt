use Rattle.{std.proofs.Common.{◌≡◌, OnOk, sym, subst, arith, rules, refl}, sqlite_trees.specs.Tree.Trees, sqlite.proofs.Callers.survives_begin}
use Rattle.{sqlite.{proofs.StateLemmas.survives_then, specs.{Held.state, State.{HasCleanDisk, Survives}}}, hub_state.specs.State.empty}
use Rattle.hub_store.{proofs.{Edits.{Runs.committed_made, Steps.on_ok}, Rows.Empty.no_tables, Shelf.Left.trees_hold}, specs.Content.CommitsState}
use Rattle.hub_store.specs.Means.{TreesHold, Holds}
use Rattle.hub_store.proofs.create.make_store.Goals as goal

pub returns-clause-made : goal.returns-clause-made
returns-clause-made g c clean blank =
    let begun = c.transaction-tx.ensures.begun in
    let mid = c.make_in.new.tx.conn.now in
    let end = c.commit.new.self.0 in
    let same : end ≡ c.conn-2-1.given.0 = search rules in
    let late : HasCleanDisk (state g.S.Store end) = search rules in
    let before : HasCleanDisk (state g.S.Store mid) = omega (arith, c.commit.ensures.survives.clean) in
    let made : Holds (state g.S.Store mid).now empty = (rw begun at c.in_ok-make_in.ensures.made).makes.made before refl (no_tables _ blank) in
    subst (λ h. OnOk c.commit.result (CommitsState (state g.S.Store h) empty)) same
    (on_ok c.commit.result _ _ (λ ok. committed_made (state g.S.Store mid) (state g.S.Store end) _ made ok.1) (c.commit.ensures.ok late))

pub returns-clause-survives : goal.returns-clause-survives
returns-clause-survives g c blank =
    let old = c.args.conn.now in
    let begun = c.transaction-tx.ensures.begun in
    let mid = c.make_in.new.tx.conn.now in
    let end = c.commit.new.self.0 in
    let same : end ≡ c.conn-2-1.given.0 = search rules in
    let P = λ (left : Trees). TreesHold left empty in
    let inside = (rw begun at c.in_ok-make_in.ensures.made).makes in
    let whole = survives_then (state g.S.Store old) (state g.S.Store mid) (state g.S.Store end) (λ _. ⊥) (λ db. db ≡ (state g.S.Store mid).now.trees) P (λ _ db none. absurd none)
    (λ clean db is.
    let before : HasCleanDisk (state g.S.Store mid) = omega (arith, c.commit.ensures.survives.clean) in
    let made : Holds (state g.S.Store mid).now empty = inside.made before refl (no_tables _ blank) in
    subst P (sym is) (trees_hold (state g.S.Store mid).now empty made))
    (survives_begin g.S.Store old (state g.S.Store mid) _ inside.goes.survives) c.commit.ensures.survives in
    subst (λ h. Survives (state g.S.Store old) (state g.S.Store h) P) same whole
