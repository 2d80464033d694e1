use Rattle.{std.proofs.Common.{[], Ok}, sqlite.specs.Held.state, hub_store.proofs.Edits.Steps.{makes_then, fails_then, fails_passed}}
use Rattle.hub_store.{proofs.Versions.Remaking.{leaves_by, fails_with}, specs.{Layout.apart_from, Parts.HoldsParts, inner.{Makes.Makes, Remakes.HoldsAnew}}}
use Rattle.hub_store.proofs.remake.make_anew.Goals as goal

pub returns-in_err-run-clause-cause : goal.returns-in_err-run-clause-cause
returns-in_err-run-clause-cause g c step ps makes =
    fails_passed {T = Unit {0}} {P = HoldsParts ps} c.from_residual.ensures.1 (fails_with g.S.Store c.args.texts.now.drop.now [] _ _ _ (HoldsParts ps) makes.undropped c.in_err-run.ensures.failed)

pub returns-clause-made : goal.returns-clause-made
returns-clause-made g c step ps makes =
    let others = HoldsParts (apart_from step.table.name ps) in
    makes_then {T = Unit {0}} _ _ _ _ others _ tt _
    (leaves_by g.S.Store c.args.texts.now.drop.now [] c.args.tx.now.conn.now c.run.new.tx.conn.now {T = Unit {0}} (Ok tt) (HoldsParts ps) others makes.drops c.in_ok-run.ensures.goes c.in_ok-run.ensures.ran)
    (leaves_by g.S.Store c.args.texts.now.create.now [] _ _ _ others (HoldsAnew step [] ps) makes.creates c.run-2.ensures.goes c.run-2.ensures.ran)

pub returns-clause-cause : goal.returns-clause-cause
returns-clause-cause g c step ps makes =
    let others = HoldsParts (apart_from step.table.name ps) in
    let one : Makes {T = Unit {0}} (state g.S.Store c.args.tx.now.conn.now) (state g.S.Store c.run.new.tx.conn.now) (HoldsParts ps) others (Ok tt) =
    leaves_by g.S.Store c.args.texts.now.drop.now [] c.args.tx.now.conn.now c.run.new.tx.conn.now {T = Unit {0}} (Ok tt) (HoldsParts ps) others makes.drops c.in_ok-run.ensures.goes c.in_ok-run.ensures.ran in
    fails_then one c.run-2.ensures.goes (fails_with g.S.Store c.args.texts.now.create.now [] _ _ _ others makes.uncreated c.run-2.ensures.failed)
