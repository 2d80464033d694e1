use Rattle.{std.proofs.Common.{[], Ok, refl, rules, sym, subst, arith}, sqlite.specs.Held.state, hub_store.proofs.Edits.{Inside.goes_then, Steps.clean_before}}
use Rattle.hub_store.{proofs.{Edits.Steps.{makes_start, fails_then, fails_passed}, Versions.MovedOn.{moved_none, moved_all}}, specs.inner.Beside.HoldsBeside}
use Rattle.hub_store.specs.inner.{Makes.Makes, Moving.{HoldsMoved, HoldsNext}}
use Rattle.hub_store.proofs.migrate.move_documents.Goals as goal

pub loop-init : goal.loop-init
loop-init g c =
    let old = state g.S.Store c.args.tx.now.conn.now in
    record {
      same_reference = refl;
      goes = (makes_start old (λ _. Unit {0}) tt).goes;
      moved = λ clean inside s has before. subst (λ kept. HoldsMoved 0 kept old.now s) (sym c.new-kept.ensures.items) (moved_none old.now s has before);
      rises = λ clean inside s has before. (omega arith, omega arith);
    }

pub returns-in-None-clause-moved : goal.returns-in-None-clause-moved
returns-in-None-clause-moved g c clean inside s has before =
    let new = state g.S.Store c.move_next.new.tx.conn.now in
    let next = c.in_ok-move_next.ensures in
    let early = clean_before _ new next.goes.survives clean in
    let held = next.moved clean (c.loop.invariant.goes.inside early inside).0 s has (c.loop.invariant.moved early inside s has before) in
    moved_all new.now c.loop.number c.move_next.new.kept.items s (subst (λ found. HoldsNext c.loop.number c.move_next.new.kept.items found new.now s) c.in-None.is held)

pub loop-preserved : goal.loop-preserved
loop-preserved g c =
    let new = state g.S.Store c.move_next.new.tx.conn.now in
    let next = c.in_ok-move_next.ensures in
    let whole = goes_then _ _ _ _ _ c.loop.invariant.goes next.goes in
    record {
      same_reference = search rules;
      goes = record { kept = whole.kept; inside = whole.inside; survives = whole.survives };
      moved = λ clean inside s has before.
          let early = clean_before _ new next.goes.survives clean in
          let held = next.moved clean (c.loop.invariant.goes.inside early inside).0 s has (c.loop.invariant.moved early inside s has before) in
          (subst (λ found. HoldsNext c.loop.number c.move_next.new.kept.items found new.now s) c.in-Some.is held).0;
      rises = λ clean inside s has before.
          let early = clean_before _ new next.goes.survives clean in
          let held = next.moved clean (c.loop.invariant.goes.inside early inside).0 s has (c.loop.invariant.moved early inside s has before) in
          let low = c.loop.invariant.rises early inside s has before in
          let above = subst (λ found. HoldsNext c.loop.number c.move_next.new.kept.items found new.now s) c.in-Some.is held in
          (omega (arith, low.0, above.1), above.2);
    }

pub returns-in_err-move_next-clause-cause : goal.returns-in_err-move_next-clause-cause
returns-in_err-move_next-clause-cause g c s has taken =
    let before = c.loop.invariant in
    let next = c.in_err-move_next.ensures in
    let one : Makes {T = Unit {0}} (state g.S.Store c.args.tx.now.conn.now) (state g.S.Store c.loop.tx.conn.now) (HoldsBeside [] s) (λ db. HoldsMoved c.loop.number c.loop.kept.items db s) (Ok tt) = record {
      goes = before.goes;
      made = λ clean inside empty. before.moved clean inside s has empty;
    } in
    fails_passed c.from_residual.ensures.1 (fails_then one next.goes (next.cause s has taken))

pub returns-clause-cause : goal.returns-clause-cause
returns-clause-cause g c s has taken = record { cause = λ clean inside before. let low = c.loop.invariant.rises clean inside s has before in absurd (omega (arith, low.0, low.1)) }
