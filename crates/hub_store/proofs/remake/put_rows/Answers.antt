use Rattle.{std.proofs.{Common.{◌≡◌, ◌+◌, map, take, drop, rules, arith}, lemmas.Grind.common_steps}, sqlite_rules.proofs.ListLemmas.has_at}
use Rattle.{sqlite.specs.Values.bound_value, hub_store.proofs.Edits.{Inside.goes_then, Steps.{makes_then, fails_then, fails_passed, goes_passed, makes_passed}}}
use Rattle.hub_store.{proofs.Versions.{Migrating.one_more, Remaking.{rest_at, keeps_row, fails_unless}}, specs.inner.Remakes.HoldsAnew}
use Rattle.hub_store.proofs.remake.put_rows.Goals as goal

pub loop-row-preserved : goal.loop-row-preserved
loop-row-preserved g c = record {
  same_reference = search rules;
  goes = goes_then _ _ _ _ _ c.loop-row.invariant.goes c.in_ok-put_row.ensures.goes;
  made = λ step ps puts.
      let rows = c.args.rows.now in
      let at = c.loop-row.row-index in
      let x = c.row-item.result in
      let kept = map step.row (take at rows) in
      makes_then _ _ _ _ (HoldsAnew step kept ps) _ _ _ (c.loop-row.invariant.made step ps puts)
      (keeps_row g.S.Store c.args.text.now x step ps kept (map step.row (take (at + 1) rows)) (puts x (has_at rows at x c.loop-row-test.true c.row-item.is) kept) (one_more step.row rows at x c.loop-row-test.true c.row-item.is) _ _ _ c.in_ok-put_row.ensures.goes c.in_ok-put_row.ensures.ran);
}

pub returns-in_err-put_row-clause-goes : goal.returns-in_err-put_row-clause-goes
returns-in_err-put_row-clause-goes g c = goes_passed c.from_residual.ensures.1 (goes_then _ _ _ _ _ c.loop-row.invariant.goes c.in_err-put_row.ensures.goes)

pub returns-in_err-put_row-clause-made : goal.returns-in_err-put_row-clause-made
returns-in_err-put_row-clause-made g c step ps puts = makes_passed c.from_residual.ensures.1 (goes_then _ _ _ _ _ c.loop-row.invariant.goes c.in_err-put_row.ensures.goes)

pub returns-clause-goes : goal.returns-clause-goes
returns-clause-goes g c = c.loop-row.invariant.goes

pub returns-clause-made : goal.returns-clause-made
returns-clause-made g c step ps puts =
    let all : take c.loop-row.row-index c.args.rows.now ≡ c.args.rows.now = grind (arith, common_steps) in
    rw all at (c.loop-row.invariant.made step ps puts)

pub returns-in_err-put_row-clause-cause : goal.returns-in_err-put_row-clause-cause
returns-in_err-put_row-clause-cause g c step ps puts takes =
    let rows = c.args.rows.now in
    let at = c.loop-row.row-index in
    let x = c.row-item.result in
    fails_passed c.from_residual.ensures.1
    (fails_then (c.loop-row.invariant.made step ps puts) c.in_err-put_row.ensures.goes
    (fails_unless g.S.Store c.args.text.now (map bound_value x) _ _ _ (HoldsAnew step (map step.row (take at rows)) ps) (takes x (take at rows) (drop (at + 1) rows) (rest_at rows at x c.loop-row-test.true c.row-item.is)) c.in_err-put_row.ensures.failed))

pub returns-clause-cause : goal.returns-clause-cause
returns-clause-cause g c step ps puts takes = record { cause = λ clean inside before. tt }
