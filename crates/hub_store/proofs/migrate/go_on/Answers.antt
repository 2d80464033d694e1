use Rattle.{std.proofs.Common.{◌≡◌, arith, rules}, hub_store.proofs.Edits.{Inside.goes_then, Steps.{makes_then, fails_then, fails_passed, goes_passed}}}
use Rattle.hub_store.{proofs.Edits.Steps.makes_passed, specs.{Layout.newest, Means.HoldsAs}}
use Rattle.hub_store.proofs.migrate.go_on.Goals as goal

pub loop-from-preserved : goal.loop-from-preserved
loop-from-preserved g c = record {
  same_reference = search rules;
  above = omega (arith, c.loop-from.invariant.above);
  goes = goes_then _ _ _ _ _ c.loop-from.invariant.goes c.in_ok-go_next.ensures.goes;
  made = λ low s. makes_then _ _ _ _ (λ db. HoldsAs c.loop-from.from db s) _ _ _ (c.loop-from.invariant.made low s) (c.in_ok-go_next.ensures.made (omega (arith, low, c.loop-from.invariant.above)) (omega arith) s);
}

pub returns-in_err-go_next-clause-goes : goal.returns-in_err-go_next-clause-goes
returns-in_err-go_next-clause-goes g c = goes_passed c.from_residual.ensures.1 (goes_then _ _ _ _ _ c.loop-from.invariant.goes c.in_err-go_next.ensures.goes)

pub returns-in_err-go_next-clause-made : goal.returns-in_err-go_next-clause-made
returns-in_err-go_next-clause-made g c low high s = makes_passed c.from_residual.ensures.1 (goes_then _ _ _ _ _ c.loop-from.invariant.goes c.in_err-go_next.ensures.goes)

pub returns-in_err-go_next-clause-cause : goal.returns-in_err-go_next-clause-cause
returns-in_err-go_next-clause-cause g c low high s sound taken =
    fails_passed c.from_residual.ensures.1
    (fails_then (c.loop-from.invariant.made low s) c.in_err-go_next.ensures.goes (c.in_err-go_next.ensures.cause (omega (arith, low, c.loop-from.invariant.above)) (omega arith) s sound taken))

pub returns-clause-goes : goal.returns-clause-goes
returns-clause-goes g c = c.loop-from.invariant.goes

pub returns-clause-made : goal.returns-clause-made
returns-clause-made g c low high s =
    let last : c.loop-from.from ≡ newest = omega (arith, high, c.loop-from.invariant.above) in
    rw last at (c.loop-from.invariant.made low s)

pub returns-clause-cause : goal.returns-clause-cause
returns-clause-cause g c low high s sound taken = record { cause = λ clean inside before. tt }
