use Rattle.{std.proofs.{Common.{◌≡◌, map, length, sym, ◌∙◌, ap, subst}, lemmas.List.length-replicate}, sketch.proofs.{Numbers.length-put_all, Sets.put-held}}
use Rattle.sketch.{proofs.Sets.size-for, specs.{Runs.runs, Sketched.{text_bytes, IsSizeFor}, inner.Held.shown}}
use Rattle.sketch.proofs.sketch.run_bits.Goals as goal

pub loop-holding-preserved : goal.loop-holding-preserved
loop-holding-preserved c = record {
  put = put-held c.args.held.now c.loop-holding.holding-index _ c.loop-holding.bits c.as_bytes.result.now c.loop-holding-test.true c.as_bytes.ensures.value c.put_runs.ensures c.loop-holding.invariant.put;
  size = ap length c.put_runs.ensures ∙ length-put_all c.loop-holding.bits (runs 0 c.as_bytes.result.now) ∙ c.loop-holding.invariant.size;
}

pub returns-clause-size : goal.returns-clause-size
returns-clause-size c =
    let total = text_bytes (map shown c.args.held.now) in
    let size : length c.loop-holding.bits ≡ c.size_for.result = c.loop-holding.invariant.size ∙ ap length (c.in_ok-bits.ensures) ∙ length-replicate c.size_for.result 0 in
    subst (IsSizeFor total) (sym size) (size-for total c.size_for.result (subst (λ b. IsSizeFor b c.size_for.result) c.text_bytes.ensures c.size_for.ensures))
