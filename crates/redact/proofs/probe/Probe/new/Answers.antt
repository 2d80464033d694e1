use Rattle.{std.proofs.{Common.{false, sym, subst}, lemmas.Bool.false≢true}, redact.specs.inner.Seeking.IsKnown}
use Rattle.redact.proofs.probe.Probe.new.Goals as goal

pub invariant_of-result : goal.invariant_of-result
invariant_of-result c = (
  λ met. absurd (false≢true met),
  λ unfaulted. subst (λ ls. IsKnown c.args.want c.args.case c.args.standing ls false c.new-seeker.result) (sym c.none.ensures) (c.new-seeker.ensures c.args.want),
)
