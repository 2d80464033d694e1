use Rattle.{std.proofs.Common.{sym, subst}, redact.specs.Sifted.Knows}
use Rattle.redact.proofs.rows.RowPass.new.Goals as goal

pub invariant_of-result : goal.invariant_of-result
invariant_of-result c = λ unfaulted.
    let p = c.new-progress.result in
    subst (λ ls. Knows c.args.case c.args.standing ls p.shape p.marks p.sieve) (sym c.none.ensures) (c.new-progress.ensures c.args.case c.args.standing)
