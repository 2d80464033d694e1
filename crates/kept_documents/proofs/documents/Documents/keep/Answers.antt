use Rattle.{std.proofs.Common.{◌≤◌, inl, arith}, kept_documents.{proofs.{Going.{kept_put, kept_same, light_put}, Weights.put_fits}, specs.Kept.document_weight}}
use Rattle.kept_documents.proofs.documents.Documents.keep.Goals as goal

pub returns-in-Ok : goal.returns-in-Ok
returns-in-Ok g c =
    kept_put c.args.incident c.args.document.now c.in-Some.kept c.self.inside.kept c.shrink-self-inside.new.kept c.put.new.self c.args.self.now c.in-Ok.ensures.entries c.shrink-self-inside.ensures.among c.self.view_is c.in-Some.ensures.0

pub returns : goal.returns
returns g c = λ e k. inl (kept_same c.self.inside.kept c.shrink-self-inside.new.kept c.put.new.self c.args.self.now c.in-Err.ensures.err c.shrink-self-inside.ensures.among c.self.view_is e k)

pub invariant_of-self-in-Ok : goal.invariant_of-self-in-Ok
invariant_of-self-in-Ok g c =
    let small : document_weight c.in-Some.kept ≤ 1048576 = omega (arith, c.in-Some.ensures.1, c.min.ensures) in (
      put_fits c.args.incident c.in-Some.kept c.shrink-self-inside.new.kept c.put.new.self c.shrink-self-inside.result c.weight-weight.result c.in-Ok.ensures.entries c.shrink-self-inside.ensures.counted c.weight-weight.ensures,
      omega (arith, c.in-Some.ensures.1, c.min.ensures, c.weight-weight.ensures, c.shrink-self-inside.ensures.most),
      light_put c.args.incident c.in-Some.kept c.self.inside.kept c.shrink-self-inside.new.kept c.put.new.self c.in-Ok.ensures.entries c.shrink-self-inside.ensures.among small c.self.invariant.2,
    )
