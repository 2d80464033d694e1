use Rattle.{std.proofs.Common.{◌≡◌, ◌≤◌, ◌-◌, Option, None, IfSome, sym, subst, ap, arith}, iodef_tree.specs.{Paths.located, View.forest}}
use Rattle.{marking.specs.Marks.first_bad_marking, hub_state.specs.Documents.Lines, kept_documents.proofs.Trees.document_weight-lines}
use Rattle.kept_documents.{proofs.kept.Kept.within.Goals.{in-Err, in-Ok+in-Err-copy, in-Ok+in-Ok-copy}, specs.Kept.document_weight}
use Rattle.kept_documents.proofs.kept.Kept.within.Goals as goal

pub invariant_of-result : goal.invariant_of-result
invariant_of-result c =
    let e = document_weight-lines (forest c.root.result.now) 1 in
    let d = ap document_weight c.root.ensures.lines in
    let same = ap document_weight c.in-Ok-copy.ensures in
    let weight : c.args.room - c.in_ok-left.left ≡ document_weight c.in-Ok-copy.document = omega (arith, e, d, same, c.in_ok-left.ensures.some, c.in_ok-for_lines.ensures) in
    (weight, subst (λ (ls : Lines). first_bad_marking (located ls) ≡ None) (sym c.in-Ok-copy.ensures) c.in-Ok.ensures)

pub returns : goal.returns
returns c =
    let e = document_weight-lines (forest c.root.result.now) 1 in
    let d = ap document_weight c.root.ensures.lines in
    let R : Option Lines → Type 0 = λ r. IfSome r (λ k. (k ≡ c.args.document.now) × (document_weight k ≤ c.args.room)) in
    elim c.match-check.branch [
      | in-Err w ↦ subst R (sym w.result-is) tt
      | in-Ok+in-Err-copy w ↦ subst R (sym w.result-is) tt
      | in-Ok+in-Ok-copy w ↦
          let same = ap document_weight w.in-Ok-copy.ensures in
          subst R (sym w.result-is) (w.in-Ok-copy.ensures, omega (arith, e, d, same, c.in_ok-left.ensures.some, c.in_ok-for_lines.ensures))
    ]
