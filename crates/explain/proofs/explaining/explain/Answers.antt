use Rattle.{std.proofs.Common.{◌∙◌, refl, ap}, iodef_tree.specs.Paths.located, marking.specs.Label.text_of, policy.specs.Verdict.handling_for}
use Rattle.explain.proofs.Parts.{explained-decided, explains-undecided, explains-unsited}
use Rattle.explain.proofs.explaining.explain.Goals as goal

pub returns-in_err-verdict : goal.returns-in_err-verdict
returns-in_err-verdict c =
    explains-undecided c.from_residual.result c.in_err-verdict.field-0.0 (located c.args.document.now) c.args.case.now c.args.standing.now c.args.path.now
    c.from_residual.ensures.1 c.in_err-verdict.ensures

pub returns-in_err-sited : goal.returns-in_err-sited
returns-in_err-sited c =
    explains-unsited c.from_residual-in_err-sited.result c.in_err-sited.field-0.0 (located c.args.document.now) c.args.case.now c.args.standing.now c.args.path.now
    c.from_residual-in_err-sited.ensures.1 c.in_err-sited.ensures

pub returns : goal.returns
returns c =
    explained-decided (located c.args.document.now) c.args.case.now c.args.standing.now c.args.path.now _ c.in_ok-verdict.ensures
    (record {
      path = c.in_ok-copy.ensures.cases;
      community = refl;
      gates = c.in_ok-gates.ensures;
      site = c.in_ok-sited.ensures.1;
      label = c.in_ok-text.ensures ∙ ap text_of c.in_ok-sited.ensures.2;
      handling = c.handling.ensures ∙ ap (handling_for c.args.standing.now) c.in_ok-sited.ensures.2;
      clearance = c.clearance.ensures;
      permissions = c.in_ok-permissions.ensures;
    })
