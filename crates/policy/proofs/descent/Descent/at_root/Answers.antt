use Rattle.{std.proofs.Common.{◌∙◌, [], arith, subst}, iodef_tree.{proofs.{ByPath.has_class-root, Onward.root-stands}, specs.{Laws.StandsAt, Paths.located}}}
use Rattle.{iodef_tree.specs.View.forest, policy.proofs.Steps.at_root-is}
use Rattle.policy.proofs.descent.Descent.at_root.Goals as goal

pub returns : goal.returns
returns c = λ k s at.
    let ls = c.args.document.now in
    let f = forest c.root.result.now in
    record {
      depth = omega arith;
      stands = subst (λ xs. StandsAt (located xs) [] f) c.root.ensures.lines (root-stands f c.root.ensures.sound);
      filled = c.root.ensures.filled;
      said = c.at_root.ensures k s at ∙ at_root-is (located ls) k s (has_class-root ls);
    }
