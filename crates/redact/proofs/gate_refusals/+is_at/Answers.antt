use Rattle.{std.proofs.{Common.{◌≡◌, [], sym, ◌∙◌, ap}, lemmas.{List.nil_from_length, Option.MatchOption-at_none}}, iodef_tree.specs.Text.same_path}
use Rattle.redact.{proofs.Ends.root-same, specs.Sifted.way}
use Rattle.redact.proofs.gate_refusals.+is_at.Goals as goal

pub returns-in-None : goal.returns-in-None
returns-in-None t c =
    let none : c.args.steps.now ≡ [] = nil_from_length c.args.steps.now (MatchOption-at_none _ _ c.in-None.is c.split_last.ensures.cases) in
    c.is_root.ensures ∙ root-same c.args.path.now ∙ ap (λ ss. same_path c.args.path.now (way ss)) (sym none)
