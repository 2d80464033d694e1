use Rattle.{std.proofs.{Common.{◌∙◌, ap}, lemmas.Result.IfOk-weaker}, iodef_tree.specs.View.forest, policy.specs.Inherited.carried}
use Rattle.redact.{proofs.Searching.listed_all, specs.inner.Tokens.path_of}
use Rattle.redact.proofs.search.shows_some.Goals as goal

pub returns : goal.returns
returns c =
    IfOk-weaker c.among.result _ _ (λ b is. is
    ∙ listed_all c.args.case.now c.args.standing.now (forest c.root.result.now) c.root.ensures.sound c.root.ensures.lines
    (ap (λ ts. carried (path_of ts) c.at_root-above.result) c.new-trail.ensures.items ∙ c.at_root-above.ensures)) c.among.ensures.found
