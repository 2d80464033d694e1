use Rattle.{std.proofs.Common.{map, ◌∙◌, ap, ◌++◌}, iodef_tree.specs.View.forest, sketch.{proofs.Classes.held-all, specs.inner.Held.{shown, holdings_below}}}
use Rattle.sketch.proofs.holding.holdings.Goals as goal

pub returns : goal.returns
returns c =
    c.in_ok-push_below.ensures.held
    ∙ ap (λ xs. map shown xs ++ holdings_below c.args.handlings.now (forest c.root.result.now)) c.new-held.ensures.items
    ∙ held-all (forest c.root.result.now) c.args.document.now c.args.handlings.now c.root.ensures.sound c.root.ensures.lines c.requires
