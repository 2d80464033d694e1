use Rattle.{std.proofs.Common.{sym, ◌∙◌, ap}, iodef_tree.{proofs.Blocks.below-parents, specs.{Paths.located, View.forest}}, marking.proofs.Owned.own-class}
use Rattle.marking.specs.Sited.{own_in}
use Rattle.marking.proofs.label_site.own.Goals as goal

pub returns : goal.returns
returns c =
    let ls = c.args.document.now in
    let kids = forest c.in_ok-object.object.now in
    c.own_of.ensures
    ∙ ap (λ p. own_in p kids) c.tokens.ensures
    ∙ own-class (located ls) c.args.path.now kids (below-parents ls) c.in_ok-object.ensures.block (sym c.in_ok-object.ensures.found)
