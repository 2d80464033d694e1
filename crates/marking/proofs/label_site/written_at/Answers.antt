use Rattle.{std.proofs.Common.{sym, ◌∙◌}, iodef_tree.{proofs.Blocks.below-parents, specs.{Paths.located, View.forest}}, marking.proofs.Written.written-block}
use Rattle.marking.proofs.label_site.written_at.Goals as goal

pub returns : goal.returns
returns c =
    let ls = c.args.document.now in
    let block = c.in_ok-object.ensures.block in
    c.written.ensures
    ∙ sym (written-block (located ls) block.0 c.args.path.now (forest c.in_ok-object.object.now) (below-parents ls) block.1
    (sym c.has_class.ensures ∙ c.if-not-has_class.false))
