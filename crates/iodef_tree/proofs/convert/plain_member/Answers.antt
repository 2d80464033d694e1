use Rattle.{std.proofs.Common.{false, sym, ap, ◌∙◌, subst}, serde_json.specs.View.view, iodef_tree.proofs.Filled.{filled-One, filled-Value}}
use Rattle.iodef_tree.{proofs.{ValueTexts.{value-bodies, written-text}, Views.{body-Value, bodies-One}}, specs.Tree.{one, says, value}}
use Rattle.iodef_tree.specs.{declared.object.Item.TheVariants.Value, inner.FitValues.{AreBodiesOrdered, HaveTexts}}
use Rattle.iodef_tree.proofs.convert.plain_member.Goals as goal

pub returns : goal.returns
returns c =
    let made = c.in_ok-written.field-0 in
    let seen = bodies-One (Value made) ∙ ap one (body-Value made) in
    record {
      made = seen ∙ ap (λ t. one (says (value t))) c.in_ok-written.ensures.text ∙ sym (value-bodies (view c.args.value) c.requires.plain);
      ordered = subst AreBodiesOrdered (sym seen) tt;
      texts = subst HaveTexts (sym seen) (written-text false c.args.value made c.requires.plain c.in_ok-written.ensures.text c.in_ok-written.ensures.reads_back);
      filled = filled-One (Value made) ∙ filled-Value made;
    }
