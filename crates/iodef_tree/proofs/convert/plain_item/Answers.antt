use Rattle.{std.proofs.Common.{true, sym, ap, ◌∙◌, subst}, serde_json.specs.View.view, iodef_tree.proofs.{Filled.filled-Value, ValueTexts.value-body}}
use Rattle.iodef_tree.{proofs.{ValueTexts.written-text, Views.body-Value}, specs.{Tree.{says, value}, inner.FitValues.{IsBodyOrdered, HasBodyTexts}}}
use Rattle.iodef_tree.proofs.convert.plain_item.Goals as goal

pub returns : goal.returns
returns c =
    let made = c.in_ok-written.field-0 in
    record {
      made = body-Value made ∙ ap (λ t. says (value t)) c.in_ok-written.ensures.text ∙ sym (value-body (view c.args.value) c.requires.plain);
      ordered = subst IsBodyOrdered (sym (body-Value made)) tt;
      texts = subst (HasBodyTexts true) (sym (body-Value made)) (written-text true c.args.value made c.requires.plain c.in_ok-written.ensures.text c.in_ok-written.ensures.reads_back);
      filled = filled-Value made;
    }
