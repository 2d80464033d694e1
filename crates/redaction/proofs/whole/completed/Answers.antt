use Rattle.{std.proofs.Common.{◌≡◌, IfOk, subst, ap, ap₂, ◌∙◌, option_map, codes}, redaction.specs.Whole.{named, put_missing, with_id, with_purpose}}
use Rattle.redaction.proofs.whole.completed.Goals as goal

pub returns : goal.returns
returns c =
    let one = c.in_ok-lines.ensures ∙ ap (λ g. put_missing 2 (codes "Contact") g c.args.lines.items) c.in_ok-contact.ensures in
    let two = c.in_ok-lines-2.ensures ∙ ap₂ (λ g ls. put_missing 2 (codes "GenerationTime") g ls) c.in_ok-time.ensures one in
    let three = c.in_ok-lines-3.ensures ∙ ap (with_id (option_map named c.args.id)) two in
    subst (λ ls. IfOk c.with_purpose.result (λ v. v.items ≡ with_purpose ls)) three c.with_purpose.ensures
