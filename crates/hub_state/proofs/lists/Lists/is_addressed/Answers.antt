use Rattle.{std.{proofs.Common.{◌==◌, ◌∙◌, ap}, specs.List.list_any}, circle.proofs.Lookup.any_having, hub_state.specs.State.same_target}
use Rattle.hub_state.specs.declared.state.Recipient.{Recipient}
use Rattle.hub_state.proofs.lists.Lists.is_addressed.Goals as goal

pub returns : goal.returns
returns c = λ d.
    c.is_target_in.ensures
    ∙ (ap (list_any (λ (r : Recipient). same_target r.target c.args.target)) c.recipients_of.ensures
    ∙ any_having (λ (r : Recipient). r.incident == c.args.incident) (λ (r : Recipient). same_target r.target c.args.target) c.args.self.now.recipients.items)
