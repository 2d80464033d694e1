use Rattle.{std.{proofs.Common.{◌==◌, filter, ◌∙◌, ap}, specs.List.slice_get}, circle.proofs.Lookup.first_having}
use Rattle.hub_state.specs.declared.state.Incident.{Incident}
use Rattle.hub_state.proofs.lists.Lists.incident.Goals as goal

pub returns : goal.returns
returns c = c.first.ensures.value ∙ (ap (λ l. slice_get l 0) c.rows_of.ensures ∙ (ap (λ l. slice_get (filter (λ (i : Incident). i.naming.number == c.args.number) l) 0) c.deref.ensures.value ∙ first_having (λ (i : Incident). i.naming.number == c.args.number) c.args.self.now.incidents.items))
