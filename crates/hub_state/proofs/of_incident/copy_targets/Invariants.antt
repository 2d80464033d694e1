use Rattle.{std.proofs.Common.{◌≡◌, map, take}, hub_state.specs.declared.state.Recipient.Recipient}
use Rattle.hub_state.proofs.of_incident.copy_targets.Given as goal

abbrev pub invariant-loop-recipient : goal.invariant-loop-recipient
invariant-loop-recipient l = l.targets.items ≡ map (λ (r : Recipient). r.target) (take l.recipient-index l.recipients)
