use Rattle.{std.proofs.Common.{◌≡◌, map, take}, hub_state.specs.declared.state.Permission.Permission}
use Rattle.hub_state.proofs.of_incident.copy_permissions.Given as goal

abbrev pub invariant-loop-permission : goal.invariant-loop-permission
invariant-loop-permission l = l.copies.items ≡ map (λ (x : Permission). x.permission) (take l.permission-index l.permissions)
