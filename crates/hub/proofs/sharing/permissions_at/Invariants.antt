use Rattle.{std.proofs.Common.{◌≡◌, map}, hub.specs.Told.permission_at}
use Rattle.hub.proofs.sharing.permissions_at.Given as goal

abbrev pub invariant-loop-permission : goal.invariant-loop-permission
invariant-loop-permission l = l.judged.items ≡ map (permission_at l.now) l.yielded
