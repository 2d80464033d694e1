use Rattle.{std.proofs.Common.{◌≡◌, drop}, redaction.specs.Described.{has_alike, same_permission}}
use Rattle.redaction.proofs.permissions.has_alike.Given as goal

abbrev pub invariant-loop-permission : goal.invariant-loop-permission
invariant-loop-permission l = record {
  left : l.rest ≡ drop l.permission-index l.permissions;
  same : has_alike same_permission (drop l.permission-index l.permissions) ≡ has_alike same_permission l.permissions;
}
