use Rattle.{std.{proofs.Common.{◌≡◌, drop, not}, specs.List.position_from}, iodef_tree.specs.Paths.located, redaction.specs.Asked.permission_stands}
use Rattle.redaction.proofs.locating.stray_permission.Given as goal

abbrev pub invariant-loop-permission : goal.invariant-loop-permission
invariant-loop-permission l = record {
  counted : l.place ≡ l.permission-index;
  left : position_from (λ x. not (permission_stands (located l.document) x)) l.permission-index (drop l.permission-index l.permissions) ≡ position_from (λ x. not (permission_stands (located l.document) x)) 0 l.permissions;
}
