use Rattle.std.proofs.Common.{◌≡◌, take}
use Rattle.kept_documents.proofs.copies.copy_permissions.Given as goal

abbrev pub invariant-loop-permission : goal.invariant-loop-permission
invariant-loop-permission l = l.copies.items ≡ take l.permission-index l.permissions
