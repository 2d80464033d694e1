use Rattle.{std.proofs.Common.{◌≡◌, map, drop}, explain.specs.Listing.{put_all, permissions_in_order, entry_of}}
use Rattle.explain.proofs.listing.sort_permissions.Given as goal

abbrev pub invariant-loop-permission : goal.invariant-loop-permission
invariant-loop-permission l =
    put_all l.entries.items (map entry_of (drop l.permission-index l.permissions)) ≡ permissions_in_order (map entry_of l.permissions)
