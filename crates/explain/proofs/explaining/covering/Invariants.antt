use Rattle.{std.{proofs.Common.{◌≡◌, ◌++◌, drop}, specs.Prelude.filter}, iodef_tree.specs.Paths.located, policy.specs.Permissions.covers}
use Rattle.explain.proofs.explaining.covering.Given as goal

abbrev pub invariant-loop-permission : goal.invariant-loop-permission
invariant-loop-permission l =
    l.covering.items ++ filter (covers (located l.document) l.standing l.path) (drop l.permission-index l.permission-items)
    ≡ filter (covers (located l.document) l.standing l.path) l.permission-items
