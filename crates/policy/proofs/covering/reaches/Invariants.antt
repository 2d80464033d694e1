use Rattle.{std.proofs.Common.{◌≡◌, take}, iodef_tree.specs.Paths.located, policy.specs.Permissions.reaches}
use Rattle.policy.proofs.covering.reaches.Given as goal

abbrev pub invariant-loop-token : goal.invariant-loop-token
invariant-loop-token l = record {
  here : l.here ≡ take l.token-index l.token-items;
  reached : l.reached ≡ reaches (located l.document) l.from l.here;
}
