use Rattle.std.proofs.Common.{◌≡◌, take}
use Rattle.iodef_tree.proofs.classes.path_of.Given as goal

abbrev pub invariant-loop-token : goal.invariant-loop-token
invariant-loop-token l = l.copy.items ≡ take l.token-index l.tokens
