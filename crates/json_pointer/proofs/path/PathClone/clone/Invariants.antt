use Rattle.std.proofs.Common.{◌≡◌, take}
use Rattle.json_pointer.proofs.path.PathClone.clone.Given as goal

abbrev pub invariant-loop-token : goal.invariant-loop-token
invariant-loop-token l = l.tokens.items ≡ take l.token-index l.token-items
