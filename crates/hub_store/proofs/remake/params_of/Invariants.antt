use Rattle.{std.proofs.Common.{◌≡◌, map, take}, sqlite.specs.Values.{bound, bound_value}}
use Rattle.hub_store.proofs.remake.params_of.Given as goal

abbrev pub invariant-loop-at : goal.invariant-loop-at
invariant-loop-at l = bound l.params.items ≡ map bound_value (take l.at l.row)
