use Rattle.{std.proofs.Common.{◌≡◌, ◌++◌, drop}, hub.specs.Serving.numbers_put}
use Rattle.hub.proofs.change.new_numbers.Given as goal

abbrev pub invariant-loop-edit : goal.invariant-loop-edit
invariant-loop-edit l = l.numbers.items ++ numbers_put (drop l.edit-index l.edits) ≡ numbers_put l.edits
