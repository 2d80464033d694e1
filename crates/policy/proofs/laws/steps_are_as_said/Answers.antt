use Rattle.{std.proofs.Common.{◌∷◌, [], ◌++◌, refl}, marking.specs.Marks.written_label, policy.proofs.Steps.{at_root-is, enter_class-at, enter_array-at}}
use Rattle.policy.proofs.laws.steps_are_as_said.Goals as goal

pub returns : goal.returns
returns c = record {
  root = at_root-is;
  class = λ es case standing p x here. enter_class-at es case standing p x (written_label es (p ++ x ∷ [])) here refl;
  array = enter_array-at;
}
