use Rattle.{std.proofs.{Common.{ap, arith}, lemmas.Grind.common_steps}, iodef_tree.specs.Text.Tokens, policy.proofs.Onwards.{none-refuses, none-grants}}
use Rattle.policy.specs.Ahead.{Met}
use Rattle.policy.proofs.ahead.Ahead.is_empty.Goals as goal

-- If nothing is met anywhere, nothing is left.
pub returns-then-is_empty : goal.returns-then-is_empty
returns-then-is_empty c = (
  grind (arith, common_steps),
  λ at. let none = none-grants c.args.self.now.granting.items (λ z. ap (λ (f : Tokens → Met). (f z).granted) at) in grind (arith, common_steps, none),
)

pub returns-else-is_empty : goal.returns-else-is_empty
returns-else-is_empty c = (
  grind (arith, common_steps),
  λ at. let none = none-refuses c.args.self.now.refusing.items (λ z. ap (λ (f : Tokens → Met). (f z).refusal) at) in grind (arith, common_steps, none),
)
