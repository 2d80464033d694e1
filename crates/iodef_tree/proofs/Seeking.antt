-- The first of some values that passes a test, with the values inside one value before the others.
use Rattle.{std.proofs.{Common.{◌≡◌, List, [], ◌∷◌, ◌++◌, Bool, ◌||◌, Some, None, refl, arith}, lemmas.Grind.common_steps}, json_pointer.specs.Text.Bytes}
use Rattle.{json_pointer.specs.Text.Tokens, iodef_tree.specs.{Values.{Surrounded, Node, beneath, first_at}, inner.FitValues.any_at}}

pub first_at-none : (f : Surrounded → Bool) (t : Bytes) (a b : List Node) → first_at f a ≡ None → first_at f (beneath t a ++ b) ≡ first_at f b
first_at-none f t [] b e = refl
first_at-none f t (n ∷ a) b e = grind (arith, (first_at-none f t a b))

pub first_at-some : (f : Surrounded → Bool) (t : Bytes) (a b : List Node) (p : Tokens) → first_at f a ≡ Some p → first_at f (beneath t a ++ b) ≡ Some (t ∷ p)
first_at-some f t [] b p e = cc
first_at-some f t (n ∷ a) b p e = grind (arith, (first_at-some f t a b p))

pub any_at-beneath : (f : Surrounded → Bool) (t : Bytes) (a b : List Node) → any_at f (beneath t a ++ b) ≡ (any_at f a || any_at f b)
any_at-beneath f t [] b = refl
any_at-beneath f t (n ∷ a) b = grind (arith, (any_at-beneath f t a b))

-- the lemmas for the walks over all values
pub ruleset seeking = (common_steps, first_at-none, first_at-some, any_at-beneath)
