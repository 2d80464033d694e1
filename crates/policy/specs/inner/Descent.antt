-- The state of a walk from the root.
use Rattle.std.specs.Prelude.{◌≡◌, ◌≤◌, List, length, take}
use Rattle.iodef_tree.specs.Filled.{IsFilled}
use Rattle.iodef_tree.specs.Laws.{StandsAt}
use Rattle.iodef_tree.specs.Paths.{LocatedLine}
use Rattle.iodef_tree.specs.Text.{Tokens}
use Rattle.iodef_tree.specs.View.{forest}
use Rattle.policy.specs.Inherited.{carried, inherited_at}
use Rattle.policy.specs.declared.standing.Standing.{Standing}
use Rattle.policy.specs.declared.case.Case.{Case}
use Rattle.policy.specs.declared.descent.Descent.{Descent}

-- The walk is at p, at or below the class or root that it holds, and carries what the definitions say at p.
pub record Reaches (es : List LocatedLine) (c : Case) (s : Standing) (p : Tokens) (d : Descent) : Type 0 where
  pub depth : d.depth ≤ length p
  pub stands : StandsAt es (take d.depth p) (forest d.class.now)
  pub filled : IsFilled d.class.now
  pub said : carried p d.said ≡ inherited_at es c s p
