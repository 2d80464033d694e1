-- What the gates and permissions of a case say at the paths that a pass can still reach from where it is.
use Rattle.std.specs.Prelude.{Bool, false, List, ◌++◌, map, filter, Option, None}
use Rattle.std.specs.List.{list_any}
use Rattle.iodef_tree.specs.Text.{Tokens, same_path}
use Rattle.policy.specs.Verdict.{first_of, refusals_at}
use Rattle.policy.specs.Inherited.{is_granted}
use Rattle.policy.specs.declared.rule.Rule.{Rule}
use Rattle.policy.specs.declared.standing.Standing.{Standing}
use Rattle.policy.specs.declared.case.Case.{Case}
use Rattle.policy.specs.declared.onward.Refusing.{Refusing}
use Rattle.policy.specs.declared.onward.Granting.{Granting}
use Rattle.policy.specs.declared.ahead.Ahead.{Ahead}

-- what the case says at one path: the rule of the first gate there that refuses the reader, and whether a permission
-- there holds for the reader
pub record Met : Type 0 where
  pub refusal : Option Rule
  pub granted : Bool

-- what the gates and permissions of a case say at one path
abbrev pub met_at : Case → Standing → Tokens → Met
met_at c s p = record { refusal = first_of (refusals_at c s p); granted = is_granted c s p }

-- what the case says at each path that goes on from p, by the tokens behind p
abbrev pub ahead_of : Case → Standing → Tokens → Tokens → Met
ahead_of c s p = λ z. met_at c s (p ++ z)

-- the rules of the refusing gates whose remaining path is this one
abbrev pub refused_with : List Refusing → Tokens → List Rule
refused_with xs z = map (λ x. x.rule) (filter (λ x. same_path x.rest.now z) xs)

-- a permission has this remaining path
abbrev pub granted_with : List Granting → Tokens → Bool
granted_with xs z = list_any (λ x. same_path x.rest.now z) xs

-- what the program's `Ahead` says at each path behind it
abbrev pub met_by : Ahead → Tokens → Met
met_by a z = record { refusal = first_of (refused_with a.refusing.items z); granted = granted_with a.granting.items z }

-- nothing is met at any path
abbrev pub nothing_met : Tokens → Met
nothing_met z = record { refusal = None; granted = false }
