-- What the policy says at a path, as one record, and one step further down. A definition of the policy judges each
-- path by itself; a pass down a document inherits this record instead. The step law says that both agree.
use Rattle.std.specs.Prelude.{Bool, ◌&&◌, ◌||◌, List, [], ◌∷◌, ◌++◌, if◌then◌else◌, Option, Some, None, is_none, unwrap_or}
use Rattle.std.specs.Option.{option_or}
use Rattle.std.specs.List.{list_any}
use Rattle.iodef_tree.specs.Text.{Bytes, Tokens, same_path}
use Rattle.iodef_tree.specs.Paths.{LocatedLine}
use Rattle.marking.specs.Label.{LabelValue, private, marking_of}
use Rattle.marking.specs.Marks.{label_at, incident_path}
use Rattle.policy.specs.Permissions.{holds_for}
use Rattle.policy.specs.Verdict.{first_of, refusals_at, refusal_at, handling_for, is_cleared_for, is_covered, showing_rule, hidden_by}
use Rattle.policy.specs.declared.rule.Rule.{Rule}
use Rattle.policy.specs.declared.standing.Standing.{Standing}
use Rattle.policy.specs.declared.case.Case.{Case}
use Rattle.policy.specs.declared.inherited.Carried.{Carried}
use Rattle.policy.specs.declared.verdict.Verdict.{Verdict}
use Rattle.policy.specs.declared.verdict.Verdict.TheVariants.{Shown, Hidden}

-- a path, and the refusal of the gates on it
pub record Approach : Type 0 where
  pub path : Tokens
  pub refusal : Option Rule

-- a path with its refusal, its nearest label, and whether a permission covers it
pub record Inherited : Type 0 where
  pub approach : Approach
  pub label : LabelValue
  pub covered : Bool

-- a path with its refusal, by the definitions
abbrev pub approach_at : Case → Standing → Tokens → Approach
approach_at c s p = record { path = p; refusal = refusal_at c s p }

-- what the definitions say at a path, each path judged by itself
abbrev pub inherited_at : List LocatedLine → Case → Standing → Tokens → Inherited
inherited_at es c s p = record { approach = approach_at c s p; label = label_at es p; covered = is_covered es c s p }

-- a permission with this very path holds for the reader
abbrev pub is_granted : Case → Standing → Tokens → Bool
is_granted c s p = list_any (λ x. holds_for s x && same_path x.path p) c.permissions

-- the refusal at a path one token longer: that of the path above, or else that of a gate here
abbrev pub approach_step : Case → Standing → Approach → Tokens → Approach
approach_step c s a p = record { path = p; refusal = option_or a.refusal (first_of (refusals_at c s p)) }

-- the label of a class: the one written in it, else the default of the Incident, else the label above
abbrev pub label_step : LabelValue → Tokens → Option LabelValue → LabelValue
label_step above p written =
    unwrap_or (option_or written (if same_path p incident_path then Some private else None)) above

-- one token further down into an array, whose own path has neither a label nor a default
abbrev pub array_step : Case → Standing → Inherited → Tokens → Inherited
array_step c s h p = record {
  approach = approach_step c s h.approach p;
  label = h.label;
  covered = h.covered || is_granted c s p;
}

-- one token further down into a class; a label written in the class ends the permissions from above
abbrev pub class_step : Case → Standing → Inherited → Tokens → Option LabelValue → Inherited
class_step c s h p written = record {
  approach = approach_step c s h.approach p;
  label = label_step h.label p written;
  covered = (h.covered && is_none written) || is_granted c s p;
}

-- the refusal one token further down, by the token
abbrev pub approach_below : Case → Standing → Approach → Bytes → Approach
approach_below c s a token = approach_step c s a (a.path ++ token ∷ [])

-- one token further down into an array, by the token
abbrev pub enter_array : Case → Standing → Inherited → Bytes → Inherited
enter_array c s h token = array_step c s h (h.approach.path ++ token ∷ [])

-- one token further down into a class, by the token
abbrev pub enter_class : Case → Standing → Inherited → Bytes → Option LabelValue → Inherited
enter_class c s h token written = class_step c s h (h.approach.path ++ token ∷ []) written

-- what is inherited at the root
abbrev pub at_root : Case → Standing → Inherited
at_root c s = record { approach = record { path = []; refusal = first_of (refusals_at c s []) }; label = private; covered = is_granted c s [] }

-- whether the class is visible, by its record
abbrev pub is_seen : Standing → Inherited → Bool
is_seen s h = s.source || (is_none h.approach.refusal && (is_cleared_for s h.label || h.covered))

-- the rule that hides the class, by its record
abbrev pub hides : Standing → Inherited → Rule
hides s h = unwrap_or h.approach.refusal (hidden_by (handling_for s h.label))

-- the verdict of the class, by its record
abbrev pub verdict_by : Standing → Inherited → Verdict
verdict_by s h = if is_seen s h then Shown (showing_rule s h.label) else Hidden (hides s h)

-- what the program's `Carried` says at a path
abbrev pub carried : Tokens → Carried → Inherited
carried p h = record { approach = record { path = p; refusal = h.refusal }; label = marking_of h.label; covered = h.covered }
