-- The verdict of a class. Its path is judged by itself, against all of its prefixes (RFC 7970 section 3.3.1, FIRST TLP
-- 2.0, MISP book: distribution levels).
use Rattle.std.specs.Prelude.{Bool, ◌&&◌, ◌||◌, List, [], ◌∷◌, filter, if◌then◌else◌, Option, Some, None, is_none, unwrap_or}
use Rattle.std.specs.List.{filter_map, flat_map, list_any}
use Rattle.iodef_tree.specs.Text.{Tokens, same_path, prefixes}
use Rattle.iodef_tree.specs.Paths.{LocatedLine}
use Rattle.marking.specs.Label.{LabelValue, handling_of, is_at_most}
use Rattle.marking.specs.Marks.{label_at}
use Rattle.marking.specs.declared.label.Handling.{Handling}
use Rattle.marking.specs.declared.label.Handling.TheVariants.{Clear, Green, Amber, Strict, Red}
use Rattle.policy.specs.Clearance.{clearance_of}
use Rattle.policy.specs.Gates.{refusal_of_gate}
use Rattle.policy.specs.Permissions.{covers}
use Rattle.policy.specs.declared.rule.Rule.{Rule}
use Rattle.policy.specs.declared.rule.Rule.TheVariants.{Src, X, HGreen, HAmber, HStrict, HRed}
use Rattle.policy.specs.declared.standing.Standing.{Standing}
use Rattle.policy.specs.declared.case.Case.{Case}
use Rattle.policy.specs.declared.verdict.Verdict.{Verdict}
use Rattle.policy.specs.declared.verdict.Verdict.TheVariants.{Shown, Hidden}

-- the first element of a list, if it has one
abbrev pub first_of : {A : Type 0} → List A → Option A
first_of [] = None
first_of (x ∷ xs) = Some x

-- the refusals of the gates at a path, in the order of the case
abbrev pub refusals_at : Case → Standing → Tokens → List Rule
refusals_at c s q = filter_map (refusal_of_gate s) (filter (λ g. same_path g.path q) c.gates)

-- The refusal on a path: of the gates at its prefixes that refuse, that of the one with the shortest path. If several
-- have that path, it is that of the first.
abbrev pub refusal_at : Case → Standing → Tokens → Option Rule
refusal_at c s p = first_of (flat_map (refusals_at c s) (prefixes p))

-- how a label is to be handled, given what the source arranged with the reader's organisation
abbrev pub handling_for : Standing → LabelValue → Handling
handling_for s l = handling_of l s.arrangement

-- the reader is cleared for a label
abbrev pub is_cleared_for : Standing → LabelValue → Bool
is_cleared_for s l = is_at_most (handling_for s l) (clearance_of s).0

-- a permission covers the class at p for the reader
abbrev pub is_covered : List LocatedLine → Case → Standing → Tokens → Bool
is_covered es c s p = list_any (covers es s p) c.permissions

-- The class at p is visible if the reader is of the source. It is visible too if no gate on the path refuses the
-- reader, and the reader is cleared for the nearest label or a permission covers the class.
abbrev pub is_visible : List LocatedLine → Case → Standing → Tokens → Bool
is_visible es c s p =
    s.source || (is_none (refusal_at c s p) && (is_cleared_for s (label_at es p) || is_covered es c s p))

-- the rule that shows a visible class: SRC for the source, else the clearance's rule if the clearance suffices, else X
abbrev pub showing_rule : Standing → LabelValue → Rule
showing_rule s l = if s.source then Src else if is_cleared_for s l then (clearance_of s).1 else X

-- The rule of a handling that hides a class. CLEAR has no rule of its own, since everybody is cleared for it and it
-- hides nothing; H-GREEN is in its place.
abbrev pub hidden_by : Handling → Rule
hidden_by Clear = HGreen
hidden_by Green = HGreen
hidden_by Amber = HAmber
hidden_by Strict = HStrict
hidden_by Red = HRed

-- the rule that hides a class that isn't visible: the refusal on its path, else the rule of its handling
abbrev pub hiding_rule : List LocatedLine → Case → Standing → Tokens → Rule
hiding_rule es c s p = unwrap_or (refusal_at c s p) (hidden_by (handling_for s (label_at es p)))

-- The verdict of the class at p: shown or hidden, and by which rule.
abbrev pub verdict_of : List LocatedLine → Case → Standing → Tokens → Verdict
verdict_of es c s p =
    if is_visible es c s p then Shown (showing_rule s (label_at es p)) else Hidden (hiding_rule es c s p)
