-- The case and the readers of the short form.
use Rattle.std.{proofs.Common.{◌≡◌, Bool, true, false, ◌&&◌, ◌||◌, List, [], ◌∷◌, ◌++◌, None, is_none, refl, ap, ◌∙◌}, specs.List.flat_map}
use Rattle.{iodef_tree.specs.{Paths.LocatedLine, Text.{Tokens, prefixes}}, marking.specs.{Label.{handling_of, is_at_most}, Marks.label_at}}
use Rattle.{marking.specs.declared.label.Handling.{Handling, TheVariants.{Clear, Green, Amber, Strict, Red}}, policy.specs.Clearance.clearance_of}
use Rattle.policy.specs.{Verdict.{first_of, is_visible, refusal_at, refusals_at}, declared.standing.Standing.Standing}
use Rattle.redaction.specs.{Described.{cleared_reader, open_case}, Laws.{ShortFormClears, OpenCaseRefusesNobody, ShortFormShowsUpToClearance}}

pub clears : ShortFormClears
clears Clear = refl
clears Green = refl
clears Amber = refl
clears Strict = refl
clears Red = refl

none-at : (s : Standing) (q : Tokens) → refusals_at open_case s q ≡ []
none-at s [] = refl
none-at s (x ∷ q) = refl

none-along : (s : Standing) (qs : List Tokens) → flat_map (refusals_at open_case s) qs ≡ []
none-along s [] = refl
none-along s (q ∷ qs) = ap (λ l. l ++ flat_map (refusals_at open_case s) qs) (none-at s q) ∙ none-along s qs

pub no-refusal : OpenCaseRefusesNobody
no-refusal s p = ap first_of (none-along s (prefixes p))

or-false : (b : Bool) → (b || false) ≡ b
or-false true = refl
or-false false = refl

-- whoever isn't of the source, has no arrangement and is cleared for h sees up to h of an open case
sees-up-to : (s : Standing) (h : Handling) (es : List LocatedLine) (p : Tokens) →
    s.source ≡ false → s.arrangement ≡ None → (clearance_of s).0 ≡ h →
    is_visible es open_case s p ≡ is_at_most (handling_of (label_at es p) None) h
sees-up-to s h es p outside bare cleared =
    let l = label_at es p in
    ap (λ b. b || (is_none (refusal_at open_case s p) && (is_at_most (handling_of l s.arrangement) (clearance_of s).0 || false))) outside
    ∙ ap (λ r. is_none r && (is_at_most (handling_of l s.arrangement) (clearance_of s).0 || false)) (no-refusal s p)
    ∙ or-false (is_at_most (handling_of l s.arrangement) (clearance_of s).0)
    ∙ ap (λ a. is_at_most (handling_of l a) (clearance_of s).0) bare
    ∙ ap (is_at_most (handling_of l None)) cleared

pub shows : ShortFormShowsUpToClearance
shows Clear es p = sees-up-to (cleared_reader Clear) Clear es p refl refl refl
shows Green es p = sees-up-to (cleared_reader Green) Green es p refl refl refl
shows Amber es p = sees-up-to (cleared_reader Amber) Amber es p refl refl refl
shows Strict es p = sees-up-to (cleared_reader Strict) Strict es p refl refl refl
shows Red es p = sees-up-to (cleared_reader Red) Red es p refl refl refl
