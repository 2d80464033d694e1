-- An explanation by its parts.
use Rattle.std.{proofs.{Common.{◌≡◌, Bool, true, false, ◌||◌, List, sym, ap, subst, if◌then◌else◌}, lemmas.Bool.false≢true}, specs.Prelude.{Some, None}}
use Rattle.{std.specs.{Prelude.{is_some, unwrap_or, Result, Ok, Err}, Result.IsErrAnd}, iodef_tree.specs.{Paths.{LocatedLine, has_class}, Text.Tokens}}
use Rattle.{iodef_tree.specs.Text.is_root, marking.specs.{Label.text_of, Marks.{site_of, label_at}, Sited.Sites, declared.fault.SiteFault.SiteFault}}
use Rattle.policy.specs.{Clearance.clearance_of, Decided.{decided_at, Decides}, Verdict.{handling_for, verdict_of}, declared.case.Case.Case}
use Rattle.{policy.specs.declared.{fault.DecideFault.DecideFault, standing.Standing.Standing}, explain.specs.Explained.{explained_at, Explains, undecided}}
use Rattle.explain.specs.{Explained.unsited, Explanation.{Explanation, explanation_of, passages_on, covering}, declared.fault.ExplainFault.ExplainFault}
use Rattle.explain.specs.declared.trace.Trace.{Trace}
use Rattle.marking.specs.declared.fault.SiteFault.TheVariants as site
use Rattle.policy.specs.declared.fault.DecideFault.TheVariants as decide

-- each part besides the verdict is what the policy and the markings say of the path
pub record HasParts (es : List LocatedLine) (c : Case) (s : Standing) (p : Tokens) (x : Explanation) : Type 0 where
  pub path : x.path ≡ p
  pub community : x.community ≡ c.community
  pub gates : x.gates ≡ passages_on c s p
  pub site : x.site ≡ site_of es p
  pub label : x.label ≡ text_of (label_at es p)
  pub handling : x.handling ≡ handling_for s (label_at es p)
  pub clearance : x.clearance ≡ clearance_of s
  pub permissions : x.permissions ≡ covering es c s p

pub explained-decided : (es : List LocatedLine) (c : Case) (s : Standing) (p : Tokens) (x : Explanation) →
    decided_at es c s p ≡ Some x.verdict → HasParts es c s p x → explained_at es c s p ≡ Some x
explained-decided es c s p x decided parts = by_class (has_class es p) decided
  where
    by_class : (b : Bool) → (if b then Some (verdict_of es c s p) else None) ≡ Some x.verdict → (if b then Some (explanation_of es c s p) else None) ≡ Some x
    by_class true d =
        let same : verdict_of es c s p ≡ x.verdict = ap (λ o. unwrap_or o (verdict_of es c s p)) d in
        λ i. Some (record {
          verdict = same i;
          path = sym parts.path i;
          community = sym parts.community i;
          gates = sym parts.gates i;
          site = sym parts.site i;
          label = sym parts.label i;
          handling = sym parts.handling i;
          clearance = sym parts.clearance i;
          permissions = sym parts.permissions i;
        })
    by_class false d = absurd (false≢true (ap is_some d))

-- without a verdict there is no explanation
pub explained-undecided : (es : List LocatedLine) (c : Case) (s : Standing) (p : Tokens) →
    decided_at es c s p ≡ None → explained_at es c s p ≡ None
explained-undecided es c s p undecided = by_class (has_class es p) undecided
  where
    by_class : (b : Bool) → (if b then Some (verdict_of es c s p) else None) ≡ None → (if b then Some (explanation_of es c s p) else None) ≡ None
    by_class true d = absurd (false≢true (sym (ap is_some d)))
    by_class false d = λ i. None

pub explained-nothing : (es : List LocatedLine) (c : Case) (s : Standing) (p : Tokens) → has_class es p ≡ false → explained_at es c s p ≡ None
explained-nothing es c s p none = ap (λ b. if b then Some (explanation_of es c s p) else None) none

-- a fault of the verdict, as one of the explanation
pub explains-undecided : (r : Result Trace ExplainFault) (f : DecideFault) (es : List LocatedLine) (c : Case) (s : Standing) (p : Tokens) →
    IsErrAnd r (λ e. e ≡ undecided f) → Decides (Err f) es c s p → Explains r es c s p
explains-undecided (Ok t) f es c s p h d = absurd h
explains-undecided (Err e) decide.NoClass es c s p h d = subst (λ g. Explains (Err g) es c s p) (sym h) (explained-undecided es c s p d)
explains-undecided (Err e) decide.NoMemory es c s p h d = subst (λ g. Explains (Err g) es c s p) (sym h) tt

or_right : (a b : Bool) → (a || b) ≡ false → b ≡ false
or_right true b h = absurd (false≢true (sym h))
or_right false b h = h

-- a fault of the site, as one of the explanation
pub explains-unsited : (r : Result Trace ExplainFault) (f : SiteFault) (es : List LocatedLine) (c : Case) (s : Standing) (p : Tokens) →
    IsErrAnd r (λ e. e ≡ unsited f) → Sites (Err f) es p → Explains r es c s p
explains-unsited (Ok t) f es c s p h d = absurd h
explains-unsited (Err e) site.NoClass es c s p h d =
    subst (λ g. Explains (Err g) es c s p) (sym h) (explained-nothing es c s p (or_right (is_root p) (has_class es p) d))
explains-unsited (Err e) site.NoMemory es c s p h d = subst (λ g. Explains (Err g) es c s p) (sym h) tt
