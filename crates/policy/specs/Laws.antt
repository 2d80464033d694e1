-- The laws of the policy.
use Rattle.std.specs.Prelude.{◌≡◌, ◌≤◌, ℤ, ◌≤ℤ◌, Bool, true, false, ◌&&◌, List, [], ◌∷◌, ◌++◌, length, find, filter, Some, None, is_some, All, Contains}
use Rattle.iodef_tree.specs.Text.{Bytes, Tokens, is_prefix, same_path}
use Rattle.iodef_tree.specs.Paths.{LocatedLine, has_class}
use Rattle.marking.specs.Label.{is_at_most}
use Rattle.marking.specs.Marks.{written_label, label_at}
use Rattle.marking.specs.declared.label.Handling.TheVariants.{Clear}
use Rattle.policy.specs.Clearance.{clearance_rows, clearance_of}
use Rattle.policy.specs.Gates.{refusal_of_gate}
use Rattle.policy.specs.Permissions.{is_before}
use Rattle.policy.specs.Verdict.{refusal_at, handling_for, is_visible, verdict_of}
use Rattle.policy.specs.Inherited.{inherited_at, at_root, enter_array, enter_class}
use Rattle.policy.specs.declared.rule.Rule.{Rule}
use Rattle.policy.specs.declared.rule.Rule.TheVariants.{Src}
use Rattle.policy.specs.declared.standing.Standing.{Standing}
use Rattle.policy.specs.declared.gate.Gate.{Gate}
use Rattle.policy.specs.declared.case.Case.{Case}
use Rattle.policy.specs.declared.verdict.Verdict.TheVariants.{Shown, Hidden}

-- A reader of the source sees every class.
abbrev pub SourceSeesAll : Type 0
SourceSeesAll = (es : List LocatedLine) (c : Case) (s : Standing) (p : Tokens) → s.source ≡ true →
    verdict_of es c s p ≡ Shown Src

-- If no gate on a path refuses the reader, the reader passes every gate on it.
abbrev pub UnrefusedPassesGates : Type 0
UnrefusedPassesGates = (c : Case) (s : Standing) (p : Tokens) → refusal_at c s p ≡ None →
    All (λ g. is_prefix g.path p ≡ true → refusal_of_gate s g ≡ None) c.gates

-- Any other reader who sees a class passes every gate on its path.
abbrev pub VisiblePassesGates : Type 0
VisiblePassesGates = (es : List LocatedLine) (c : Case) (s : Standing) (p : Tokens) → s.source ≡ false → is_visible es c s p ≡ true →
    All (λ g. is_prefix g.path p ≡ true → refusal_of_gate s g ≡ None) c.gates

-- a gate is on the path and refuses the reader
abbrev pub refuses_on : Standing → Tokens → Gate → Bool
refuses_on s p g = is_prefix g.path p && is_some (refusal_of_gate s g)

-- The gate refuses the reader on the way to p. No refusing gate on that way has a shorter path, and it is the first of
-- those with its path.
pub record IsNearestRefusal (c : Case) (s : Standing) (p : Tokens) (g : Gate) : Type 0 where
  pub on_path : is_prefix g.path p ≡ true
  pub shortest : All (λ h. refuses_on s p h ≡ true → length g.path ≤ length h.path) c.gates
  pub first : find (λ h. same_path h.path g.path && is_some (refusal_of_gate s h)) c.gates ≡ Some g

-- The refusal of a path is that of the refusing gate with the shortest path. If several have that path, it is that of
-- the first in the list.
abbrev pub RefusalIsNearest : Type 0
RefusalIsNearest = (c : Case) (s : Standing) (p : Tokens) (r : Rule) → refusal_at c s p ≡ Some r →
    (g : Gate) × IsNearestRefusal c s p g × (refusal_of_gate s g ≡ Some r)

-- the second case has the gates of the first, all its permissions, and perhaps more
pub record HasMorePermissions (c d : Case) : Type 0 where
  pub gates : c.gates ≡ d.gates
  pub permissions : All (λ x. Contains d.permissions x) c.permissions

-- At one moment, adding a permission never hides a class.
abbrev pub PermissionHidesNothing : Type 0
PermissionHidesNothing = (es : List LocatedLine) (c d : Case) (s : Standing) (p : Tokens) → HasMorePermissions c d →
    is_visible es c s p ≡ true → is_visible es d s p ≡ true

-- Adding a permission opens no gate: a gate that refuses a reader still refuses it, by the same rule.
abbrev pub PermissionOpensNoGate : Type 0
PermissionOpensNoGate = (es : List LocatedLine) (c d : Case) (s : Standing) (p : Tokens) (r : Rule) → HasMorePermissions c d →
    s.source ≡ false → refusal_at c s p ≡ Some r → verdict_of es d s p ≡ Hidden r

-- A permission that has ended counts for nothing: the verdict is that of the case without it.
abbrev pub EndedCountsForNothing : Type 0
EndedCountsForNothing = (es : List LocatedLine) (c : Case) (s : Standing) (p : Tokens) →
    verdict_of es c s p ≡ verdict_of es (record c { permissions = filter (λ x. is_before s.now x.until) c.permissions }) s p

-- If no permission ends, the verdict is the same at any moment.
abbrev pub EndlessAtAnyMoment : Type 0
EndlessAtAnyMoment = (es : List LocatedLine) (c : Case) (s : Standing) (p : Tokens) (m : ℤ) → All (λ x. x.until ≡ None) c.permissions →
    verdict_of es c (record s { now = m }) p ≡ verdict_of es c s p

-- As time goes on, no class comes into view.
abbrev pub LaterSeesNoMore : Type 0
LaterSeesNoMore = (es : List LocatedLine) (c : Case) (s : Standing) (p : Tokens) (m : ℤ) → s.now ≤ℤ m →
    is_visible es c (record s { now = m }) p ≡ true → is_visible es c s p ≡ true

-- The second standing is the first one raised: perhaps a recipient, nominated, of an addressed organisation, a client,
-- or in the source's communities or the named one, if the first wasn't. Nothing else differs, and the moment is the
-- same.
pub record IsRaised (s t : Standing) : Type 0 where
  pub source : s.source ≡ t.source
  pub person : s.person ≡ true → t.person ≡ true
  pub nominated : s.nominated ≡ true → t.nominated ≡ true
  pub addressed : s.addressed ≡ true → t.addressed ≡ true
  pub client : s.client ≡ true → t.client ≡ true
  pub community : s.community ≡ true → t.community ≡ true
  pub peer : s.peer ≡ true → t.peer ≡ true
  pub connected : s.connected ≡ t.connected
  pub arrangement : s.arrangement ≡ t.arrangement
  pub who : s.who ≡ t.who
  pub org : s.org ≡ t.org
  pub groups : s.groups ≡ t.groups
  pub active_groups : s.active_groups ≡ t.active_groups
  pub communities : s.communities ≡ t.communities
  pub now : s.now ≡ t.now

-- A raised reader is cleared for no less.
abbrev pub RaisedIsClearedForMore : Type 0
RaisedIsClearedForMore = (s t : Standing) → IsRaised s t → is_at_most (clearance_of s).0 (clearance_of t).0 ≡ true

-- Raising a reader never hides a class.
abbrev pub RaisedSeesNoLess : Type 0
RaisedSeesNoLess = (es : List LocatedLine) (c : Case) (s t : Standing) (p : Tokens) → IsRaised s t →
    is_visible es c s p ≡ true → is_visible es c t p ≡ true

-- A class that is handled as CLEAR is hidden only by gates.
abbrev pub ClearIsNeverHidden : Type 0
ClearIsNeverHidden = (es : List LocatedLine) (c : Case) (s : Standing) (p : Tokens) → handling_for s (label_at es p) ≡ Clear →
    refusal_at c s p ≡ None → is_visible es c s p ≡ true

-- No row of the table of clearances that holds is stricter than the clearance.
abbrev pub ClearanceIsStrictest : Type 0
ClearanceIsStrictest = (s : Standing) →
    All (λ r. r.holds ≡ true → is_at_most r.handling (clearance_of s).0 ≡ true) (clearance_rows s)

-- The step law, at the root: what a pass inherits there is what the definitions say.
abbrev pub RootIsAsSaid : Type 0
RootIsAsSaid = (es : List LocatedLine) (c : Case) (s : Standing) → has_class es [] ≡ false →
    at_root c s ≡ inherited_at es c s []

-- The step law, at a class: what a pass inherits there, one token further down and with the label written in the
-- class, is what the definitions say.
abbrev pub ClassIsAsSaid : Type 0
ClassIsAsSaid = (es : List LocatedLine) (c : Case) (s : Standing) (p : Tokens) (x : Bytes) → has_class es (p ++ x ∷ []) ≡ true →
    enter_class c s (inherited_at es c s p) x (written_label es (p ++ x ∷ [])) ≡ inherited_at es c s (p ++ x ∷ [])

-- The step law, at a path without a class, as that of an array: what a pass inherits there, one token further down, is
-- what the definitions say.
abbrev pub ArrayIsAsSaid : Type 0
ArrayIsAsSaid = (es : List LocatedLine) (c : Case) (s : Standing) (p : Tokens) (x : Bytes) → has_class es (p ++ x ∷ []) ≡ false →
    enter_array c s (inherited_at es c s p) x ≡ inherited_at es c s (p ++ x ∷ [])
