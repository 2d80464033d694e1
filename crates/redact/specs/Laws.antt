-- The laws of excerpts and searches, for every document, case and reader.
use Rattle.std.specs.Prelude.{◌≡◌, ◌==◌, Bool, true, false, not, List, map, filter, Option, None, is_some, Contains, IsSomeAnd}
use Rattle.iodef_tree.specs.Text.{Bytes, is_root}
use Rattle.iodef_tree.specs.Paths.{LocatedLine, is_class, is_class_kind, located}
use Rattle.iodef_tree.specs.declared.line.Line.{Line}
use Rattle.policy.specs.declared.standing.Standing.{Standing}
use Rattle.policy.specs.declared.case.Case.{Case}
use Rattle.policy.specs.declared.gate.Gate.{Gate}
use Rattle.policy.specs.declared.rule.Rule.{Rule}
use Rattle.policy.specs.declared.verdict.Verdict.{Verdict}
use Rattle.policy.specs.declared.verdict.Verdict.TheVariants.{Shown, Hidden}
use Rattle.policy.specs.Gates.{refusal_of_gate}
use Rattle.policy.specs.Verdict.{is_visible, verdict_of}
use Rattle.redact.specs.Kept.{Verdicts, is_kept, is_frame, kept_lines}
use Rattle.redact.specs.Withheld.{Withheld, withheld_in_order, Lists}
use Rattle.redact.specs.Told.{verdicts_of, excerpt_place, visible_count, is_listed, excerpt_of, finds}
use Rattle.redact.specs.Wants.{meets_by}

-- An incident is listed exactly if an excerpt of it is served, that is if some class is visible.
abbrev pub ListedIsServed : Type 0
ListedIsServed = (ls : List Line) (c : Case) (s : Standing) → is_listed ls c s ≡ not (visible_count ls c s == 0)

-- An incident in which a search finds something is listed.
abbrev pub FoundIsListed : Type 0
FoundIsListed = (ls : List Line) (c : Case) (s : Standing) (needle : Bytes) (name : Option Bytes) →
    finds ls c s needle name ≡ true → is_listed ls c s ≡ true

-- The class lines of the kept outline are those of the kept classes, in their order. So each kept class has its place.
abbrev pub KeptClassesStay : Type 0
KeptClassesStay = (v : Verdicts) (es : List LocatedLine) →
    filter (λ l. is_class_kind l.kind) (kept_lines v es) ≡ map (λ e. e.line) (filter is_class (filter (is_kept v) es))

-- Nothing is served: there is no excerpt, and no want is met.
pub record TellsNothing (ls : List Line) (c : Case) (s : Standing) : Type 0 where
  pub excerpt : excerpt_of ls c s ≡ None
  pub met : (needle class : Option Bytes) → meets_by needle class ls c s ≡ false

-- If a gate at the root refuses a reader who isn't of the source, nothing is served to it, whatever the lines are.
abbrev pub RootGateTellsNothing : Type 0
RootGateTellsNothing = (ls : List Line) (c : Case) (s : Standing) (g : Gate) → s.source ≡ false →
    Contains c.gates g → is_root g.path ≡ true → is_some (refusal_of_gate s g) ≡ true → TellsNothing ls c s

-- The list of what is withheld is in order and without repeats; it has all pairs, and no others.
abbrev pub WithheldIsListed : Type 0
WithheldIsListed = (pairs : List Withheld) → Lists pairs (withheld_in_order pairs)

-- ---- verdicts and excerpts

-- whether the verdict is Shown
abbrev pub is_shown : Verdict → Bool
is_shown (Shown r) = true
is_shown (Hidden r) = false

-- The verdict of a class agrees with what is served. It is Shown exactly if the class is visible, and then an excerpt
-- is served. If it is Hidden, its rule is the one that hides the class. A frame has a place in an excerpt that is
-- served, and its rule is listed there.
pub record VerdictIsServed (ls : List Line) (c : Case) (s : Standing) (e : LocatedLine) : Type 0 where
  pub shown : is_shown (verdict_of (located ls) c s e.path) ≡ is_visible (located ls) c s e.path
  pub hidden : (r : Rule) → verdict_of (located ls) c s e.path ≡ Hidden r →
      r ≡ (verdicts_of (located ls) c s).rule e.path
  pub served : is_visible (located ls) c s e.path ≡ true → is_some (excerpt_of ls c s) ≡ true
  pub frame : is_frame (verdicts_of (located ls) c s) e.path ≡ true →
      IsSomeAnd (excerpt_of ls c s) (λ t.
      IsSomeAnd (excerpt_place ls c s e.path) (λ q.
      Contains t.withheld (q, (verdicts_of (located ls) c s).rule e.path)))

-- The law that the verdict of each class agrees with what is served.
abbrev pub VerdictsAreServed : Type 0
VerdictsAreServed = (ls : List Line) (c : Case) (s : Standing) (e : LocatedLine) → Contains (located ls) e →
    is_class e ≡ true → VerdictIsServed ls c s e
