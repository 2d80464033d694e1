-- The laws of sketches.
use Rattle.std.specs.Prelude.{◌≡◌, ◌≢◌, ◌≤◌, ◌<◌, ℕ, Bool, true, false, ◌&&◌, List, [], length, Option, Some, None, is_some}
use Rattle.std.specs.List.{list_any, list_all}
use Rattle.iodef_tree.specs.Text.{Bytes}
use Rattle.iodef_tree.specs.Paths.{located}
use Rattle.iodef_tree.specs.declared.line.Line.{Line}
use Rattle.marking.specs.Marks.{first_bad_marking}
use Rattle.marking.specs.declared.label.Handling.{Handling}
use Rattle.policy.specs.Reach.{reach_of}
use Rattle.policy.specs.declared.standing.Standing.{Standing}
use Rattle.policy.specs.declared.case.Case.{Case}
use Rattle.policy.specs.declared.reach.Reach.{Reach}
use Rattle.redact.specs.Told.{is_named, has_needle, is_listed, finds}
use Rattle.redact.specs.declared.want.Want.{Want}
use Rattle.sketch.specs.Holdings.{HeldText, holdings}
use Rattle.sketch.specs.Labels.{has_some_class, has_default, least_handling}
use Rattle.sketch.specs.Runs.{runs}
use Rattle.sketch.specs.Sketched.{Summarises, IsSketchOf}
use Rattle.sketch.specs.Judged.{reader_least, is_cleared, cleared_for, judged_by, judged}
use Rattle.sketch.specs.declared.judged.Judged.TheVariants.{Met, Unmet}
use Rattle.sketch.specs.declared.sketch.Summary.{Summary}
use Rattle.sketch.specs.declared.sketch.Sketch.{Sketch}

-- the least handling of an outline for a reader
abbrev pub least_for : List Line → Standing → Option Handling
least_for ls s = reader_least (has_default ls) (least_handling ls) s

-- The source is shown something exactly if there is a class.
abbrev pub SourceIsShown : Type 0
SourceIsShown = (ls : List Line) (c : Case) (s : Standing) → s.source ≡ true → is_listed ls c s ≡ has_some_class ls

-- If a gate at the root refuses the reader, any reader who isn't of the source is shown nothing.
abbrev pub ShutShowsNothing : Type 0
ShutShowsNothing = (ls : List Line) (c : Case) (s : Standing) → s.source ≡ false → (reach_of c.gates c.permissions s).shut ≡ true → is_listed ls c s ≡ false

-- If the reader isn't cleared for the least handling, and no permission holds, any reader who isn't of the source is
-- shown nothing.
abbrev pub AboveShowsNothing : Type 0
AboveShowsNothing = (ls : List Line) (c : Case) (s : Standing) → s.source ≡ false → is_cleared s (least_for ls s) ≡ false →
    (reach_of c.gates c.permissions s).permitted ≡ false → is_listed ls c s ≡ false

-- If the reader is cleared for the least handling, and no gate of the case refuses, the reader is shown something.
abbrev pub WithinShowsSome : Type 0
WithinShowsSome = (ls : List Line) (c : Case) (s : Standing) → is_cleared s (least_for ls s) ≡ true → (reach_of c.gates c.permissions s).refused ≡ false →
    is_listed ls c s ≡ true

-- What a search finds is a text that a class directly holds, and the class has the name that is given.
abbrev pub FoundIsHeld : Type 0
FoundIsHeld = (ls : List Line) (c : Case) (s : Standing) (needle : Bytes) (name : Option Bytes) → finds ls c s needle name ≡ true →
    list_any (λ (h : HeldText). is_named name h.class && has_needle needle h.text) (holdings ls) ≡ true

-- What a search finds for a reader who isn't of the source, and for whom no permission holds, is a text of a class for
-- which the reader is cleared.
abbrev pub FoundIsCleared : Type 0
FoundIsCleared = (ls : List Line) (c : Case) (s : Standing) (needle : Bytes) (name : Option Bytes) → s.source ≡ false →
    (reach_of c.gates c.permissions s).permitted ≡ false → finds ls c s needle name ≡ true →
    list_any (λ (h : HeldText). cleared_for s h.handling && (is_named name h.class && has_needle needle h.text)) (holdings ls) ≡ true

-- A text has each run of a needle that it contains.
abbrev pub ContainedRuns : Type 0
ContainedRuns = (base : ℕ) (needle text : Bytes) (test : ℕ → Bool) → has_needle needle text ≡ true → list_all test (runs base text) ≡ true →
    list_all test (runs base needle) ≡ true

-- A needle of fewer than three bytes has no run.
abbrev pub ShortHasNoRun : Type 0
ShortHasNoRun = (base : ℕ) (needle : Bytes) → length needle < 3 → runs base needle ≡ []

-- Without a needle the class's name counts for nothing.
abbrev pub NameNeedsNeedle : Type 0
NameNeedsNeedle = (k : Summary) (r : Reach) (s : Standing) (one other : Option Bytes) → judged_by k r s None one ≡ judged_by k r s None other

-- A want with a needle is never met by the sketch alone.
abbrev pub NeedleIsLookedFor : Type 0
NeedleIsLookedFor = (k : Summary) (r : Reach) (s : Standing) (needle : Bytes) (class : Option Bytes) → judged_by k r s (Some needle) class ≢ Met

-- If the markings of a document aren't accepted, no want is met.
abbrev pub UnacceptedIsUnmet : Type 0
UnacceptedIsUnmet = (k : Sketch) (ls : List Line) (r : Reach) (s : Standing) (w : Want) → IsSketchOf k ls →
    is_some (first_bad_marking (located ls)) ≡ true → judged k r s w ≡ Unmet

-- The limits of a sketch: from 64 to 65,536 bytes for the runs, as many for those with a handling, and 32 for the names.
abbrev pub SketchIsSmall : Type 0
SketchIsSmall = (k : Summary) (ls : List Line) → Summarises k ls →
    (64 ≤ length k.run_bits) × (length k.run_bits ≤ 65536) × (64 ≤ length k.handled_bits) × (length k.handled_bits ≤ 65536) × (length k.name_bits ≡ 32)
