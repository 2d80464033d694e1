-- What a sketch says of a want is so.
use Rattle.std.proofs.Common.{arith, ℕ, ◌≡◌, ◌≢◌, ◌<◌, ◌≤◌, List, [], ◌∷◌, Bool, true, false, not, ◌&&◌, if◌then◌else◌, length, refl, sym, ◌∙◌, ap, ◌⊎◌, inl}
use Rattle.std.{proofs.{Common.{inr, Option, Some, None}, lemmas.Bool.{and_right, or_left, or_right, false≢true, true≢false}}, specs.Option.option_map_or}
use Rattle.{std.specs.Prelude.{is_none, is_some, option_map, string_bytes}, iodef_tree.{proofs.Order.is_false, specs.{Paths.located, Text.{Bytes, Tokens}}}}
use Rattle.{iodef_tree.specs.declared.line.Line.Line, marking.specs.Marks.first_bad_marking, policy.specs.{Reach.reach_of, declared.case.Case.Case}}
use Rattle.{policy.specs.declared.{reach.Reach.Reach, standing.Standing.Standing}, redact.{proofs.Promised.found-listed, specs.Told.{is_listed, finds}}}
use Rattle.{redact.specs.{Wants.meets_by, declared.want.Want.Want}, sketch.proofs.{Sets.{all-held, size-within}, Shown.{source-shown, shut-hides, above-hides}}}
use Rattle.sketch.{proofs.{Shown.{within-shows, no-class-shown}, Words.{found-held, found-cleared, kept-words, kept-handled}}, specs.Bits.holds}
use Rattle.sketch.specs.{Holdings.holdings, Judged.{meets_marked, has_words, may_hold, may_show, reader_least, is_cleared, cleared_for, judged_shown}}
use Rattle.sketch.specs.{Judged.{looked_for, judged_by, judged}, Labels.has_some_class, Laws.least_for, Runs.runs, Sketched.{runs_in, handled_runs_in}}
use Rattle.sketch.specs.{Sketched.{names_in, text_bytes, Summarises, IsKeptOf, IsSketchOf}, declared.judged.Judged.{Judged, TheVariants.{Met, Unmet, Unsure}}}
use Rattle.sketch.specs.declared.sketch.{Sketch.Sketch, Summary.Summary}

-- ---- the tests of `judged_shown`: a class, the source, a gate at the root, the clearance, any gate, any permission

abbrev by_tests : Bool → Bool → Bool → Bool → Bool → Bool → Judged
by_tests class source shut cleared refuses permits =
    if not class then Unmet
    else if source then Met
    else if shut then Unmet
    else if cleared then (if refuses then Unsure else Met)
    else if permits then Unsure
    else Unmet

met-tests : (class source shut cleared refuses permits : Bool) → by_tests class source shut cleared refuses permits ≡ Met →
    (class ≡ true) × ((source ≡ true) ⊎ ((cleared ≡ true) × (refuses ≡ false)))
met-tests false source shut cleared refuses permits h = cc
met-tests true true shut cleared refuses permits h = (refl, inl refl)
met-tests true false true cleared refuses permits h = cc
met-tests true false false true true permits h = cc
met-tests true false false true false permits h = (refl, inr (refl, refl))
met-tests true false false false refuses true h = cc
met-tests true false false false refuses false h = cc

unmet-tests : (class source shut cleared refuses permits : Bool) → by_tests class source shut cleared refuses permits ≡ Unmet →
    (class ≡ false) ⊎ ((source ≡ false) × ((shut ≡ true) ⊎ ((cleared ≡ false) × (permits ≡ false))))
unmet-tests false source shut cleared refuses permits h = inl refl
unmet-tests true true shut cleared refuses permits h = cc
unmet-tests true false true cleared refuses permits h = inr (refl, inl refl)
unmet-tests true false false true true permits h = cc
unmet-tests true false false true false permits h = cc
unmet-tests true false false false refuses true h = cc
unmet-tests true false false false refuses false h = inr (refl, inr (refl, refl))

-- a needle is never met by the sketch alone
never-met : (b m : Bool) (v : Judged) → (if b then (if m then looked_for v else Unmet) else Unmet) ≢ Met
never-met true true Met h = cc
never-met true true Unmet h = cc
never-met true true Unsure h = cc
never-met true false v h = cc
never-met false m v h = cc

module _ (k : Summary) (ls : List Line) (is : Summarises k ls) (c : Case) (s : Standing) where
  least-is : reader_least k.arranged k.least s ≡ least_for ls s
  least-is = λ i. reader_least (is.arranged i) (is.least i) s

  shown-met : judged_shown k (reach_of c.gates c.permissions s) s ≡ Met → is_listed ls c s ≡ true
  shown-met h =
      let least = reader_least k.arranged k.least s in
      let tests = met-tests k.classes s.source (reach_of c.gates c.permissions s).shut (is_cleared s least) (reach_of c.gates c.permissions s).refused (reach_of c.gates c.permissions s).permitted h in
      by_case (sym is.class ∙ tests.0) tests.1
    where
      by_case : has_some_class ls ≡ true → (s.source ≡ true) ⊎ ((is_cleared s (reader_least k.arranged k.least s) ≡ true) × ((reach_of c.gates c.permissions s).refused ≡ false)) → is_listed ls c s ≡ true
      by_case class (inl source) = source-shown ls c s source ∙ class
      by_case class (inr w) = within-shows ls c s (ap (is_cleared s) (sym least-is) ∙ w.0) w.1

  shown-unmet : judged_shown k (reach_of c.gates c.permissions s) s ≡ Unmet → is_listed ls c s ≡ false
  shown-unmet h =
      let least = reader_least k.arranged k.least s in
      by_case (unmet-tests k.classes s.source (reach_of c.gates c.permissions s).shut (is_cleared s least) (reach_of c.gates c.permissions s).refused (reach_of c.gates c.permissions s).permitted h)
    where
      by_case : (k.classes ≡ false) ⊎ ((s.source ≡ false) × (((reach_of c.gates c.permissions s).shut ≡ true) ⊎ ((is_cleared s (reader_least k.arranged k.least s) ≡ false) × ((reach_of c.gates c.permissions s).permitted ≡ false)))) →
          is_listed ls c s ≡ false
      by_case (inl none) = no-class-shown ls c s (sym is.class ∙ none)
      by_case (inr (other, inl shut)) = shut-hides ls c s other shut
      by_case (inr (other, inr w)) = above-hides ls c s other (ap (is_cleared s) (sym least-is) ∙ w.0) w.1

  found-words : (needle : Bytes) (class : Option Bytes) → finds ls c s needle class ≡ true → has_words k (Some needle) class ≡ true
  found-words needle class found =
      let some : 0 < length k.run_bits = let size = size-within (text_bytes (holdings ls)) (length k.run_bits) is.size in omega (arith, size.0) in
      let some_names : 0 < length k.name_bits = omega (arith, is.names) in
      kept-words (holds k.run_bits) (holds k.name_bits) (holdings ls) needle class (all-held k.run_bits (runs_in (holdings ls)) some is.run) (all-held k.name_bits (names_in (holdings ls)) some_names is.name)
      (found-held ls c s needle class found)

  found-shows : (needle : Bytes) (class : Option Bytes) → finds ls c s needle class ≡ true → may_show k (reach_of c.gates c.permissions s) s needle ≡ true
  found-shows needle class found = by_rights s.source (reach_of c.gates c.permissions s).permitted refl refl
    where
      by_rights : (a b : Bool) → s.source ≡ a → (reach_of c.gates c.permissions s).permitted ≡ b → may_show k (reach_of c.gates c.permissions s) s needle ≡ true
      by_rights true b source permitted = or_left s.source _ source
      by_rights false true source permitted = or_right s.source _ (or_left (reach_of c.gates c.permissions s).permitted _ permitted)
      by_rights false false source permitted =
          let some : 0 < length k.handled_bits = let size = size-within (text_bytes (holdings ls)) (length k.handled_bits) is.handled_size in omega (arith, size.0) in
          or_right s.source _ (or_right (reach_of c.gates c.permissions s).permitted _
          (kept-handled (cleared_for s) (holds k.handled_bits) (holdings ls) needle class (all-held k.handled_bits (handled_runs_in (holdings ls)) some is.handled)
          (found-cleared ls c s needle class source permitted found)))

  pub missing-words : (needle class : Option Bytes) → has_words k needle class ≡ false → meets_by needle class ls c s ≡ false
  missing-words None class h = absurd (true≢false h)
  missing-words (Some needle) class h = is_false (finds ls c s needle class) (λ found. false≢true (sym h ∙ found-words needle class found))

  pub by-met : (needle class : Option Bytes) → judged_by k (reach_of c.gates c.permissions s) s needle class ≡ Met → meets_by needle class ls c s ≡ true
  by-met None class h = shown-met h
  by-met (Some needle) class h =
      let r = reach_of c.gates c.permissions s in absurd (never-met (has_words k (Some needle) class) (may_show k r s needle) (judged_shown k r s) h)

  pub by-unmet : (needle class : Option Bytes) → judged_by k (reach_of c.gates c.permissions s) s needle class ≡ Unmet → meets_by needle class ls c s ≡ false
  by-unmet None class h = shown-unmet h
  by-unmet (Some needle) class h =
      let r = reach_of c.gates c.permissions s in by_words (has_words k (Some needle) class) (may_show k r s needle) (judged_shown k r s) refl refl refl h
    where
      by_words : (b m : Bool) (v : Judged) → has_words k (Some needle) class ≡ b → may_show k (reach_of c.gates c.permissions s) s needle ≡ m → judged_shown k (reach_of c.gates c.permissions s) s ≡ v →
          (if b then (if m then looked_for v else Unmet) else Unmet) ≡ Unmet → finds ls c s needle class ≡ false
      by_words false m v words shows shown h = missing-words (Some needle) class words
      by_words true false v words shows shown h = is_false (finds ls c s needle class) (λ found. false≢true (sym shows ∙ found-shows needle class found))
      by_words true true Met words shows shown h = cc
      by_words true true Unsure words shows shown h = cc
      by_words true true Unmet words shows shown h =
          is_false (finds ls c s needle class) (λ found. false≢true (sym (shown-unmet shown) ∙ found-listed ls c s needle class found))

-- ---- of a sketch

accepted : (o : Option Tokens) → o ≡ None → is_none o ≡ true
accepted o h = ap is_none h

unaccepted : (o : Option Tokens) → is_some o ≡ true → is_none o ≡ false
unaccepted None h = absurd (false≢true h)
unaccepted (Some p) h = refl

module _ (ls : List Line) (c : Case) (s : Standing) (needle class : Option Bytes) where
  -- the markings are accepted, and the want with these words is met
  abbrev is_met : Bool
  is_met = is_none (first_bad_marking (located ls)) && meets_by needle class ls c s

  kept-missing : (o : Option Summary) → IsKeptOf o ls → option_map_or (λ k. has_words k needle class) o false ≡ false → is_met ≡ false
  kept-missing None is h = ap (λ b. b && meets_by needle class ls c s) (unaccepted (first_bad_marking (located ls)) is)
  kept-missing (Some k) is h = and_right (is_none (first_bad_marking (located ls))) (meets_by needle class ls c s) (missing-words k ls is c s needle class h)

  kept-met : (o : Option Summary) → IsKeptOf o ls → option_map_or (λ k. judged_by k (reach_of c.gates c.permissions s) s needle class) o Unmet ≡ Met → is_met ≡ true
  kept-met None is h = cc
  kept-met (Some k) is h = ap (λ b. b && meets_by needle class ls c s) (accepted (first_bad_marking (located ls)) is.marked) ∙ by-met k ls is c s needle class h

  kept-unmet : (o : Option Summary) → IsKeptOf o ls → option_map_or (λ k. judged_by k (reach_of c.gates c.permissions s) s needle class) o Unmet ≡ Unmet → is_met ≡ false
  kept-unmet None is h = ap (λ b. b && meets_by needle class ls c s) (unaccepted (first_bad_marking (located ls)) is)
  kept-unmet (Some k) is h = and_right (is_none (first_bad_marking (located ls))) (meets_by needle class ls c s) (by-unmet k ls is c s needle class h)

pub sketch-missing : (k : Sketch) (ls : List Line) (c : Case) (s : Standing) (w : Want) {b : Bool} → b ≡ may_hold k w → IsSketchOf k ls → b ≡ false → meets_marked w ls c s ≡ false
sketch-missing k ls c s w is of missing = kept-missing ls c s (option_map string_bytes w.needle) (option_map string_bytes w.class) k.summary of (sym is ∙ missing)

pub sketch-met : (k : Sketch) (ls : List Line) (c : Case) (s : Standing) (w : Want) {v : Judged} → v ≡ judged k (reach_of c.gates c.permissions s) s w → IsSketchOf k ls → v ≡ Met → meets_marked w ls c s ≡ true
sketch-met k ls c s w is of met = kept-met ls c s (option_map string_bytes w.needle) (option_map string_bytes w.class) k.summary of (sym is ∙ met)

pub sketch-unmet : (k : Sketch) (ls : List Line) (c : Case) (s : Standing) (w : Want) {v : Judged} → v ≡ judged k (reach_of c.gates c.permissions s) s w → IsSketchOf k ls → v ≡ Unmet → meets_marked w ls c s ≡ false
sketch-unmet k ls c s w is of unmet = kept-unmet ls c s (option_map string_bytes w.needle) (option_map string_bytes w.class) k.summary of (sym is ∙ unmet)

-- ---- the laws of answers

pub short-runs : (base : ℕ) (needle : Bytes) → length needle < 3 → runs base needle ≡ []
short-runs base [] h = refl
short-runs base (a ∷ []) h = refl
short-runs base (a ∷ (b ∷ [])) h = refl
short-runs base (a ∷ (b ∷ (c ∷ t))) h = absurd (omega (arith, h))

pub looked-for : (k : Summary) (r : Reach) (s : Standing) (needle : Bytes) (class : Option Bytes) → judged_by k r s (Some needle) class ≢ Met
looked-for k r s needle class = never-met (has_words k (Some needle) class) (may_show k r s needle) (judged_shown k r s)

pub unaccepted-unmet : (k : Sketch) (ls : List Line) (r : Reach) (s : Standing) (w : Want) → IsSketchOf k ls → is_some (first_bad_marking (located ls)) ≡ true → judged k r s w ≡ Unmet
unaccepted-unmet k ls r s w is bad = kept k.summary is
  where
    kept : (o : Option Summary) → IsKeptOf o ls → option_map_or (λ (x : Summary). judged_by x r s (option_map string_bytes w.needle) (option_map string_bytes w.class)) o Unmet ≡ Unmet
    kept None is = refl
    kept (Some x) is = absurd (false≢true (sym (ap is_some is.marked) ∙ bad))

pub sketch-small : (k : Summary) (ls : List Line) → Summarises k ls →
    (64 ≤ length k.run_bits) × (length k.run_bits ≤ 65536) × (64 ≤ length k.handled_bits) × (length k.handled_bits ≤ 65536) × (length k.name_bits ≡ 32)
sketch-small k ls is =
    let size = size-within (text_bytes (holdings ls)) (length k.run_bits) is.size in
    let handled = size-within (text_bytes (holdings ls)) (length k.handled_bits) is.handled_size in (size.0, size.1, handled.0, handled.1, is.names)
