-- The words of a want. What a search finds is held by a class whose name is kept, in a text whose runs are kept.
use Rattle.std.proofs.Common.{◌≡◌, ℕ, List, [], ◌∷◌, Bool, true, false, cond, ◌&&◌, ◌||◌, ◌==◌, map, filter, refl, sym, ◌∙◌, ap, Option, Some, None}
use Rattle.std.{proofs.lemmas.{Bool.{and_parts, and_from, or_right, false≢true, eqb-true}, List.Folds.{list_any-append, list_all-append}}, specs.List.list_any}
use Rattle.{std.specs.{List.{list_all, flat_map}, Option.option_map_or}, iodef_tree.{proofs.Order.bytes_eq-true, specs.Paths.{LocatedLine, is_class, located}}}
use Rattle.{iodef_tree.specs.{Text.{Bytes, Tokens, same_path}, declared.line.Line.Line}, marking.specs.declared.label.Handling.{Handling, TheVariants.Clear}}
use Rattle.{marking.specs.declared.label.Handling.TheVariants.{Green, Amber, Strict, Red}, policy.{proofs.Sight.any-weaker, specs.Reach.reach_of}}
use Rattle.{policy.specs.{Verdict.is_visible, declared.{case.Case.Case, standing.Standing.Standing}}, redact.{proofs.Searching.any_map, specs.Told.begins_with}}
use Rattle.{redact.specs.Told.{has_needle, is_named, is_text_kind, is_hit, holds_needle, is_seen_class, finds}, sketch.proofs.Shown.visible-cleared}
use Rattle.sketch.specs.{Holdings.{HeldText, held_in, is_text_in, texts_at, held_by, holdings}, Judged.{cleared_for, every_handling}, Labels.handling_at}
use Rattle.sketch.specs.{Runs.{run_of, runs_from, runs_behind, runs, base_of, number_of}, Sketched.{runs_in, handled_runs_in, names_in}}

-- ---- the runs of a text that contains another

module _ (base : ℕ) (P : ℕ → Bool) where
  from-two : (a b : ℕ) (needle t : Bytes) → begins_with needle t ≡ true → list_all P (runs_from base a b t) ≡ true → list_all P (runs_from base a b needle) ≡ true
  from-two a b [] t h all = refl
  from-two a b (x ∷ needle) [] h all = absurd (false≢true h)
  from-two a b (x ∷ needle) (y ∷ t) h all =
      let two = and_parts (x == y) (begins_with needle t) h in
      let same = eqb-true x y two.0 in
      let here = and_parts (P (run_of base a b y)) (list_all P (runs_from base b y t)) all in
      and_from (P (run_of base a b x)) (list_all P (runs_from base b x needle)) (ap (λ z. P (run_of base a b z)) same ∙ here.0)
      (from-two b x needle t two.1 (ap (λ z. list_all P (runs_from base b z t)) same ∙ here.1))

  from-one : (a : ℕ) (needle t : Bytes) → begins_with needle t ≡ true → list_all P (runs_behind base a t) ≡ true → list_all P (runs_behind base a needle) ≡ true
  from-one a [] t h all = refl
  from-one a (x ∷ needle) [] h all = absurd (false≢true h)
  from-one a (x ∷ needle) (y ∷ t) h all =
      let two = and_parts (x == y) (begins_with needle t) h in
      from-two a x needle t two.1 (ap (λ z. list_all P (runs_from base a z t)) (eqb-true x y two.0) ∙ all)

  from-front : (needle t : Bytes) → begins_with needle t ≡ true → list_all P (runs base t) ≡ true → list_all P (runs base needle) ≡ true
  from-front [] t h all = refl
  from-front (x ∷ needle) [] h all = absurd (false≢true h)
  from-front (x ∷ needle) (y ∷ t) h all =
      let two = and_parts (x == y) (begins_with needle t) h in
      from-one x needle t two.1 (ap (λ z. list_all P (runs_behind base z t)) (eqb-true x y two.0) ∙ all)

  behind-first : (y : ℕ) (t : Bytes) → list_all P (runs base (y ∷ t)) ≡ true → list_all P (runs base t) ≡ true
  behind-first y [] all = refl
  behind-first y (b ∷ []) all = refl
  behind-first y (b ∷ (c ∷ t)) all = (and_parts (P (run_of base y b c)) (list_all P (runs_from base b c t)) all).1

  pub contained : (needle t : Bytes) → has_needle needle t ≡ true → list_all P (runs base t) ≡ true → list_all P (runs base needle) ≡ true
  contained needle [] h all = from-front needle [] h all
  contained needle (y ∷ t) h all = by_front (begins_with needle (y ∷ t)) refl (contained needle t) h
    where
      by_front : (b : Bool) → begins_with needle (y ∷ t) ≡ b → (has_needle needle t ≡ true → list_all P (runs base t) ≡ true → list_all P (runs base needle) ≡ true) →
          (b || has_needle needle t) ≡ true → list_all P (runs base needle) ≡ true
      by_front true is later k = from-front needle (y ∷ t) is all
      by_front false is later k = later k (behind-first y t all)

-- ---- what is found is held

any-flat : {X Y : Type 0} (Q : Y → Bool) (g : X → List Y) (xs : List X) → list_any Q (flat_map g xs) ≡ list_any (λ x. list_any Q (g x)) xs
any-flat Q g [] = refl
any-flat Q g (x ∷ xs) = list_any-append Q (g x) (flat_map g xs) ∙ ap (λ b. list_any Q (g x) || b) (any-flat Q g xs)

any-filter : {X : Type 0} (F T : X → Bool) (xs : List X) → list_any F (filter T xs) ≡ list_any (λ x. T x && F x) xs
any-filter F T [] = refl
any-filter {X} F T (x ∷ xs) = step (T x) (any-filter F T xs)
  where
    step : (b : Bool) → list_any F (filter T xs) ≡ list_any (λ (y : X). T y && F y) xs →
        list_any F (cond b (x ∷ filter T xs) (filter T xs)) ≡ ((b && F x) || list_any (λ (y : X). T y && F y) xs)
    step true later = ap (λ b. F x || b) later
    step false later = later

-- the text, held by a class, is what is looked for
abbrev pub is_wanted : Bytes → Option Bytes → HeldText → Bool
is_wanted needle name h = is_named name h.class && has_needle needle h.text

held-wanted : (es : List LocatedLine) (needle : Bytes) (name : Option Bytes) (n : Bytes) (h : Option Handling) (p : Tokens) → is_named name n ≡ true → holds_needle es needle p ≡ true →
    list_any (is_wanted needle name) (map (held_in n h) (texts_at es p)) ≡ true
held-wanted es needle name n h p named held =
    any_map (is_wanted needle name) (held_in n h) (texts_at es p)
    ∙ any_map (λ (t : Bytes). is_wanted needle name (held_in n h t)) (λ (e : LocatedLine). e.line.text) (filter (is_text_in p) es)
    ∙ any-filter (λ (e : LocatedLine). is_wanted needle name (held_in n h e.line.text)) (is_text_in p) es
    ∙ any-weaker (λ (e : LocatedLine). same_path e.parent p && is_hit needle e.line) (λ (e : LocatedLine). is_text_in p e && is_wanted needle name (held_in n h e.line.text))
    (λ e hit.
    let place = and_parts (same_path e.parent p) (is_hit needle e.line) hit in
    let text = and_parts (is_text_kind e.line.kind) (has_needle needle e.line.text) place.1 in
    and_from (is_text_in p e) (is_wanted needle name (held_in n h e.line.text)) (and_from (same_path e.parent p) (is_text_kind e.line.kind) place.0 text.0)
    (and_from (is_named name n) (has_needle needle e.line.text) named text.1)) es held

-- what is found is a text that is looked for, in a class whose handling passes a test that those of all visible classes pass
found-with : (K : Option Handling → Bool) (ls : List Line) (c : Case) (s : Standing) (needle : Bytes) (name : Option Bytes) →
    ((p : Tokens) → is_visible (located ls) c s p ≡ true → K (handling_at (located ls) p) ≡ true) → finds ls c s needle name ≡ true →
    list_any (λ (h : HeldText). K h.handling && is_wanted needle name h) (holdings ls) ≡ true
found-with K ls c s needle name passes found =
    let es = located ls in
    let Q : HeldText → Bool = λ (h : HeldText). K h.handling && is_wanted needle name h in
    any-flat Q (held_by es) es
    ∙ any-weaker (λ (e : LocatedLine). is_seen_class ls c s e && (is_named name e.line.name && holds_needle es needle e.path)) (λ (e : LocatedLine). list_any Q (held_by es e))
    (λ e h.
    let seen = and_parts (is_seen_class ls c s e) (is_named name e.line.name && holds_needle es needle e.path) h in
    let class = and_parts (is_class e) (is_visible es c s e.path) seen.0 in
    let words = and_parts (is_named name e.line.name) (holds_needle es needle e.path) seen.1 in
    let held = held_in e.line.name (handling_at es e.path) in
    let texts = texts_at es e.path in
    ap (λ b. list_any Q (cond b (map held texts) [])) class.0
    ∙ any_map Q held texts
    ∙ ap (λ b. list_any (λ (t : Bytes). b && is_wanted needle name (held t)) texts) (passes e.path class.1)
    ∙ sym (any_map (is_wanted needle name) held texts)
    ∙ held-wanted es needle name e.line.name (handling_at es e.path) e.path words.0 words.1) es found

pub found-held : (ls : List Line) (c : Case) (s : Standing) (needle : Bytes) (name : Option Bytes) → finds ls c s needle name ≡ true → list_any (is_wanted needle name) (holdings ls) ≡ true
found-held ls c s needle name found = found-with (λ h. true) ls c s needle name (λ p seen. refl) found

pub found-cleared : (ls : List Line) (c : Case) (s : Standing) (needle : Bytes) (name : Option Bytes) → s.source ≡ false → (reach_of c.gates c.permissions s).permitted ≡ false →
    finds ls c s needle name ≡ true → list_any (λ (h : HeldText). cleared_for s h.handling && is_wanted needle name h) (holdings ls) ≡ true
found-cleared ls c s needle name other none found = found-with (cleared_for s) ls c s needle name (visible-cleared ls c s other none) found

-- ---- what is held is kept

module _ (R N : ℕ → Bool) where
  kept-name : (name : Option Bytes) (class : Bytes) → is_named name class ≡ true → N (number_of class) ≡ true → option_map_or (λ n. N (number_of n)) name true ≡ true
  kept-name None class named kept = refl
  kept-name (Some n) class named kept = ap (λ x. N (number_of x)) (sym (bytes_eq-true class n named)) ∙ kept

  pub kept-words : (hs : List HeldText) (needle : Bytes) (name : Option Bytes) → list_all R (runs_in hs) ≡ true → list_all N (names_in hs) ≡ true → list_any (is_wanted needle name) hs ≡ true →
      (list_all R (runs 0 needle) && option_map_or (λ n. N (number_of n)) name true) ≡ true
  kept-words [] needle name all named found = absurd (false≢true found)
  kept-words (h ∷ hs) needle name all named found =
      let rs = and_parts (list_all R (runs 0 h.text)) (list_all R (runs_in hs)) (sym (list_all-append R (runs 0 h.text) (runs_in hs)) ∙ all) in
      let ns = and_parts (N (number_of h.class)) (list_all N (names_in hs)) named in
      by_first (is_wanted needle name h) refl rs.0 ns.0 (kept-words hs needle name rs.1 ns.1) found
    where
      by_first : (b : Bool) → is_wanted needle name h ≡ b → list_all R (runs 0 h.text) ≡ true → N (number_of h.class) ≡ true →
          (list_any (is_wanted needle name) hs ≡ true → (list_all R (runs 0 needle) && option_map_or (λ (n : Bytes). N (number_of n)) name true) ≡ true) →
          (b || list_any (is_wanted needle name) hs) ≡ true → (list_all R (runs 0 needle) && option_map_or (λ (n : Bytes). N (number_of n)) name true) ≡ true
      by_first true is rs ns later k =
          let two = and_parts (is_named name h.class) (has_needle needle h.text) is in
          and_from (list_all R (runs 0 needle)) (option_map_or (λ (n : Bytes). N (number_of n)) name true) (contained 0 R needle h.text two.1 rs) (kept-name name h.class two.0 ns)
      by_first false is rs ns later k = later k

-- ---- the runs with their handlings

among : (F : Option Handling → Bool) (h : Option Handling) → F h ≡ true → list_any F every_handling ≡ true
among F (Some Clear) is = rw is
among F (Some Green) is = or_right (F (Some Clear)) _ (rw is)
among F (Some Amber) is = or_right (F (Some Clear)) _ (or_right (F (Some Green)) _ (rw is))
among F (Some Strict) is = or_right (F (Some Clear)) _ (or_right (F (Some Green)) _ (or_right (F (Some Amber)) _ (rw is)))
among F (Some Red) is = or_right (F (Some Clear)) _ (or_right (F (Some Green)) _ (or_right (F (Some Amber)) _ (or_right (F (Some Strict)) _ (rw is))))
among F None is =
    or_right (F (Some Clear)) _ (or_right (F (Some Green)) _ (or_right (F (Some Amber)) _ (or_right (F (Some Strict)) _ (or_right (F (Some Red)) _ (rw is)))))

-- of a text in a class whose handling passes a test, the runs of what is looked for are kept with a handling that passes
pub kept-handled : (K : Option Handling → Bool) (R : ℕ → Bool) (hs : List HeldText) (needle : Bytes) (name : Option Bytes) → list_all R (handled_runs_in hs) ≡ true →
    list_any (λ (h : HeldText). K h.handling && is_wanted needle name h) hs ≡ true → list_any (λ h. K h && list_all R (runs (base_of h) needle)) every_handling ≡ true
kept-handled K R [] needle name all found = absurd (false≢true found)
kept-handled K R (h ∷ hs) needle name all found =
    let here = runs (base_of h.handling) h.text in
    let rs = and_parts (list_all R here) (list_all R (handled_runs_in hs)) (sym (list_all-append R here (handled_runs_in hs)) ∙ all) in
    by_first (K h.handling && is_wanted needle name h) refl rs.0 (kept-handled K R hs needle name rs.1) found
  where
    by_first : (b : Bool) → (K h.handling && is_wanted needle name h) ≡ b → list_all R (runs (base_of h.handling) h.text) ≡ true →
        (list_any (λ (x : HeldText). K x.handling && is_wanted needle name x) hs ≡ true → list_any (λ x. K x && list_all R (runs (base_of x) needle)) every_handling ≡ true) →
        (b || list_any (λ (x : HeldText). K x.handling && is_wanted needle name x) hs) ≡ true → list_any (λ x. K x && list_all R (runs (base_of x) needle)) every_handling ≡ true
    by_first true is kept later k =
        let two = and_parts (K h.handling) (is_wanted needle name h) is in
        let words = and_parts (is_named name h.class) (has_needle needle h.text) two.1 in
        among (λ x. K x && list_all R (runs (base_of x) needle)) h.handling
        (and_from (K h.handling) (list_all R (runs (base_of h.handling) needle)) two.0 (contained (base_of h.handling) R needle h.text words.1 kept))
    by_first false is kept later k = later k
