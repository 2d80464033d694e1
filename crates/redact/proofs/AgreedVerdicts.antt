-- Verdicts that agree at some paths, and what the reader is then served.
use Rattle.std.proofs.Common.{◌≡◌, suc, Bool, true, false, not, List, [], ◌∷◌, ◌++◌, refl, sym, ◌∙◌, ap, map, if◌then◌else◌, ◌&&◌, ◌||◌}
use Rattle.std.{proofs.lemmas.Bool.{false≢true, true≢false, and_left, and_parts, or_parts, cond-true, cond-false}, specs.List.{AllByRecursion, flat_map}}
use Rattle.{std.specs.{List.{list_any, zip}, Prelude.{Option, filter, count_by, length}}, iodef_tree.{proofs.Order.same_path-true, specs.Paths.LocatedLine}}
use Rattle.iodef_tree.specs.{Paths.{is_class, is_class_kind, class_paths, classes_of}, Text.{Bytes, Tokens, is_root, same_path}, declared.line.Kind.Kind}
use Rattle.{iodef_tree.specs.declared.line.Line.Line, redact.proofs.{Filtered.{each, each-from}, Paired.pairs-paired, SameLines.{same_flat, same_marks}}}
use Rattle.redact.{proofs.SameLines.{same_any, marks, is_empty, any-marks, count-marks}, specs.{Alike.{class_path, by_class}, Kept.{Verdicts, is_frame}}}
use Rattle.redact.specs.Kept.{is_wholly_hidden, is_visible_class, is_kept, put_all, attribute_lines, added_label_lines, with_added_labels, kept_lines}
use Rattle.redact.specs.{Told.{is_text_kind, has_needle, is_named, is_hit}, Withheld.{told_at_place, withheld_at, withheld_pairs}, inner.Paired.class_places}
use Rattle.redact.specs.inner.Paired.{place_by}
use Rattle.iodef_tree.specs.declared.line.Kind.TheVariants as kind

pub record Agree (off : Tokens → Bool) (v v' : Verdicts) : Type 0 where
  pub visible : (p : Tokens) → off p ≡ true → v.visible p ≡ v'.visible p
  pub holds : (p : Tokens) → off p ≡ true → v.holds_visible p ≡ v'.holds_visible p
  pub unmarked : (p : Tokens) → off p ≡ true → v.unmarked p ≡ v'.unmarked p
  pub label : (p : Tokens) → off p ≡ true → v.label p ≡ v'.label p
  pub rule : (p : Tokens) → off p ≡ true → v.rule p ≡ v'.rule p

pub text_not_class : (k : Kind) → is_text_kind k ≡ true → is_class_kind k ≡ false
text_not_class kind.Class h = absurd (false≢true h)
text_not_class kind.Text h = refl
text_not_class kind.Value h = refl

-- ---- the kept outline: the kept lines, each with what is added in it

abbrev put_up : List (Line × List Line) → List Line
put_up [] = []
put_up (x ∷ xs) = x.0 ∷ put_all x.1 (put_up xs)

abbrev part : Verdicts → LocatedLine → List (Line × List Line)
part v e = if is_kept v e then (e.line, added_label_lines v e) ∷ [] else []

kept-parts : (v : Verdicts) (es : List LocatedLine) → kept_lines v es ≡ put_up (flat_map (part v) es)
kept-parts v [] = refl
kept-parts v (e ∷ es) = by_test (is_kept v e) (kept-parts v es)
  where
    by_test : (b : Bool) → kept_lines v es ≡ put_up (flat_map (part v) es) →
        with_added_labels v (if b then e ∷ filter (is_kept v) es else filter (is_kept v) es) ≡ put_up ((if b then (e.line, added_label_lines v e) ∷ [] else []) ++ flat_map (part v) es)
    by_test true ih = ap (λ xs. e.line ∷ put_all (added_label_lines v e) xs) ih
    by_test false ih = ih

-- a visible class
abbrev pub seen : Verdicts → LocatedLine → Bool
seen v e = is_class e && v.visible e.path

module _ (v : Verdicts) where
  is_kept-class : (e : LocatedLine) → is_kept v (by_class e) ≡ is_kept v e
  is_kept-class e = by_kind (is_class e)
    where
      by_kind : (b : Bool) →
          (if b then v.visible (if b then e.path else e.parent) || is_frame v (if b then e.path else e.parent) else is_root e.parent || v.visible e.parent)
          ≡ (if b then v.visible e.path || is_frame v e.path else is_root e.parent || v.visible e.parent)
      by_kind true = refl
      by_kind false = refl

  added-class : (e : LocatedLine) → added_label_lines v (by_class e) ≡ added_label_lines v e
  added-class e = by_kind (is_class e)
    where
      by_kind : (b : Bool) →
          (let q = (if b then e.path else e.parent) in if b && (v.visible q && (v.unmarked q && not (is_visible_class v e.parent))) then attribute_lines (suc e.line.depth) (v.label q) else [])
          ≡ (if b && (v.visible e.path && (v.unmarked e.path && not (is_visible_class v e.parent))) then attribute_lines (suc e.line.depth) (v.label e.path) else [])
      by_kind true = refl
      by_kind false = refl

  part-class : (e : LocatedLine) → part v (by_class e) ≡ part v e
  part-class e = ap (λ b. if b then (e.line, added_label_lines v (by_class e)) ∷ [] else []) (is_kept-class e) ∙ ap (λ xs. if is_kept v e then (e.line, xs) ∷ [] else []) (added-class e)

  pub seen-class : (e : LocatedLine) → seen v (by_class e) ≡ seen v e
  seen-class e = by_kind (is_class e)
    where
      by_kind : (b : Bool) → (b && v.visible (if b then e.path else e.parent)) ≡ (b && v.visible e.path)
      by_kind true = refl
      by_kind false = refl

module _ (off : Tokens → Bool) (v v' : Verdicts) (ok : Agree off v v') where
  seen-same : (e : LocatedLine) → off (class_path e) ≡ true → seen v e ≡ seen v' e
  seen-same e h = by_kind (is_class e) h
    where
      by_kind : (b : Bool) → off (if b then e.path else e.parent) ≡ true → (b && v.visible e.path) ≡ (b && v'.visible e.path)
      by_kind true h = ok.visible e.path h
      by_kind false h = refl

  pub frame-same : (p : Tokens) → off p ≡ true → is_frame v p ≡ is_frame v' p
  frame-same p h = ap (λ b. not b && v.holds_visible p) (ok.visible p h) ∙ ap (λ b. not (v'.visible p) && b) (ok.holds p h)

  pub kept-same : (e : LocatedLine) → off (class_path e) ≡ true → is_kept v e ≡ is_kept v' e
  kept-same e h = by_kind (is_class e) h
    where
      by_kind : (b : Bool) → off (if b then e.path else e.parent) ≡ true →
          (if b then v.visible e.path || is_frame v e.path else is_root e.parent || v.visible e.parent)
          ≡ (if b then v'.visible e.path || is_frame v' e.path else is_root e.parent || v'.visible e.parent)
      by_kind true h = ap (λ b. b || is_frame v e.path) (ok.visible e.path h) ∙ ap (λ b. v'.visible e.path || b) (frame-same e.path h)
      by_kind false h = ap (λ b. is_root e.parent || b) (ok.visible e.parent h)

  added-same : (e : LocatedLine) → off (class_path e) ≡ true → off e.parent ≡ true → added_label_lines v e ≡ added_label_lines v' e
  added-same e h k = by_kind (is_class e) h
    where
      by_kind : (b : Bool) → off (if b then e.path else e.parent) ≡ true →
          (if b && (v.visible e.path && (v.unmarked e.path && not (is_visible_class v e.parent))) then attribute_lines (suc e.line.depth) (v.label e.path) else [])
          ≡ (if b && (v'.visible e.path && (v'.unmarked e.path && not (is_visible_class v' e.parent))) then attribute_lines (suc e.line.depth) (v'.label e.path) else [])
      by_kind true h =
          ap (λ b. if b && (v.unmarked e.path && not (is_visible_class v e.parent)) then attribute_lines (suc e.line.depth) (v.label e.path) else []) (ok.visible e.path h)
          ∙ ap (λ b. if v'.visible e.path && (b && not (is_visible_class v e.parent)) then attribute_lines (suc e.line.depth) (v.label e.path) else []) (ok.unmarked e.path h)
          ∙ ap (λ b. if v'.visible e.path && (v'.unmarked e.path && not (not (is_root e.parent) && b)) then attribute_lines (suc e.line.depth) (v.label e.path) else []) (ok.visible e.parent k)
          ∙ ap (λ l. if v'.visible e.path && (v'.unmarked e.path && not (is_visible_class v' e.parent)) then attribute_lines (suc e.line.depth) l else []) (ok.label e.path h)
      by_kind false h = refl

  part-same : (e : LocatedLine) → off (class_path e) ≡ true → off e.parent ≡ true → part v e ≡ part v' e
  part-same e h k = ap (λ b. if b then (e.line, added_label_lines v e) ∷ [] else []) (kept-same e h) ∙ ap (λ xs. if is_kept v' e then (e.line, xs) ∷ [] else []) (added-same e h k)

-- a text of a visible class is kept
abbrev text_of : Bytes → Tokens → LocatedLine → Bool
text_of needle p e = same_path e.parent p && is_hit needle e.line

not_held : (v : Verdicts) (p : Tokens) (needle : Bytes) (e : LocatedLine) → v.visible p ≡ true → is_kept v e ≡ false → text_of needle p e ≡ false
not_held v p needle e sees gone = by_cases (same_path e.parent p) (is_text_kind e.line.kind) refl refl
  where
    by_cases : (u t : Bool) → same_path e.parent p ≡ u → is_text_kind e.line.kind ≡ t → (u && (t && has_needle needle e.line.text)) ≡ false
    by_cases true true b a =
        let plain : is_class e ≡ false = text_not_class e.line.kind a in
        let held : (is_root e.parent || v.visible e.parent) ≡ false = sym (cond-false (is_class e) _ _ plain) ∙ gone in
        absurd (false≢true (sym (or_parts (is_root e.parent) (v.visible e.parent) held).1 ∙ ap v.visible (same_path-true e.parent p b) ∙ sees))
    by_cases true false b a = refl
    by_cases false t b a = refl

-- two worlds, and the paths of the lines that are kept in neither
pub record Worlds : Type 0 where
  pub off : Tokens → Bool
  pub keep : LocatedLine → Bool
  pub v : Verdicts
  pub v' : Verdicts
  pub es : List LocatedLine
  pub es' : List LocatedLine
  pub agree : Agree off v v'
  pub lines : map by_class (filter keep es) ≡ map by_class (filter keep es')
  pub places : AllByRecursion (λ e. keep e ≡ true → (off (class_path e) ≡ true) × (off e.parent ≡ true)) es
  pub gone : AllByRecursion (λ e. keep e ≡ false → is_kept v e ≡ false) es
  pub gone' : AllByRecursion (λ e. keep e ≡ false → is_kept v' e ≡ false) es'

-- a line that isn't kept is no visible class
not_seen : (v : Verdicts) (e : LocatedLine) → is_kept v e ≡ false → seen v e ≡ false
not_seen v e h = by_kind (is_class e) h
  where
    by_kind : (b : Bool) → (if b then v.visible e.path || is_frame v e.path else is_root e.parent || v.visible e.parent) ≡ false → (b && v.visible e.path) ≡ false
    by_kind true h = (or_parts (v.visible e.path) (is_frame v e.path) h).0
    by_kind false h = refl

-- a class that is searched
abbrev pub searched : Verdicts → List LocatedLine → Bytes → Option Bytes → LocatedLine → Bool
searched v es needle name e = seen v e && (is_named name e.line.name && list_any (λ x. same_path x.parent e.path && is_hit needle x.line) es)

module _ (w : Worlds) where
  pub outline-same : kept_lines w.v w.es ≡ kept_lines w.v' w.es'
  outline-same =
      kept-parts w.v w.es
      ∙ ap put_up (same_flat (part w.v) (part w.v') w.keep w.es w.es' w.lines
      (each-from (λ e. w.keep e ≡ false → is_kept w.v e ≡ false) (λ e. w.keep e ≡ false → part w.v e ≡ []) (λ e h k. cond-false (is_kept w.v e) _ _ (h k)) w.es w.gone)
      (each-from (λ e. w.keep e ≡ false → is_kept w.v' e ≡ false) (λ e. w.keep e ≡ false → part w.v' e ≡ []) (λ e h k. cond-false (is_kept w.v' e) _ _ (h k)) w.es' w.gone')
      (part-class w.v')
      (each-from (λ e. w.keep e ≡ true → (w.off (class_path e) ≡ true) × (w.off e.parent ≡ true)) (λ e. w.keep e ≡ true → part w.v e ≡ part w.v' e)
      (λ e h k. part-same w.off w.v w.v' w.agree e (h k).0 (h k).1) w.es w.places))
      ∙ sym (kept-parts w.v' w.es')

  none_seen : AllByRecursion (λ e. w.keep e ≡ false → seen w.v e ≡ false) w.es
  none_seen = each-from (λ e. w.keep e ≡ false → is_kept w.v e ≡ false) (λ e. w.keep e ≡ false → seen w.v e ≡ false) (λ e h k. not_seen w.v e (h k)) w.es w.gone

  none_seen' : AllByRecursion (λ e. w.keep e ≡ false → seen w.v' e ≡ false) w.es'
  none_seen' = each-from (λ e. w.keep e ≡ false → is_kept w.v' e ≡ false) (λ e. w.keep e ≡ false → seen w.v' e ≡ false) (λ e h k. not_seen w.v' e (h k)) w.es' w.gone'

  seen_marks : flat_map (marks (seen w.v)) w.es ≡ flat_map (marks (seen w.v')) w.es'
  seen_marks = same_marks (seen w.v) (seen w.v') w.keep w.es w.es' w.lines none_seen none_seen' (seen-class w.v')
      (each-from (λ e. w.keep e ≡ true → (w.off (class_path e) ≡ true) × (w.off e.parent ≡ true)) (λ e. w.keep e ≡ true → seen w.v e ≡ seen w.v' e)
      (λ e h k. seen-same w.off w.v w.v' w.agree e (h k).0) w.es w.places)

  pub count-same : count_by (seen w.v) w.es ≡ count_by (seen w.v') w.es'
  count-same = count-marks (seen w.v) w.es ∙ ap length seen_marks ∙ sym (count-marks (seen w.v') w.es')

  pub listed-same : list_any (seen w.v) w.es ≡ list_any (seen w.v') w.es'
  listed-same = any-marks (seen w.v) w.es ∙ ap (λ xs. not (is_empty xs)) seen_marks ∙ sym (any-marks (seen w.v') w.es')

  holds-same : (needle : Bytes) (p : Tokens) → w.v.visible p ≡ true → w.v'.visible p ≡ true → list_any (text_of needle p) w.es ≡ list_any (text_of needle p) w.es'
  holds-same needle p sees sees' =
      same_any (text_of needle p) (text_of needle p) w.keep w.es w.es' w.lines
      (each-from (λ e. w.keep e ≡ false → is_kept w.v e ≡ false) (λ e. w.keep e ≡ false → text_of needle p e ≡ false) (λ e h k. not_held w.v p needle e sees (h k)) w.es w.gone)
      (each-from (λ e. w.keep e ≡ false → is_kept w.v' e ≡ false) (λ e. w.keep e ≡ false → text_of needle p e ≡ false) (λ e h k. not_held w.v' p needle e sees' (h k)) w.es' w.gone')
      (λ e. refl) (each (λ e. w.keep e ≡ true → text_of needle p e ≡ text_of needle p e) (λ e k. refl) w.es)

  searched-same : (needle : Bytes) (name : Option Bytes) (e : LocatedLine) → w.off (class_path e) ≡ true → searched w.v w.es needle name e ≡ searched w.v' w.es' needle name e
  searched-same needle name e h = by_seen (seen w.v e) (seen w.v' e) refl refl (seen-same w.off w.v w.v' w.agree e h)
    where
      by_seen : (b b' : Bool) → seen w.v e ≡ b → seen w.v' e ≡ b' → seen w.v e ≡ seen w.v' e →
          (b && (is_named name e.line.name && list_any (text_of needle e.path) w.es)) ≡ (b' && (is_named name e.line.name && list_any (text_of needle e.path) w.es'))
      by_seen true true a a' same =
          ap (λ x. is_named name e.line.name && x) (holds-same needle e.path (and_parts (is_class e) (w.v.visible e.path) a).1 (and_parts (is_class e) (w.v'.visible e.path) a').1)
      by_seen true false a a' same = absurd (true≢false (sym a ∙ same ∙ a'))
      by_seen false true a a' same = absurd (false≢true (sym a ∙ same ∙ a'))
      by_seen false false a a' same = refl

  searched-class : (v : Verdicts) (es : List LocatedLine) (needle : Bytes) (name : Option Bytes) (e : LocatedLine) → searched v es needle name (by_class e) ≡ searched v es needle name e
  searched-class v es needle name e = by_kind (is_class e)
    where
      by_kind : (b : Bool) → ((b && v.visible (if b then e.path else e.parent)) && (is_named name e.line.name && list_any (text_of needle (if b then e.path else e.parent)) es))
          ≡ ((b && v.visible e.path) && (is_named name e.line.name && list_any (text_of needle e.path) es))
      by_kind true = refl
      by_kind false = refl

  pub found-same : (needle : Bytes) (name : Option Bytes) → list_any (searched w.v w.es needle name) w.es ≡ list_any (searched w.v' w.es' needle name) w.es'
  found-same needle name =
      same_any (searched w.v w.es needle name) (searched w.v' w.es' needle name) w.keep w.es w.es' w.lines
      (each-from (λ e. w.keep e ≡ false → seen w.v e ≡ false) (λ e. w.keep e ≡ false → searched w.v w.es needle name e ≡ false) (λ e h k. and_left (seen w.v e) _ (h k)) w.es none_seen)
      (each-from (λ e. w.keep e ≡ false → seen w.v' e ≡ false) (λ e. w.keep e ≡ false → searched w.v' w.es' needle name e ≡ false) (λ e h k. and_left (seen w.v' e) _ (h k)) w.es' none_seen')
      (searched-class w.v' w.es' needle name)
      (each-from (λ e. w.keep e ≡ true → (w.off (class_path e) ≡ true) × (w.off e.parent ≡ true)) (λ e. w.keep e ≡ true → searched w.v w.es needle name e ≡ searched w.v' w.es' needle name e)
      (λ e h k. searched-same needle name e (h k).0) w.es w.places)

-- ---- what is withheld, if the verdicts agree everywhere and no class line differs

abbrev pub spots : (LocatedLine → Bool) → LocatedLine → List Tokens
spots f e = if is_class e && f e then e.path ∷ [] else []

pub paths-spots : (f : LocatedLine → Bool) (es : List LocatedLine) → class_paths (filter f es) ≡ flat_map (spots f) es
paths-spots f [] = refl
paths-spots f (e ∷ es) = by_test (f e) (is_class e) refl (paths-spots f es)
  where
    by_test : (b t : Bool) → is_class e ≡ t → class_paths (filter f es) ≡ flat_map (spots f) es →
        class_paths (if b then e ∷ filter f es else filter f es) ≡ (if t && b then e.path ∷ [] else []) ++ flat_map (spots f) es
    by_test true true k ih = ap (λ t. map (λ x. x.path) (if t then e ∷ filter is_class (filter f es) else filter is_class (filter f es))) k ∙ ap (λ xs. e.path ∷ xs) ih
    by_test true false k ih = ap (λ t. map (λ x. x.path) (if t then e ∷ filter is_class (filter f es) else filter is_class (filter f es))) k ∙ ih
    by_test false true k ih = ih
    by_test false false k ih = ih

pub spots-class : (v : Verdicts) (e : LocatedLine) → spots (is_kept v) (by_class e) ≡ spots (is_kept v) e
spots-class v e = by_kind (is_class e)
  where
    by_kind : (b : Bool) → (let q = (if b then e.path else e.parent) in if b && (if b then v.visible q || is_frame v q else is_root e.parent || v.visible e.parent) then q ∷ [] else [])
        ≡ (if b && (if b then v.visible e.path || is_frame v e.path else is_root e.parent || v.visible e.parent) then e.path ∷ [] else [])
    by_kind true = refl
    by_kind false = refl

withheld-class : (v : Verdicts) (at : Tokens → Option Tokens) (e : LocatedLine) → withheld_at v at (by_class e) ≡ withheld_at v at e
withheld-class v at e = by_kind (is_class e)
  where
    by_kind : (b : Bool) → (let q = (if b then e.path else e.parent) in
        if not b then [] else if is_frame v q then told_at_place (at q) (v.rule q) else if is_wholly_hidden v q && not (is_wholly_hidden v e.parent) then told_at_place (at e.parent) (v.rule q) else [])
        ≡ (if not b then [] else if is_frame v e.path then told_at_place (at e.path) (v.rule e.path) else if is_wholly_hidden v e.path && not (is_wholly_hidden v e.parent) then told_at_place (at e.parent) (v.rule e.path) else [])
    by_kind true = refl
    by_kind false = refl

module _ (w : Worlds) (all : (p : Tokens) → w.off p ≡ true) (plain : (e : LocatedLine) → w.keep e ≡ false → is_class e ≡ false) where
  places-same : class_places w.v w.es ≡ class_places w.v' w.es'
  places-same =
      ap (λ xs. zip xs (classes_of (kept_lines w.v w.es)))
      (paths-spots (is_kept w.v) w.es
      ∙ same_flat (spots (is_kept w.v)) (spots (is_kept w.v')) w.keep w.es w.es' w.lines
      (each (λ e. w.keep e ≡ false → spots (is_kept w.v) e ≡ []) (λ e k. cond-false (is_class e && is_kept w.v e) _ _ (and_left (is_class e) (is_kept w.v e) (plain e k))) w.es)
      (each (λ e. w.keep e ≡ false → spots (is_kept w.v') e ≡ []) (λ e k. cond-false (is_class e && is_kept w.v' e) _ _ (and_left (is_class e) (is_kept w.v' e) (plain e k))) w.es')
      (spots-class w.v')
      (each (λ e. w.keep e ≡ true → spots (is_kept w.v) e ≡ spots (is_kept w.v') e) (λ e k. ap (λ b. if is_class e && b then e.path ∷ [] else []) (kept-same w.off w.v w.v' w.agree e (all (class_path e)))) w.es)
      ∙ sym (paths-spots (is_kept w.v') w.es'))
      ∙ ap (λ ls. zip (class_paths (filter (is_kept w.v') w.es')) (classes_of ls)) (outline-same w)

  told-same : (at : Tokens → Option Tokens) (e : LocatedLine) → withheld_at w.v at e ≡ withheld_at w.v' at e
  told-same at e =
      let hide : (p : Tokens) → is_wholly_hidden w.v p ≡ is_wholly_hidden w.v' p =
      λ p. ap (λ b. not (is_root p) && (not b && not (w.v.holds_visible p))) (w.agree.visible p (all p))
      ∙ ap (λ b. not (is_root p) && (not (w.v'.visible p) && not b)) (w.agree.holds p (all p)) in
      let q = e.path in
      let n = not (is_class e) in
      ap (λ r. if n then [] else if is_frame w.v q then told_at_place (at q) r else if is_wholly_hidden w.v q && not (is_wholly_hidden w.v e.parent) then told_at_place (at e.parent) r else []) (w.agree.rule q (all q))
      ∙ ap (λ b. if n then [] else if b then told_at_place (at q) (w.v'.rule q) else if is_wholly_hidden w.v q && not (is_wholly_hidden w.v e.parent) then told_at_place (at e.parent) (w.v'.rule q) else []) (frame-same w.off w.v w.v' w.agree q (all q))
      ∙ ap (λ b. if n then [] else if is_frame w.v' q then told_at_place (at q) (w.v'.rule q) else if b && not (is_wholly_hidden w.v e.parent) then told_at_place (at e.parent) (w.v'.rule q) else []) (hide q)
      ∙ ap (λ b. if n then [] else if is_frame w.v' q then told_at_place (at q) (w.v'.rule q) else if is_wholly_hidden w.v' q && not b then told_at_place (at e.parent) (w.v'.rule q) else []) (hide e.parent)

  pub pairs-same : withheld_pairs w.v w.es ≡ withheld_pairs w.v' w.es'
  pairs-same =
      let at = place_by (class_places w.v' w.es') in
      pairs-paired w.v w.es
      ∙ ap (λ ps. flat_map (withheld_at w.v (place_by ps)) w.es) places-same
      ∙ same_flat (withheld_at w.v at) (withheld_at w.v' at) w.keep w.es w.es' w.lines
      (each (λ e. w.keep e ≡ false → withheld_at w.v at e ≡ []) (λ e k. cond-true (not (is_class e)) _ _ (ap not (plain e k))) w.es)
      (each (λ e. w.keep e ≡ false → withheld_at w.v' at e ≡ []) (λ e k. cond-true (not (is_class e)) _ _ (ap not (plain e k))) w.es')
      (withheld-class w.v' at)
      (each (λ e. w.keep e ≡ true → withheld_at w.v at e ≡ withheld_at w.v' at e) (λ e k. told-same at e) w.es)
      ∙ sym (pairs-paired w.v' w.es')
