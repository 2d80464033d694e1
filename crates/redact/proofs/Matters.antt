-- A reader is served the same of the lines that matter as of all lines. No class at which a gate refuses is visible,
-- nor is one below it, and its own line gives all that is listed of it. These are the steps that exchange a wholly
-- hidden class, at all such classes at once.
use Rattle.std.proofs.{Common.{◌≡◌, Bool, true, false, not, List, [], ◌∷◌, refl, sym, ◌∙◌, ap, map, if◌then◌else◌, ◌&&◌, ◌||◌}, lemmas.Bool.false≢true}
use Rattle.std.proofs.lemmas.Bool.{true≢false, not-false, not-true, false_from_ne_true, and_left, and_right, and_parts, and_from, or_from, cond-true}
use Rattle.std.{proofs.lemmas.Bool.cond-false, specs.{List.{list_any, flat_map, zip}, Prelude.{filter, Option, Some, None, is_some, unwrap_or, count_by}}}
use Rattle.iodef_tree.{proofs.{Blocks.below-parents, Order.same_path-true}, specs.Paths.{LocatedLine, is_class, class_paths, classes_of, located, has_class}}
use Rattle.iodef_tree.specs.{Paths.below, Text.{Tokens, is_root, same_path, is_prefix, is_under, prefixes}, declared.line.Line.Line}
use Rattle.{marking.specs.Marks.{label_at, written_label}, policy.specs.Verdict.{refusal_at, handling_for, hidden_by, is_visible, hiding_rule}}
use Rattle.{policy.specs.declared.{case.Case.Case, rule.Rule.Rule, standing.Standing.Standing}, redact.proofs.AgreedVerdicts.{Agree, Worlds, seen}}
use Rattle.redact.proofs.{AgreedVerdicts.{outline-same, count-same, listed-same, kept-same, frame-same, spots, paths-spots, spots-class}, DecidedAlike.Decides}
use Rattle.redact.proofs.{DecidedAlike.{verdicts-agree, written-same, classes-same, under-prefix, prefixes-are}, Filtered.{each, each-from, any-none, any-both}}
use Rattle.redact.proofs.{Filtered.{filter-passing, filter-within}, Paired.pairs-paired, Refused.{said, refused-prefix, passed-above, refused-unseen}}
use Rattle.redact.{proofs.{SameLines.{same_flat, flat-kept, flat-agree}, SameLocated.located-kept}, specs.{Alike.{class_path, by_class}, Kept.Verdicts}}
use Rattle.redact.specs.{Kept.{is_frame, is_wholly_hidden, is_kept, kept_lines}, Matters.{is_refused, matters, lines_that_matter}, Told.{Told, some_seen}}
use Rattle.redact.specs.{Told.{verdicts_of, excerpt_of}, Withheld.{told_at_place, withheld_at, withheld_pairs, withheld_in_order}, inner.Paired.class_places}
use Rattle.redact.specs.inner.Paired.{place_by}

some-or : (o : Option Rule) (x y : Rule) → is_some o ≡ true → unwrap_or o x ≡ unwrap_or o y
some-or None x y h = absurd (false≢true h)
some-or (Some r) x y h = refl

-- what is served of these lines
abbrev told_of_lines : List LocatedLine → Case → Standing → Option Told
told_of_lines es c s =
    let v = verdicts_of es c s in
    if list_any (seen v) es then Some (record { outline = kept_lines v es; withheld = withheld_in_order (withheld_pairs v es); classes = count_by (seen v) es }) else None

module _ (ls : List Line) (c : Case) (s : Standing) where
  abbrev pub es : List LocatedLine
  es = located ls

  abbrev pub es' : List LocatedLine
  es' = filter (matters c s) es

  abbrev pub v : Verdicts
  v = verdicts_of es c s

  abbrev pub v' : Verdicts
  v' = verdicts_of es' c s

  abbrev pub off : Tokens → Bool
  off p = not (is_refused c s p)

  abbrev keep : LocatedLine → Bool
  keep e = off (class_path e)

  -- a line below a path at which a gate refuses is of a class at which one refuses
  inward : (e : LocatedLine) → is_under e.parent e.path ≡ true → matters c s e ≡ false → keep e ≡ false
  inward e under h = by_kind (is_class e)
    where
      parent : is_refused c s e.parent ≡ true
      parent = not-false (is_refused c s e.parent) h

      by_kind : (t : Bool) → off (if t then e.path else e.parent) ≡ false
      by_kind true = ap not (refused-prefix c s e.parent e.path (under-prefix e.parent e.path under) parent)
      by_kind false = ap not parent

  same_lines : map by_class (filter keep es) ≡ map by_class (filter keep es')
  same_lines = ap (map by_class) (filter-passing keep (matters c s) es
      (each-from (λ e. is_under e.parent e.path ≡ true) (λ e. matters c s e ≡ false → keep e ≡ false) inward es (below-parents ls)))

  pub all_same : map by_class (filter (matters c s) es) ≡ map by_class (filter (matters c s) es')
  all_same = ap (map by_class) (filter-within (matters c s) (matters c s) es (λ e k. k))

  off-classes : (q : Tokens) → off q ≡ true → has_class es q ≡ has_class es' q
  off-classes q k = classes-same keep es es' q same_lines (λ e gone. false_from_ne_true (is_class e && same_path e.path q) (λ t.
      let parts = and_parts (is_class e) (same_path e.path q) t in
      let here : class_path e ≡ q = cond-true (is_class e) e.path e.parent parts.0 ∙ same_path-true e.path q parts.1 in
      true≢false (sym k ∙ ap off (sym here) ∙ gone)))

  off-written : (q : Tokens) → off q ≡ true → written_label es q ≡ written_label es' q
  off-written q k = written-same (matters c s) es es' q all_same (off-classes q k) (λ name e gone. and_left (same_path e.parent q) _ (false_from_ne_true (same_path e.parent q) (λ t.
      true≢false (sym k ∙ ap off (sym (same_path-true e.parent q t)) ∙ gone))))

  pub decides : Decides off s es es' c c
  decides = record {
    reads = record {
      root = refl;
      up = λ x k. each-from (λ r. is_prefix r x ≡ true) (λ r. off r ≡ true) (λ r below. ap not (passed-above c s r x below (not-true (is_refused c s x) k))) (prefixes x) (prefixes-are x);
      classes = off-classes;
      written = off-written;
    };
    refused = λ q k. refl;
    granted = λ x k. refl;
  }

  unseen : (xs : List LocatedLine) (e : LocatedLine) → keep e ≡ false → (is_class e && is_visible xs c s e.path) ≡ false
  unseen xs e h = by_kind (is_class e) h
    where
      by_kind : (t : Bool) → off (if t then e.path else e.parent) ≡ false → (t && is_visible xs c s e.path) ≡ false
      by_kind true h = refused-unseen c s xs e.path (not-false (is_refused c s e.path) h)
      by_kind false h = refl

  pub agree : Agree off v v'
  agree = verdicts-agree off s keep es es' c c same_lines decides
      (each (λ e. keep e ≡ true → off (class_path e) ≡ true) (λ e k. k) es)
      (each (λ e. keep e ≡ false → (is_class e && is_visible es c s e.path) ≡ false) (unseen es) es)
      (each (λ e. keep e ≡ false → (is_class e && is_visible es' c s e.path) ≡ false) (unseen es') es')

  -- nothing visible is below a path at which a gate refuses
  none-below : (xs : List LocatedLine) (q : Tokens) → is_refused c s q ≡ true → some_seen (is_visible xs c s) (below q xs) ≡ false
  none-below xs q h =
      any-both (λ e. is_class e && is_visible xs c s e.path) (λ e. is_under q e.path) xs
      ∙ any-none (λ e. (is_class e && is_visible xs c s e.path) && is_under q e.path) xs
      (each (λ e. ((is_class e && is_visible xs c s e.path) && is_under q e.path) ≡ false) one xs)
    where
      one : (e : LocatedLine) → ((is_class e && is_visible xs c s e.path) && is_under q e.path) ≡ false
      one e = false_from_ne_true ((is_class e && is_visible xs c s e.path) && is_under q e.path) (λ t.
          let first = and_parts (is_class e && is_visible xs c s e.path) (is_under q e.path) t in
          let second = and_parts (is_class e) (is_visible xs c s e.path) first.0 in
          false≢true (sym (refused-unseen c s xs e.path (refused-prefix c s q e.path (under-prefix q e.path first.1) h)) ∙ second.1))

  gone-line : (xs : List LocatedLine) (e : LocatedLine) → keep e ≡ false → is_kept (verdicts_of xs c s) e ≡ false
  gone-line xs e h = by_kind (is_class e) h
    where
      w : Verdicts
      w = verdicts_of xs c s

      by_kind : (t : Bool) → off (if t then e.path else e.parent) ≡ false → (if t then w.visible e.path || is_frame w e.path else is_root e.parent || w.visible e.parent) ≡ false
      by_kind true h =
          let k = not-false (is_refused c s e.path) h in
          or_from (w.visible e.path) (is_frame w e.path) (refused-unseen c s xs e.path k) (and_right (not (w.visible e.path)) (w.holds_visible e.path) (none-below xs e.path k))
      by_kind false h =
          let k = not-false (is_refused c s e.parent) h in
          or_from (is_root e.parent) (w.visible e.parent) (said c s e.parent k).deep (refused-unseen c s xs e.parent k)

  off-parent : (e : LocatedLine) → is_under e.parent e.path ≡ true → keep e ≡ true → (off (class_path e) ≡ true) × (off e.parent ≡ true)
  off-parent e under k = (k, by_kind (is_class e) k)
    where
      by_kind : (t : Bool) → off (if t then e.path else e.parent) ≡ true → off e.parent ≡ true
      by_kind true i = ap not (passed-above c s e.parent e.path (under-prefix e.parent e.path under) (not-true (is_refused c s e.path) i))
      by_kind false i = i

  abbrev worlds : Worlds
  worlds = record {
    off = off;
    keep = keep;
    v = v;
    v' = v';
    es = es;
    es' = es';
    agree = agree;
    lines = same_lines;
    places = each-from (λ e. is_under e.parent e.path ≡ true) (λ e. keep e ≡ true → (off (class_path e) ≡ true) × (off e.parent ≡ true)) off-parent es (below-parents ls);
    gone = each (λ e. keep e ≡ false → is_kept v e ≡ false) (gone-line es) es;
    gone' = each (λ e. keep e ≡ false → is_kept v' e ≡ false) (gone-line es') es';
  }

  -- ---- what is withheld

  -- a class at which a gate refuses is wholly hidden
  refused-hidden : (xs : List LocatedLine) (p : Tokens) → is_refused c s p ≡ true → is_wholly_hidden (verdicts_of xs c s) p ≡ true
  refused-hidden xs p k =
      and_from (not (is_root p)) _ (ap not (said c s p k).deep)
      (and_from (not (is_visible xs c s p)) _ (ap not (refused-unseen c s xs p k)) (ap not (none-below xs p k)))

  refused-frame : (xs : List LocatedLine) (p : Tokens) → is_refused c s p ≡ true → is_frame (verdicts_of xs c s) p ≡ false
  refused-frame xs p k = and_right (not (is_visible xs c s p)) _ (none-below xs p k)

  hidden-same : (p : Tokens) → is_wholly_hidden v p ≡ is_wholly_hidden v' p
  hidden-same p = by_gate (is_refused c s p) refl
    where
      by_gate : (t : Bool) → is_refused c s p ≡ t → is_wholly_hidden v p ≡ is_wholly_hidden v' p
      by_gate true k = refused-hidden es p k ∙ sym (refused-hidden es' p k)
      by_gate false k =
          ap (λ b. not (is_root p) && (not b && not (v.holds_visible p))) (agree.visible p (ap not k))
          ∙ ap (λ b. not (is_root p) && (not (v'.visible p) && not b)) (agree.holds p (ap not k))

  frames-same : (p : Tokens) → is_frame v p ≡ is_frame v' p
  frames-same p = by_gate (is_refused c s p) refl
    where
      by_gate : (t : Bool) → is_refused c s p ≡ t → is_frame v p ≡ is_frame v' p
      by_gate true k = refused-frame es p k ∙ sym (refused-frame es' p k)
      by_gate false k = frame-same off v v' agree p (ap not k)

  rules-same : (p : Tokens) → v.rule p ≡ v'.rule p
  rules-same p = by_gate (is_refused c s p) refl
    where
      by_gate : (t : Bool) → is_refused c s p ≡ t → hiding_rule es c s p ≡ hiding_rule es' c s p
      by_gate true k = some-or (refusal_at c s p) (hidden_by (handling_for s (label_at es p))) (hidden_by (handling_for s (label_at es' p))) (said c s p k).refusal
      by_gate false k = agree.rule p (ap not k)

  told-same : (at : Tokens → Option Tokens) (e : LocatedLine) → withheld_at v at e ≡ withheld_at v' at e
  told-same at e =
      let q = e.path in
      let n = not (is_class e) in
      ap (λ r. if n then [] else if is_frame v q then told_at_place (at q) r else if is_wholly_hidden v q && not (is_wholly_hidden v e.parent) then told_at_place (at e.parent) r else []) (rules-same q)
      ∙ ap (λ b. if n then [] else if b then told_at_place (at q) (v'.rule q) else if is_wholly_hidden v q && not (is_wholly_hidden v e.parent) then told_at_place (at e.parent) (v'.rule q) else []) (frames-same q)
      ∙ ap (λ b. if n then [] else if is_frame v' q then told_at_place (at q) (v'.rule q) else if b && not (is_wholly_hidden v e.parent) then told_at_place (at e.parent) (v'.rule q) else []) (hidden-same q)
      ∙ ap (λ b. if n then [] else if is_frame v' q then told_at_place (at q) (v'.rule q) else if is_wholly_hidden v' q && not b then told_at_place (at e.parent) (v'.rule q) else []) (hidden-same e.parent)

  -- a line that doesn't matter lists nothing
  none-told : (at : Tokens → Option Tokens) (e : LocatedLine) → is_under e.parent e.path ≡ true → matters c s e ≡ false → withheld_at v at e ≡ []
  none-told at e under h = by_kind (is_class e)
    where
      parent : is_refused c s e.parent ≡ true
      parent = not-false (is_refused c s e.parent) h

      path : is_refused c s e.path ≡ true
      path = refused-prefix c s e.parent e.path (under-prefix e.parent e.path under) parent

      by_kind : (t : Bool) → (if not t then [] else if is_frame v e.path then told_at_place (at e.path) (v.rule e.path)
          else if is_wholly_hidden v e.path && not (is_wholly_hidden v e.parent) then told_at_place (at e.parent) (v.rule e.path) else []) ≡ []
      by_kind true =
          cond-false (is_frame v e.path) _ _ (refused-frame es e.path path)
          ∙ cond-false (is_wholly_hidden v e.path && not (is_wholly_hidden v e.parent)) _ _ (and_right (is_wholly_hidden v e.path) _ (ap not (refused-hidden es e.parent parent)))
      by_kind false = refl

  kept-class : (e : LocatedLine) → keep e ≡ true → spots (is_kept v) e ≡ spots (is_kept v') e
  kept-class e k = ap (λ b. if is_class e && b then e.path ∷ [] else []) (kept-same off v v' agree e k)

  pub places-same : class_places v es ≡ class_places v' es'
  places-same =
      ap (λ xs. zip xs (classes_of (kept_lines v es)))
      (paths-spots (is_kept v) es
      ∙ same_flat (spots (is_kept v)) (spots (is_kept v')) keep es es' same_lines
      (each (λ e. keep e ≡ false → spots (is_kept v) e ≡ []) (λ e k. cond-false (is_class e && is_kept v e) _ _ (and_right (is_class e) (is_kept v e) (gone-line es e k))) es)
      (each (λ e. keep e ≡ false → spots (is_kept v') e ≡ []) (λ e k. cond-false (is_class e && is_kept v' e) _ _ (and_right (is_class e) (is_kept v' e) (gone-line es' e k))) es')
      (spots-class v')
      (each (λ e. keep e ≡ true → spots (is_kept v) e ≡ spots (is_kept v') e) kept-class es)
      ∙ sym (paths-spots (is_kept v') es'))
      ∙ ap (λ xs. zip (class_paths (filter (is_kept v') es')) (classes_of xs)) (outline-same worlds)

  pairs-same : withheld_pairs v es ≡ withheld_pairs v' es'
  pairs-same =
      let at = place_by (class_places v' es') in
      pairs-paired v es
      ∙ ap (λ ps. flat_map (withheld_at v (place_by ps)) es) places-same
      ∙ sym (flat-kept (withheld_at v at) (matters c s) es
      (each-from (λ e. is_under e.parent e.path ≡ true) (λ e. matters c s e ≡ false → withheld_at v at e ≡ []) (none-told at) es (below-parents ls)))
      ∙ flat-agree (withheld_at v at) (withheld_at v' at) (matters c s) es
      (each (λ e. matters c s e ≡ true → withheld_at v at e ≡ withheld_at v' at e) (λ e k. told-same at e) es)
      ∙ sym (pairs-paired v' es')

  lines-told : told_of_lines es c s ≡ told_of_lines es' c s
  lines-told =
      ap (λ b. if b then Some (record { outline = kept_lines v es; withheld = withheld_in_order (withheld_pairs v es); classes = count_by (seen v) es }) else None) (listed-same worlds)
      ∙ ap (λ o. if list_any (seen v') es' then Some (record { outline = o; withheld = withheld_in_order (withheld_pairs v es); classes = count_by (seen v) es }) else None) (outline-same worlds)
      ∙ ap (λ ps. if list_any (seen v') es' then Some (record { outline = kept_lines v' es'; withheld = withheld_in_order ps; classes = count_by (seen v) es }) else None) pairs-same
      ∙ ap (λ n. if list_any (seen v') es' then Some (record { outline = kept_lines v' es'; withheld = withheld_in_order (withheld_pairs v' es'); classes = n }) else None) (count-same worlds)

  pub same_located : located (lines_that_matter c s ls) ≡ es'
  same_located = located-kept (is_refused c s) refl (passed-above c s) ls

  pub excerpt-same : excerpt_of ls c s ≡ excerpt_of (lines_that_matter c s ls) c s
  excerpt-same = lines-told ∙ sym (ap (λ xs. told_of_lines xs c s) same_located)
