-- If all lines are well marked, so are those that matter.
use Rattle.std.proofs.{Common.{◌≡◌, Bool, true, false, cond, not, List, [], ◌∷◌, refl, sym, ◌∙◌, ap, map, if◌then◌else◌}, lemmas.Bool.{true≢false, not-false}}
use Rattle.std.{proofs.lemmas.Bool.{false_from_ne_true, and_left}, specs.{List.AllByRecursion, Option.option_map_or, Prelude.{filter, find, Some, None, codes}}}
use Rattle.iodef_tree.{proofs.Order.same_path-true, specs.{Paths.{LocatedLine, is_class, class_paths, located}, Text.{Bytes, Tokens, same_path}}}
use Rattle.{iodef_tree.specs.declared.line.Line.Line, marking.specs.Marks.{absent, held_by_line, is_member, held_at, is_rule_kept, is_well_marked}}
use Rattle.{marking.specs.Marks.{restriction_at, ext_restriction_at, first_bad_marking}, policy.specs.declared.{case.Case.Case, standing.Standing.Standing}}
use Rattle.redact.{proofs.{DecidedAlike.held-same, Filtered.each, Matters.{all_same, same_located}}, specs.Matters.{is_refused, matters, lines_that_matter}}

-- a class whose lines are taken out holds nothing
none-held : (f : LocatedLine → Bool) (es : List LocatedLine) (p : Tokens) (name : Bytes) → ((e : LocatedLine) → same_path e.parent p ≡ true → f e ≡ false) → held_at (filter f es) p name ≡ absent
none-held f [] p name h = refl
none-held f (e ∷ es) p name h = by_test (f e) refl (none-held f es p name h)
  where
    by_test : (t : Bool) → f e ≡ t → held_at (filter f es) p name ≡ absent → held_at (if t then e ∷ filter f es else filter f es) p name ≡ absent
    by_test true k ih =
        let other : is_member p name e ≡ false = and_left (same_path e.parent p) _ (false_from_ne_true (same_path e.parent p) (λ t. true≢false (sym k ∙ h e t))) in
        ap (λ t. option_map_or (λ (x : LocatedLine). held_by_line x.line) (cond t (Some e) (find (is_member p name) (filter f es))) absent) other ∙ ih
    by_test false k ih = ih

-- every class passes a test
abbrev AreWell : (Tokens → Bool) → List LocatedLine → Type 0
AreWell test es = AllByRecursion (λ (e : LocatedLine). is_class e ≡ true → test e.path ≡ true) es

well-found : (test : Tokens → Bool) (es : List LocatedLine) → find (λ p. not (test p)) (class_paths es) ≡ None → AreWell test es
well-found test [] h = tt
well-found test (e ∷ es) h = by_kind (is_class e) refl h (λ k. well-found test es k)
  where
    by_kind : (b : Bool) → is_class e ≡ b → find (λ p. not (test p)) (map (λ x. x.path) (if b then e ∷ filter is_class es else filter is_class es)) ≡ None →
        (find (λ p. not (test p)) (class_paths es) ≡ None → AreWell test es) → AreWell test (e ∷ es)
    by_kind false k h ih = (λ t. absurd (true≢false (sym t ∙ k)), ih h)
    by_kind true k h ih = by_well (test e.path) refl h
      where
        by_well : (w : Bool) → test e.path ≡ w → cond (not w) (Some e.path) (find (λ p. not (test p)) (class_paths es)) ≡ None → AreWell test (e ∷ es)
        by_well true y h = (λ t. y, ih h)
        by_well false y h = cc

found-well : (test : Tokens → Bool) (es : List LocatedLine) → AreWell test es → find (λ p. not (test p)) (class_paths es) ≡ None
found-well test [] h = refl
found-well test (e ∷ es) h = by_kind (is_class e) refl (found-well test es h.1)
  where
    by_kind : (b : Bool) → is_class e ≡ b → find (λ p. not (test p)) (class_paths es) ≡ None → find (λ p. not (test p)) (map (λ x. x.path) (if b then e ∷ filter is_class es else filter is_class es)) ≡ None
    by_kind true k ih = ap (λ w. cond (not w) (Some e.path) (find (λ p. not (test p)) (class_paths es))) (h.0 k) ∙ ih
    by_kind false k ih = ih

well-among : (test test' : Tokens → Bool) (f : LocatedLine → Bool) (es : List LocatedLine) → ((p : Tokens) → test p ≡ true → test' p ≡ true) → AreWell test es → AreWell test' (filter f es)
well-among test test' f [] h w = tt
well-among test test' f (e ∷ es) h w = by_test (f e) (well-among test test' f es h w.1)
  where
    by_test : (t : Bool) → AreWell test' (filter f es) → AreWell test' (if t then e ∷ filter f es else filter f es)
    by_test true ih = (λ k. h e.path (w.0 k), ih)
    by_test false ih = ih

module _ (ls : List Line) (c : Case) (s : Standing) where
  abbrev es : List LocatedLine
  es = located ls

  abbrev es' : List LocatedLine
  es' = filter (matters c s) es

  well-same : (p : Tokens) → is_well_marked es p ≡ true → is_well_marked es' p ≡ true
  well-same p h = by_gate (is_refused c s p) refl
    where
      none : is_refused c s p ≡ true → (e : LocatedLine) → same_path e.parent p ≡ true → matters c s e ≡ false
      none k e t = ap not (ap (is_refused c s) (same_path-true e.parent p t) ∙ k)

      member : is_refused c s p ≡ false → (name : Bytes) (e : LocatedLine) → matters c s e ≡ false → is_member p name e ≡ false
      member k name e gone = and_left (same_path e.parent p) _ (false_from_ne_true (same_path e.parent p) (λ t.
          true≢false (sym (not-false (is_refused c s e.parent) gone) ∙ ap (is_refused c s) (same_path-true e.parent p t) ∙ k)))

      held : is_refused c s p ≡ false → (name : Bytes) → held_at es p name ≡ held_at es' p name
      held k name = held-same (matters c s) es es' p name (all_same ls c s)
          (each (λ e. matters c s e ≡ false → is_member p name e ≡ false) (member k name) es)
          (each (λ e. matters c s e ≡ false → is_member p name e ≡ false) (member k name) es')

      by_gate : (t : Bool) → is_refused c s p ≡ t → is_well_marked es' p ≡ true
      by_gate true k =
          ap (λ r. is_rule_kept r (ext_restriction_at es' p)) (none-held (matters c s) es p (codes "restriction") (none k))
          ∙ ap (is_rule_kept absent) (none-held (matters c s) es p (codes "ext-restriction") (none k))
      by_gate false k =
          sym (ap (λ r. is_rule_kept r (ext_restriction_at es p)) (held k (codes "restriction"))
          ∙ ap (is_rule_kept (restriction_at es' p)) (held k (codes "ext-restriction")))
          ∙ h

  pub well-marked : first_bad_marking (located ls) ≡ None → first_bad_marking (located (lines_that_matter c s ls)) ≡ None
  well-marked h =
      ap first_bad_marking (same_located ls c s)
      ∙ found-well (is_well_marked es') es' (well-among (is_well_marked es) (is_well_marked es') (matters c s) es well-same (well-found (is_well_marked es) es h))
