-- When two documents and two cases decide the same of the classes at some paths.
use Rattle.std.proofs.Common.{◌≡◌, Bool, true, false, not, List, [], ◌∷◌, ◌++◌, refl, sym, ◌∙◌, ap, subst, map, length, if◌then◌else◌, ◌&&◌, ◌||◌, reverse}
use Rattle.std.{proofs.{Common.cond, lemmas.Bool.{false≢true, and_left, and_parts, and_from, cond-false}}, specs.List.{AllByRecursion, flat_map}}
use Rattle.std.specs.{Option.{option_or, option_map_or}, Prelude.{Some, None, filter, find, nat_lt, is_some, is_none, codes, unwrap_or}, Str.bytes_eq}
use Rattle.iodef_tree.{proofs.Order.{bytes_eq-true, bytes_eq-refl}, specs.{Paths.{LocatedLine, is_class, has_class, below}, Text.{Bytes, Tokens, is_root}}}
use Rattle.{iodef_tree.specs.Text.{same_path, is_prefix, is_under, prefixes}, marking.specs.{Label.private, Marks.{Held, absent, held_by_line, is_member}}}
use Rattle.marking.specs.Marks.{held_at, restriction_at, ext_restriction_at, spelled_by, written_label, incident_path, has_default, own_label, has_own_label}
use Rattle.{marking.specs.Marks.{site_of, label_at}, policy.specs.{Permissions.{holds_for, is_unmarked_below, covers}, Verdict.{first_of, refusals_at}}}
use Rattle.policy.specs.{Verdict.{refusal_at, handling_for, is_cleared_for, is_covered, is_visible, hidden_by, hiding_rule}, declared.case.Case.Case}
use Rattle.{policy.specs.declared.{permission.Permission.Permission, standing.Standing.Standing}, redact.proofs.{AgreedVerdicts.Agree, Filtered.each}}
use Rattle.redact.proofs.{Filtered.{each-from, all-map, all-back, found-has, find-each, all-each, flat-each, any-each, any-both}, SameLines.same_flat}
use Rattle.redact.{proofs.SameLines.same_any, specs.{Alike.{class_path, by_class}, Told.{attributes_of, some_seen, verdicts_of}}}

-- ---- prefixes

pub prefix-trans : (p q r : Tokens) → is_prefix p q ≡ true → is_prefix q r ≡ true → is_prefix p r ≡ true
prefix-trans [] q r h k = refl
prefix-trans (a ∷ p) [] r h k = absurd (false≢true h)
prefix-trans (a ∷ p) (b ∷ q) [] h k = absurd (false≢true k)
prefix-trans (a ∷ p) (b ∷ q) (c ∷ r) h k =
    let x = and_parts (bytes_eq a b) (is_prefix p q) h in
    let y = and_parts (bytes_eq b c) (is_prefix q r) k in
    and_from (bytes_eq a c) (is_prefix p r) (subst (λ z. bytes_eq a z ≡ true) (bytes_eq-true b c y.0) x.0) (prefix-trans p q r x.1 y.1)

pub under-prefix : (q x : Tokens) → is_under q x ≡ true → is_prefix q x ≡ true
under-prefix [] x h = refl
under-prefix (a ∷ q) [] h = absurd (false≢true h)
under-prefix (a ∷ q) (b ∷ x) h = let k = and_parts (bytes_eq a b) (is_under q x) h in and_from (bytes_eq a b) (is_prefix q x) k.0 (under-prefix q x k.1)

pub prefixes-are : (x : Tokens) → AllByRecursion (λ r. is_prefix r x ≡ true) (prefixes x)
prefixes-are [] = (refl, tt)
prefixes-are (y ∷ x) = (
  refl,
  all-map (λ r. is_prefix r (y ∷ x) ≡ true) (λ r. y ∷ r) (prefixes x)
      (each-from (λ r. is_prefix r x ≡ true) (λ r. (bytes_eq y y && is_prefix r x) ≡ true) (λ r h. and_from (bytes_eq y y) (is_prefix r x) (bytes_eq-refl y) h) (prefixes x) (prefixes-are x)),
)

-- ---- labels, if classes and written labels agree

pub record Reads (off : Tokens → Bool) (es es' : List LocatedLine) : Type 0 where
  pub root : off [] ≡ true
  pub up : (x : Tokens) → off x ≡ true → AllByRecursion (λ r. off r ≡ true) (prefixes x)
  pub classes : (q : Tokens) → off q ≡ true → has_class es q ≡ has_class es' q
  pub written : (q : Tokens) → off q ≡ true → written_label es q ≡ written_label es' q

module _ (off : Tokens → Bool) (es es' : List LocatedLine) (w : Reads off es es') where
  own-same : (q : Tokens) → off q ≡ true → own_label es q ≡ own_label es' q
  own-same q h =
      ap (λ o. option_or o (if has_default es q then Some private else None)) (w.written q h)
      ∙ ap (λ b. option_or (written_label es' q) (if is_root q || (same_path q incident_path && b) then Some private else None)) (w.classes q h)

  site-same : (x : Tokens) → off x ≡ true → site_of es x ≡ site_of es' x
  site-same x h = ap (λ o. unwrap_or o []) (find-each (has_own_label es) (has_own_label es') (reverse (prefixes x))
      (each-from (λ r. off r ≡ true) (λ q. has_own_label es q ≡ has_own_label es' q) (λ q k. ap is_some (own-same q k)) (reverse (prefixes x)) (all-back (λ r. off r ≡ true) (prefixes x) (w.up x h))))

  site-off : (x : Tokens) → off x ≡ true → off (site_of es' x) ≡ true
  site-off x h = found-has (λ q. off q ≡ true) (has_own_label es') [] (reverse (prefixes x)) w.root (all-back (λ r. off r ≡ true) (prefixes x) (w.up x h))

  pub label-same : (x : Tokens) → off x ≡ true → label_at es x ≡ label_at es' x
  label-same x h = ap (λ q. unwrap_or (own_label es q) private) (site-same x h) ∙ ap (λ o. unwrap_or o private) (own-same (site_of es' x) (site-off x h))

  covers-same : (s : Standing) (x : Tokens) → off x ≡ true → (g : Permission) → covers es s x g ≡ covers es' s x g
  covers-same s x h g =
      let q = g.path in
      ap (λ b. holds_for s g && (is_prefix q x && b)) (all-each (is_unmarked_below es q) (is_unmarked_below es' q) (prefixes x)
      (each-from (λ r. off r ≡ true) (λ r. is_unmarked_below es q r ≡ is_unmarked_below es' q r)
      (λ r k. ap (λ o. not (nat_lt (length q) (length r) && is_some o)) (w.written r k)) (prefixes x) (w.up x h)))

  pub covered-same : (c : Case) (s : Standing) (x : Tokens) → off x ≡ true → is_covered es c s x ≡ is_covered es' c s x
  covered-same c s x h = any-each (covers es s x) (covers es' s x) c.permissions (covers-same s x h)

-- ---- verdicts, if refusals and permissions agree too

pub record Decides (off : Tokens → Bool) (s : Standing) (es es' : List LocatedLine) (c c' : Case) : Type 0 where
  pub reads : Reads off es es'
  pub refused : (q : Tokens) → off q ≡ true → refusals_at c s q ≡ refusals_at c' s q
  pub granted : (x : Tokens) → off x ≡ true → is_covered es' c s x ≡ is_covered es' c' s x

module _ (off : Tokens → Bool) (s : Standing) (es es' : List LocatedLine) (c c' : Case) (w : Decides off s es es' c c') where
  refusal-same : (x : Tokens) → off x ≡ true → refusal_at c s x ≡ refusal_at c' s x
  refusal-same x h = ap first_of (flat-each (refusals_at c s) (refusals_at c' s) (prefixes x)
      (each-from (λ r. off r ≡ true) (λ r. refusals_at c s r ≡ refusals_at c' s r) (λ r k. w.refused r k) (prefixes x) (w.reads.up x h)))

  visible-same : (x : Tokens) → off x ≡ true → is_visible es c s x ≡ is_visible es' c' s x
  visible-same x h =
      ap (λ r. s.source || (is_none r && (is_cleared_for s (label_at es x) || is_covered es c s x))) (refusal-same x h)
      ∙ ap (λ l. s.source || (is_none (refusal_at c' s x) && (is_cleared_for s l || is_covered es c s x))) (label-same off es es' w.reads x h)
      ∙ ap (λ b. s.source || (is_none (refusal_at c' s x) && (is_cleared_for s (label_at es' x) || b))) (covered-same off es es' w.reads c s x h ∙ w.granted x h)

  rule-same : (x : Tokens) → off x ≡ true → hiding_rule es c s x ≡ hiding_rule es' c' s x
  rule-same x h =
      ap (λ r. unwrap_or r (hidden_by (handling_for s (label_at es x)))) (refusal-same x h)
      ∙ ap (λ l. unwrap_or (refusal_at c' s x) (hidden_by (handling_for s l))) (label-same off es es' w.reads x h)

-- a visible class below a path, as one test of a line
abbrev below_seen : (Tokens → Bool) → Tokens → LocatedLine → Bool
below_seen visible q e = (is_class e && visible e.path) && is_under q e.path

below_seen-class : (visible : Tokens → Bool) (q : Tokens) (e : LocatedLine) → below_seen visible q (by_class e) ≡ below_seen visible q e
below_seen-class visible q e = by_kind (is_class e)
  where
    by_kind : (b : Bool) → ((b && visible (if b then e.path else e.parent)) && is_under q (if b then e.path else e.parent)) ≡ ((b && visible e.path) && is_under q e.path)
    by_kind true = refl
    by_kind false = refl

module _ (off : Tokens → Bool) (s : Standing) (keep : LocatedLine → Bool) (es es' : List LocatedLine) (c c' : Case)
    (lines : map by_class (filter keep es) ≡ map by_class (filter keep es'))
    (w : Decides off s es es' c c')
    (homes : AllByRecursion (λ e. keep e ≡ true → off (class_path e) ≡ true) es)
    (unseen : AllByRecursion (λ e. keep e ≡ false → (is_class e && is_visible es c s e.path) ≡ false) es)
    (unseen' : AllByRecursion (λ e. keep e ≡ false → (is_class e && is_visible es' c' s e.path) ≡ false) es') where
  abbrev vis : Tokens → Bool
  vis = is_visible es c s

  abbrev vis' : Tokens → Bool
  vis' = is_visible es' c' s

  below_seen-same : (q : Tokens) (e : LocatedLine) → off (class_path e) ≡ true → below_seen vis q e ≡ below_seen vis' q e
  below_seen-same q e h = by_kind (is_class e) h
    where
      by_kind : (b : Bool) → off (if b then e.path else e.parent) ≡ true → ((b && vis e.path) && is_under q e.path) ≡ ((b && vis' e.path) && is_under q e.path)
      by_kind true h = ap (λ b. b && is_under q e.path) (visible-same off s es es' c c' w e.path h)
      by_kind false h = refl

  below-same : (q : Tokens) → some_seen vis (below q es) ≡ some_seen vis' (below q es')
  below-same q =
      any-both (λ e. is_class e && vis e.path) (λ e. is_under q e.path) es
      ∙ same_any (below_seen vis q) (below_seen vis' q) keep es es' lines
      (each-from (λ e. keep e ≡ false → (is_class e && vis e.path) ≡ false) (λ e. keep e ≡ false → below_seen vis q e ≡ false) (λ e h k. and_left (is_class e && vis e.path) _ (h k)) es unseen)
      (each-from (λ e. keep e ≡ false → (is_class e && vis' e.path) ≡ false) (λ e. keep e ≡ false → below_seen vis' q e ≡ false) (λ e h k. and_left (is_class e && vis' e.path) _ (h k)) es' unseen')
      (below_seen-class vis' q)
      (each-from (λ e. keep e ≡ true → off (class_path e) ≡ true) (λ e. keep e ≡ true → below_seen vis q e ≡ below_seen vis' q e) (λ e h k. below_seen-same q e (h k)) es homes)
      ∙ sym (any-both (λ e. is_class e && vis' e.path) (λ e. is_under q e.path) es')

  pub verdicts-agree : Agree off (verdicts_of es c s) (verdicts_of es' c' s)
  verdicts-agree = record {
    visible = visible-same off s es es' c c' w;
    holds = λ p h. below-same p;
    unmarked = λ p h. ap is_none (w.reads.written p h);
    label = λ p h. ap attributes_of (label-same off es es' w.reads p h);
    rule = rule-same off s es es' c c' w;
  }

-- ---- whether there is a class at a path, and what is written in it

abbrev pub says : Tokens → Bytes → LocatedLine → List Held
says p name e = if is_member p name e then held_by_line e.line ∷ [] else []

pub held-says : (es : List LocatedLine) (p : Tokens) (name : Bytes) → held_at es p name ≡ unwrap_or (first_of (flat_map (says p name) es)) absent
held-says [] p name = refl
held-says (e ∷ es) p name = by_test (is_member p name e) (held-says es p name)
  where
    by_test : (b : Bool) → held_at es p name ≡ unwrap_or (first_of (flat_map (says p name) es)) absent →
        option_map_or (λ e. held_by_line e.line) (cond b (Some e) (find (is_member p name) es)) absent ≡ unwrap_or (first_of ((if b then held_by_line e.line ∷ [] else []) ++ flat_map (says p name) es)) absent
    by_test true ih = refl
    by_test false ih = ih

pub held-same : (keep : LocatedLine → Bool) (es es' : List LocatedLine) (p : Tokens) (name : Bytes) → map by_class (filter keep es) ≡ map by_class (filter keep es') →
    AllByRecursion (λ e. keep e ≡ false → is_member p name e ≡ false) es → AllByRecursion (λ e. keep e ≡ false → is_member p name e ≡ false) es' → held_at es p name ≡ held_at es' p name
held-same keep es es' p name lines none none' =
    held-says es p name
    ∙ ap (λ hs. unwrap_or (first_of hs) absent) (same_flat (says p name) (says p name) keep es es' lines
    (each-from (λ e. keep e ≡ false → is_member p name e ≡ false) (λ e. keep e ≡ false → says p name e ≡ []) (λ e h k. cond-false (is_member p name e) _ _ (h k)) es none)
    (each-from (λ e. keep e ≡ false → is_member p name e ≡ false) (λ e. keep e ≡ false → says p name e ≡ []) (λ e h k. cond-false (is_member p name e) _ _ (h k)) es' none')
    (λ e. refl) (each (λ e. keep e ≡ true → says p name e ≡ says p name e) (λ e k. refl) es))
    ∙ sym (held-says es' p name)

here-class : (p : Tokens) (e : LocatedLine) → (is_class (by_class e) && same_path (class_path e) p) ≡ (is_class e && same_path e.path p)
here-class p e = by_kind (is_class e)
  where
    by_kind : (b : Bool) → (b && same_path (if b then e.path else e.parent) p) ≡ (b && same_path e.path p)
    by_kind true = refl
    by_kind false = refl

pub classes-same : (keep : LocatedLine → Bool) (es es' : List LocatedLine) (p : Tokens) → map by_class (filter keep es) ≡ map by_class (filter keep es') →
    ((e : LocatedLine) → keep e ≡ false → (is_class e && same_path e.path p) ≡ false) → has_class es p ≡ has_class es' p
classes-same keep es es' p lines none =
    same_any (λ e. is_class e && same_path e.path p) (λ e. is_class e && same_path e.path p) keep es es' lines
    (each (λ e. keep e ≡ false → (is_class e && same_path e.path p) ≡ false) none es)
    (each (λ e. keep e ≡ false → (is_class e && same_path e.path p) ≡ false) none es')
    (here-class p) (each (λ e. keep e ≡ true → (is_class e && same_path e.path p) ≡ (is_class e && same_path e.path p)) (λ e k. refl) es)

pub written-same : (keep : LocatedLine → Bool) (es es' : List LocatedLine) (p : Tokens) → map by_class (filter keep es) ≡ map by_class (filter keep es') →
    has_class es p ≡ has_class es' p → ((name : Bytes) (e : LocatedLine) → keep e ≡ false → is_member p name e ≡ false) → written_label es p ≡ written_label es' p
written-same keep es es' p lines here none =
    ap (λ b. if b then spelled_by (restriction_at es p) (ext_restriction_at es p) else None) here
    ∙ ap (λ t. if has_class es' p then spelled_by t (ext_restriction_at es p) else None) (held-each (codes "restriction"))
    ∙ ap (λ t. if has_class es' p then spelled_by (restriction_at es' p) t else None) (held-each (codes "ext-restriction"))
  where
    held-each : (name : Bytes) → held_at es p name ≡ held_at es' p name
    held-each name = held-same keep es es' p name lines
        (each (λ e. keep e ≡ false → is_member p name e ≡ false) (none name) es)
        (each (λ e. keep e ≡ false → is_member p name e ≡ false) (none name) es')
