-- The three steps between two reports. A reader is served the same on both sides of each.
use Rattle.std.proofs.Common.{◌≡◌, Bool, true, false, not, List, [], ◌∷◌, refl, sym, ◌∙◌, ap, subst, map, if◌then◌else◌, ◌&&◌, ◌||◌, inl, inr}
use Rattle.std.proofs.lemmas.Bool.{false≢true, true≢false, not-false, not-true, false_from_ne_true, and_left, and_right, and_parts, and_from, or_from}
use Rattle.std.{proofs.lemmas.Bool.{cond-true, cond-false}, specs.{List.{AllByRecursion, list_any, filter_map}, Prelude.{filter, Option, Some, None}}}
use Rattle.iodef_tree.{proofs.{Blocks.below-parents, ByPath.has_class-root, Nearest.nearest-located, Order.same_path-true}, specs.Laws.IsNearestClass}
use Rattle.iodef_tree.specs.{Laws.IsDocument, Paths.{LocatedLine, is_class, located, has_class, below}, Text.{Bytes, Tokens, is_root, same_path, is_prefix}}
use Rattle.{iodef_tree.specs.{Text.{is_under, prefixes}, Tree.lines, declared.line.Line.Line}, marking.specs.Marks.written_label}
use Rattle.policy.specs.{Gates.refusal_of_gate, Permissions.{holds_for, covers}, Verdict.{refusals_at, is_covered, is_visible}, declared.case.Case.Case}
use Rattle.{policy.specs.declared.{gate.Gate.Gate, permission.Permission.Permission, standing.Standing.Standing}, redact.proofs.AgreedVerdicts.{Agree, Worlds}}
use Rattle.redact.proofs.{AgreedVerdicts.{outline-same, count-same, listed-same, found-same, pairs-same}, DecidedAlike.{Decides, verdicts-agree, written-same}}
use Rattle.redact.proofs.{DecidedAlike.{classes-same, prefix-trans, under-prefix, prefixes-are}, Filtered.{each, each-from, any-kept, any-none, none-any}}
use Rattle.redact.{proofs.{Filtered.{any-both, filter-within}, LabelsStay.labels-stay}, specs.Alike.{Report, class_path, by_class, IsToldAlike, is_plain_of}}
use Rattle.redact.specs.{Alike.{is_within, is_hidden_from, HasOtherPermissions, HasOtherPlainLines, HasOtherHiddenClass, IsAlikeStep, IsMarked}, Kept.Verdicts}
use Rattle.redact.specs.{Kept.{is_frame, is_kept}, Told.{some_seen, verdicts_of, kept_outline, withheld_of, visible_count, is_listed, told_of, excerpt_of}}
use Rattle.redact.specs.{Told.finds, Wants.meets_by, Withheld.withheld_in_order}

-- what is served is the same if each part is
told-same : (s : Standing) (a b : Report) → kept_outline a.lines a.case s ≡ kept_outline b.lines b.case s → withheld_of a.lines a.case s ≡ withheld_of b.lines b.case s →
    visible_count a.lines a.case s ≡ visible_count b.lines b.case s → told_of a.lines a.case s ≡ told_of b.lines b.case s
told-same s a b o w n = λ i. record { outline = o i; withheld = w i; classes = n i }

excerpt-same : (s : Standing) (a b : Report) → is_listed a.lines a.case s ≡ is_listed b.lines b.case s → told_of a.lines a.case s ≡ told_of b.lines b.case s →
    excerpt_of a.lines a.case s ≡ excerpt_of b.lines b.case s
excerpt-same s a b listed told = λ i. if listed i then Some (told i) else None

met-same : (s : Standing) (a b : Report) → is_listed a.lines a.case s ≡ is_listed b.lines b.case s →
    ((needle : Bytes) (name : Option Bytes) → finds a.lines a.case s needle name ≡ finds b.lines b.case s needle name) →
    (needle class : Option Bytes) → meets_by needle class a.lines a.case s ≡ meets_by needle class b.lines b.case s
met-same s a b listed found None class = listed
met-same s a b listed found (Some needle) class = found needle class

-- each line is in the root or in a class
abbrev HasParents : List LocatedLine → List LocatedLine → Type 0
HasParents es xs = AllByRecursion (λ e. (is_root e.parent || has_class es e.parent) ≡ true) xs

parents-of : (ls : List Line) → IsDocument ls → HasParents (located ls) (located ls)
parents-of ls d = subst (λ xs. HasParents (located xs) (located xs)) (sym d.2)
    (each-from (λ e. IsNearestClass (located (lines 1 d.0)) e.path e.parent) (λ e. (is_root e.parent || has_class (located (lines 1 d.0)) e.parent) ≡ true) (λ e h. h.stands) (located (lines 1 d.0)) (nearest-located d.0 d.1))

module _ (s : Standing) (a b : Report) (da : IsMarked a.lines) (db : IsMarked b.lines) where
  abbrev es : List LocatedLine
  es = located a.lines

  abbrev es' : List LocatedLine
  es' = located b.lines

  abbrev v : Verdicts
  v = verdicts_of es a.case s

  abbrev v' : Verdicts
  v' = verdicts_of es' b.case s

  told-by : kept_outline a.lines a.case s ≡ kept_outline b.lines b.case s → withheld_of a.lines a.case s ≡ withheld_of b.lines b.case s →
      visible_count a.lines a.case s ≡ visible_count b.lines b.case s → is_listed a.lines a.case s ≡ is_listed b.lines b.case s →
      ((needle : Bytes) (name : Option Bytes) → finds a.lines a.case s needle name ≡ finds b.lines b.case s needle name) → IsToldAlike s a b
  told-by outline withheld count listed found =
      let told = told-same s a b outline withheld count in
      record { excerpt = excerpt-same s a b listed told; told = told; met = met-same s a b listed found }

  -- ---- other permissions
  module _ (h : HasOtherPermissions s a b) where
    -- a permission that covers holds for the reader
    covered-for : (xs : List LocatedLine) (p : Tokens) (c : Case) → is_covered xs c s p ≡ list_any (covers xs s p) (filter (holds_for s) c.permissions)
    covered-for xs p c = any-kept (covers xs s p) (holds_for s) c.permissions (λ x k. and_left (holds_for s x) _ k)

    same_lines : es ≡ es'
    same_lines = ap located h.lines

    abbrev permissions_world : Worlds
    permissions_world = record {
      off = λ p. true;
      keep = λ e. true;
      v = v;
      v' = v';
      es = es;
      es' = es';
      agree = verdicts-agree (λ p. true) s (λ e. true) es es' a.case b.case (ap (λ xs. map by_class (filter (λ e. true) xs)) same_lines)
          (record {
            reads = record {
              root = refl;
              up = λ x k. each (λ r. true ≡ true) (λ r. refl) (prefixes x);
              classes = λ q k. ap (λ xs. has_class xs q) same_lines;
              written = λ q k. ap (λ xs. written_label xs q) same_lines;
            };
            refused = λ q k. ap (λ gs. filter_map (refusal_of_gate s) (filter (λ g. same_path g.path q) gs)) h.gates;
            granted = λ x k. covered-for es' x a.case ∙ ap (λ xs. list_any (covers es' s x) xs) h.permissions ∙ sym (covered-for es' x b.case);
          })
          (each (λ e. true ≡ true → true ≡ true) (λ e k. refl) es)
          (each (λ e. true ≡ false → (is_class e && is_visible es a.case s e.path) ≡ false) (λ e k. absurd (true≢false k)) es)
          (each (λ e. true ≡ false → (is_class e && is_visible es' b.case s e.path) ≡ false) (λ e k. absurd (true≢false k)) es');
      lines = ap (λ xs. map by_class (filter (λ e. true) xs)) same_lines;
      places = each (λ e. true ≡ true → (true ≡ true) × (true ≡ true)) (λ e k. (refl, refl)) es;
      gone = each (λ e. true ≡ false → is_kept v e ≡ false) (λ e k. absurd (true≢false k)) es;
      gone' = each (λ e. true ≡ false → is_kept v' e ≡ false) (λ e k. absurd (true≢false k)) es';
    }

    permissions-told : IsToldAlike s a b
    permissions-told = told-by (outline-same permissions_world) (ap withheld_in_order (pairs-same permissions_world (λ p. refl) (λ e k. absurd (true≢false k)))) (count-same permissions_world) (listed-same permissions_world) (found-same permissions_world)

  -- ---- other plain lines
  module _ (p : Tokens) (h : HasOtherPlainLines s p a b) where
    abbrev keep_others : LocatedLine → Bool
    keep_others e = not (is_plain_of p e)

    no_root : is_root p ≡ false
    no_root = by_path p h.class
      where
        by_path : (q : Tokens) → has_class es q ≡ true → is_root q ≡ false
        by_path [] k = absurd (false≢true (sym (has_class-root a.lines) ∙ k))
        by_path (x ∷ q) k = refl

    in_p : (e : LocatedLine) → keep_others e ≡ false → (is_class e ≡ false) × (e.parent ≡ p)
    in_p e k =
        let parts = and_parts (not (is_class e)) (same_path e.parent p) (not-false (is_plain_of p e) k) in
        (not-true (is_class e) parts.0, same_path-true e.parent p parts.1)

    classes-all : (q : Tokens) → has_class es q ≡ has_class es' q
    classes-all q = classes-same keep_others es es' q h.others (λ e k. and_left (is_class e) _ (in_p e k).0)

    written-all : (q : Tokens) → written_label es q ≡ written_label es' q
    written-all q = by_path (same_path p q) refl
      where
        by_path : (t : Bool) → same_path p q ≡ t → written_label es q ≡ written_label es' q
        by_path true k = subst (λ r. written_label es r ≡ written_label es' r) (same_path-true p q k) h.label
        by_path false k = written-same keep_others es es' q h.others (classes-all q) (λ name e gone. and_left (same_path e.parent q) _ (ap (λ r. same_path r q) (in_p e gone).1 ∙ k))

    plain_agree : Agree (λ q. true) v v'
    plain_agree = verdicts-agree (λ q. true) s keep_others es es' a.case b.case h.others
        (record {
          reads = record {
            root = refl;
            up = λ x k. each (λ r. true ≡ true) (λ r. refl) (prefixes x);
            classes = λ q k. classes-all q;
            written = λ q k. written-all q;
          };
          refused = λ q k. ap (λ c. refusals_at c s q) h.case;
          granted = λ x k. ap (λ c. is_covered es' c s x) h.case;
        })
        (each (λ e. keep_others e ≡ true → true ≡ true) (λ e k. refl) es)
        (each (λ e. keep_others e ≡ false → (is_class e && is_visible es a.case s e.path) ≡ false) (λ e k. and_left (is_class e) _ (in_p e k).0) es)
        (each (λ e. keep_others e ≡ false → (is_class e && is_visible es' b.case s e.path) ≡ false) (λ e k. and_left (is_class e) _ (in_p e k).0) es')

    plain-gone : (w : Verdicts) → w.visible p ≡ false → (e : LocatedLine) → keep_others e ≡ false → is_kept w e ≡ false
    plain-gone w unseen e k =
        cond-false (is_class e) _ _ (in_p e k).0
        ∙ or_from (is_root e.parent) (w.visible e.parent) (ap is_root (in_p e k).1 ∙ no_root) (ap w.visible (in_p e k).1 ∙ unseen)

    abbrev plain_world : Worlds
    plain_world = record {
      off = λ q. true;
      keep = keep_others;
      v = v;
      v' = v';
      es = es;
      es' = es';
      agree = plain_agree;
      lines = h.others;
      places = each (λ e. keep_others e ≡ true → (true ≡ true) × (true ≡ true)) (λ e k. (refl, refl)) es;
      gone = each (λ e. keep_others e ≡ false → is_kept v e ≡ false) (plain-gone v h.unseen) es;
      gone' = each (λ e. keep_others e ≡ false → is_kept v' e ≡ false) (plain-gone v' (sym (plain_agree.visible p refl) ∙ h.unseen)) es';
    }

    plain-told : IsToldAlike s a b
    plain-told = told-by (outline-same plain_world) (ap withheld_in_order (pairs-same plain_world (λ q. refl) (λ e k. (in_p e k).0))) (count-same plain_world) (listed-same plain_world) (found-same plain_world)

  -- ---- another hidden class
  module _ (p : Tokens) (h : HasOtherHiddenClass s p a b) where
    abbrev off : Tokens → Bool
    off q = not (is_prefix p q)

    abbrev keep_apart : LocatedLine → Bool
    keep_apart e = not (is_within p e)

    prefix-deep : (q : Tokens) → is_prefix p q ≡ true → is_root q ≡ false
    prefix-deep q k = by_paths p q h.below_root k
      where
        by_paths : (r q : Tokens) → is_root r ≡ false → is_prefix r q ≡ true → is_root q ≡ false
        by_paths [] q n k = absurd (true≢false n)
        by_paths (x ∷ r) [] n k = absurd (false≢true k)
        by_paths (x ∷ r) (y ∷ q) n k = refl

    off-up : (r x : Tokens) → off x ≡ true → is_prefix r x ≡ true → off r ≡ true
    off-up r x k below = ap not (false_from_ne_true (is_prefix p r) (λ t. false≢true (sym (not-true (is_prefix p x) k) ∙ prefix-trans p r x t below)))

    off-classes : (q : Tokens) → off q ≡ true → has_class es q ≡ has_class es' q
    off-classes q k = classes-same keep_apart es es' q h.others.lines (λ e gone. false_from_ne_true (is_class e && same_path e.path q) (λ t.
        let parts = and_parts (is_class e) (same_path e.path q) t in
        let here : class_path e ≡ q = cond-true (is_class e) e.path e.parent parts.0 ∙ same_path-true e.path q parts.1 in
        false≢true (sym (not-true (is_prefix p q) k) ∙ ap (is_prefix p) (sym here) ∙ not-false (is_within p e) gone)))

    off-written : (q : Tokens) → off q ≡ true → written_label es q ≡ written_label es' q
    off-written q k = labels-stay a.lines b.lines p q da.document db.document da.marked db.marked h.others.lines (not-true (is_prefix p q) k)

    off-refused : (q : Tokens) → off q ≡ true → refusals_at a.case s q ≡ refusals_at b.case s q
    off-refused q k =
        let no : (g : Gate) → not (is_prefix p g.path) ≡ false → same_path g.path q ≡ false = λ g gone.
        false_from_ne_true (same_path g.path q) (λ t. false≢true (sym (not-true (is_prefix p q) k) ∙ ap (is_prefix p) (sym (same_path-true g.path q t)) ∙ not-false (is_prefix p g.path) gone)) in
        let f : Gate → Bool = λ g. same_path g.path q in
        let o : Gate → Bool = λ g. not (is_prefix p g.path) in
        ap (filter_map (refusal_of_gate s)) (filter-within f o a.case.gates no ∙ ap (filter f) h.others.gates ∙ sym (filter-within f o b.case.gates no))

    off-granted : (xs : List LocatedLine) (x : Tokens) → off x ≡ true → is_covered xs a.case s x ≡ is_covered xs b.case s x
    off-granted xs x k =
        let no : (g : Permission) → not (is_prefix p g.path) ≡ false → covers xs s x g ≡ false = λ g gone.
        false_from_ne_true (covers xs s x g) (λ t.
        let one = and_parts (holds_for s g) _ t in
        let two = and_parts (is_prefix g.path x) _ one.1 in
        false≢true (sym (not-true (is_prefix p x) k) ∙ prefix-trans p g.path x (not-false (is_prefix p g.path) gone) two.0)) in
        let o : Permission → Bool = λ g. not (is_prefix p g.path) in
        any-kept (covers xs s x) o a.case.permissions no
        ∙ ap (list_any (covers xs s x)) h.others.permissions
        ∙ sym (any-kept (covers xs s x) o b.case.permissions no)

    hidden_decides : Decides off s es es' a.case b.case
    hidden_decides = record {
      reads = record {
        root = ap not (false_from_ne_true (is_prefix p []) (λ t. true≢false (prefix-deep [] t)));
        up = λ x k. each-from (λ r. is_prefix r x ≡ true) (λ r. off r ≡ true) (λ r below. off-up r x k below) (prefixes x) (prefixes-are x);
        classes = off-classes;
        written = off-written;
      };
      refused = off-refused;
      granted = off-granted es';
    }

    -- no class of these lines at p or below it is visible
    abbrev AreHidden : (Tokens → Bool) → List LocatedLine → Type 0
    AreHidden visible xs = AllByRecursion (λ e. ((is_class e && visible e.path) && is_prefix p e.path) ≡ false) xs

    hidden-of : (r : Report) → is_hidden_from s p r ≡ true → AreHidden (is_visible (located r.lines) r.case s) (located r.lines)
    hidden-of r k = none-any (λ e. (is_class e && is_visible (located r.lines) r.case s e.path) && is_prefix p e.path) (located r.lines)
        (sym (any-both (λ e. is_class e && is_visible (located r.lines) r.case s e.path) (λ e. is_prefix p e.path) (located r.lines))
        ∙ not-true (some_seen (is_visible (located r.lines) r.case s) (filter (λ e. is_prefix p e.path) (located r.lines))) k)

    -- no line at p or below it belongs to a visible class
    abbrev AreUnseen : (Tokens → Bool) → List LocatedLine → Type 0
    AreUnseen visible xs = AllByRecursion (λ e. (is_within p e && visible (class_path e)) ≡ false) xs

    -- a class at p or below it isn't visible
    unseen-class : (visible : Tokens → Bool) (xs : List LocatedLine) → AreHidden visible xs → (q : Tokens) → has_class xs q ≡ true → is_prefix p q ≡ true → visible q ≡ false
    unseen-class visible xs hidden q here t = false_from_ne_true (visible q) (λ sees. false≢true (sym (none sees) ∙ here))
      where
        one : visible q ≡ true → (x : LocatedLine) → ((is_class x && visible x.path) && is_prefix p x.path) ≡ false → (is_class x && same_path x.path q) ≡ false
        one sees x k = false_from_ne_true (is_class x && same_path x.path q) (λ u.
            let parts = and_parts (is_class x) (same_path x.path q) u in
            let at = same_path-true x.path q parts.1 in
            false≢true (sym k ∙ and_from (is_class x && visible x.path) (is_prefix p x.path)
            (and_from (is_class x) (visible x.path) parts.0 (ap visible at ∙ sees)) (ap (is_prefix p) at ∙ t)))

        none : visible q ≡ true → has_class xs q ≡ false
        none sees = any-none (λ x. is_class x && same_path x.path q) xs
            (each-from (λ e. ((is_class e && visible e.path) && is_prefix p e.path) ≡ false) (λ x. (is_class x && same_path x.path q) ≡ false) (one sees) xs hidden)

    unseen-line : (visible : Tokens → Bool) (xs : List LocatedLine) → AreHidden visible xs →
        (e : LocatedLine) → ((is_class e && visible e.path) && is_prefix p e.path) ≡ false → (is_root e.parent || has_class xs e.parent) ≡ true → (is_within p e && visible (class_path e)) ≡ false
    unseen-line visible xs hidden e k up = by_kind (is_class e) k
      where
        by_kind : (t : Bool) → ((t && visible e.path) && is_prefix p e.path) ≡ false → (is_prefix p (if t then e.path else e.parent) && visible (if t then e.path else e.parent)) ≡ false
        by_kind true k = false_from_ne_true (is_prefix p e.path && visible e.path) (λ u.
            let parts = and_parts (is_prefix p e.path) (visible e.path) u in
            false≢true (sym k ∙ and_from (visible e.path) (is_prefix p e.path) parts.1 parts.0))
        by_kind false k = false_from_ne_true (is_prefix p e.parent && visible e.parent) (λ u.
            let parts = and_parts (is_prefix p e.parent) (visible e.parent) u in
            let here : has_class xs e.parent ≡ true = sym (ap (λ b. b || has_class xs e.parent) (prefix-deep e.parent parts.0)) ∙ up in
            false≢true (sym (unseen-class visible xs hidden e.parent here parts.0) ∙ parts.1))

    unseen-lines : (visible : Tokens → Bool) (xs ys : List LocatedLine) → AreHidden visible xs → AreHidden visible ys → HasParents xs ys → AreUnseen visible ys
    unseen-lines visible xs [] all hidden up = tt
    unseen-lines visible xs (e ∷ ys) all hidden up = (unseen-line visible xs all e hidden.0 up.0, unseen-lines visible xs ys all hidden.1 up.1)

    unseen-first : AreUnseen (is_visible es a.case s) es
    unseen-first = let hidden = hidden-of a h.first in unseen-lines (is_visible es a.case s) es es hidden hidden (parents-of a.lines da.document)

    unseen-second : AreUnseen (is_visible es' b.case s) es'
    unseen-second = let hidden = hidden-of b h.second in unseen-lines (is_visible es' b.case s) es' es' hidden hidden (parents-of b.lines db.document)

    unseen-at : (visible : Tokens → Bool) (e : LocatedLine) → (is_within p e && visible (class_path e)) ≡ false → is_prefix p (class_path e) ≡ true → visible (class_path e) ≡ false
    unseen-at visible e k t = false_from_ne_true (visible (class_path e)) (λ sees. false≢true (sym k ∙ and_from (is_within p e) (visible (class_path e)) t sees))

    class-unseen : (visible : Tokens → Bool) (e : LocatedLine) → (is_within p e && visible (class_path e)) ≡ false → keep_apart e ≡ false → (is_class e && visible e.path) ≡ false
    class-unseen visible e k gone = by_kind (is_class e) (unseen-at visible e k (not-false (is_within p e) gone))
      where
        by_kind : (t : Bool) → visible (if t then e.path else e.parent) ≡ false → (t && visible e.path) ≡ false
        by_kind true u = u
        by_kind false u = refl

    hidden_agree : Agree off v v'
    hidden_agree = verdicts-agree off s keep_apart es es' a.case b.case h.others.lines hidden_decides
        (each (λ e. keep_apart e ≡ true → off (class_path e) ≡ true) (λ e k. k) es)
        (each-from (λ e. (is_within p e && is_visible es a.case s (class_path e)) ≡ false) (λ e. keep_apart e ≡ false → (is_class e && is_visible es a.case s e.path) ≡ false)
        (class-unseen (is_visible es a.case s)) es unseen-first)
        (each-from (λ e. (is_within p e && is_visible es' b.case s (class_path e)) ≡ false) (λ e. keep_apart e ≡ false → (is_class e && is_visible es' b.case s e.path) ≡ false)
        (class-unseen (is_visible es' b.case s)) es' unseen-second)

    -- nothing visible is below a path within p
    none-below : (visible : Tokens → Bool) (xs : List LocatedLine) → AreUnseen visible xs → (q : Tokens) → is_prefix p q ≡ true → some_seen visible (below q xs) ≡ false
    none-below visible xs unseen q t =
        any-both (λ e. is_class e && visible e.path) (λ e. is_under q e.path) xs
        ∙ any-none (λ e. (is_class e && visible e.path) && is_under q e.path) xs
        (each-from (λ e. (is_within p e && visible (class_path e)) ≡ false) (λ e. ((is_class e && visible e.path) && is_under q e.path) ≡ false) one xs unseen)
      where
        one : (e : LocatedLine) → (is_within p e && visible (class_path e)) ≡ false → ((is_class e && visible e.path) && is_under q e.path) ≡ false
        one e k = false_from_ne_true ((is_class e && visible e.path) && is_under q e.path) (λ u.
            let first = and_parts (is_class e && visible e.path) (is_under q e.path) u in
            let second = and_parts (is_class e) (visible e.path) first.0 in
            let here : class_path e ≡ e.path = cond-true (is_class e) e.path e.parent second.0 in
            false≢true (sym k ∙ and_from (is_within p e) (visible (class_path e))
            (ap (is_prefix p) here ∙ prefix-trans p q e.path t (under-prefix q e.path first.1))
            (ap visible here ∙ second.1)))

    hidden-gone : (w : Verdicts) → ((q : Tokens) → is_prefix p q ≡ true → w.holds_visible q ≡ false) → (e : LocatedLine) → (is_within p e && w.visible (class_path e)) ≡ false → keep_apart e ≡ false → is_kept w e ≡ false
    hidden-gone w none e k gone = by_kind (is_class e) (not-false (is_within p e) gone) (unseen-at w.visible e k (not-false (is_within p e) gone))
      where
        by_kind : (t : Bool) → is_prefix p (if t then e.path else e.parent) ≡ true → w.visible (if t then e.path else e.parent) ≡ false →
            (if t then w.visible e.path || is_frame w e.path else is_root e.parent || w.visible e.parent) ≡ false
        by_kind true i u = or_from (w.visible e.path) (is_frame w e.path) u (and_right (not (w.visible e.path)) (w.holds_visible e.path) (none e.path i))
        by_kind false i u = or_from (is_root e.parent) (w.visible e.parent) (prefix-deep e.parent i) u

    off-parent : (e : LocatedLine) → is_under e.parent e.path ≡ true → keep_apart e ≡ true → (off (class_path e) ≡ true) × (off e.parent ≡ true)
    off-parent e below k = (k, by_kind (is_class e) k)
      where
        by_kind : (t : Bool) → off (if t then e.path else e.parent) ≡ true → off e.parent ≡ true
        by_kind true i = off-up e.parent e.path i (under-prefix e.parent e.path below)
        by_kind false i = i

    abbrev hidden_world : Worlds
    hidden_world = record {
      off = off;
      keep = keep_apart;
      v = v;
      v' = v';
      es = es;
      es' = es';
      agree = hidden_agree;
      lines = h.others.lines;
      places = each-from (λ e. is_under e.parent e.path ≡ true) (λ e. keep_apart e ≡ true → (off (class_path e) ≡ true) × (off e.parent ≡ true)) off-parent es (below-parents a.lines);
      gone = each-from (λ e. (is_within p e && is_visible es a.case s (class_path e)) ≡ false) (λ e. keep_apart e ≡ false → is_kept v e ≡ false)
          (hidden-gone v (none-below (is_visible es a.case s) es unseen-first)) es unseen-first;
      gone' = each-from (λ e. (is_within p e && is_visible es' b.case s (class_path e)) ≡ false) (λ e. keep_apart e ≡ false → is_kept v' e ≡ false)
          (hidden-gone v' (none-below (is_visible es' b.case s) es' unseen-second)) es' unseen-second;
    }

    hidden-told : IsToldAlike s a b
    hidden-told = told-by (outline-same hidden_world) (h.withheld) (count-same hidden_world) (listed-same hidden_world) (found-same hidden_world)

pub alike-told : (s : Standing) (a b : Report) → IsMarked a.lines → IsMarked b.lines → IsAlikeStep s a b → IsToldAlike s a b
alike-told s a b da db (inl h) = plain-told s a b da db h.0 h.1
alike-told s a b da db (inr (inl h)) = hidden-told s a b da db h.0 h.1
alike-told s a b da db (inr (inr h)) = permissions-told s a b da db h
