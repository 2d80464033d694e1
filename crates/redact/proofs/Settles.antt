-- A label that is written in a class makes it sure that the reader sees the class, whatever lines come.
use Rattle.std.proofs.{Common.{◌≡◌, Bool, true, false, cond, not, ◌&&◌, ◌||◌, List, [], ◌∷◌, ◌++◌, refl, sym, ◌∙◌, ap, if◌then◌else◌}, lemmas.Bool.true≢false}
use Rattle.std.{proofs.lemmas.{Bool.{false≢true, and_parts}, List.Folds.find-append}, specs.{List.list_any, Option.{option_map_or, option_or}, Prelude.Option}}
use Rattle.std.specs.{Prelude.{Some, None, find, filter, map, is_some, is_none, option_map, unwrap_or, codes}, Str.bytes_eq}
use Rattle.iodef_tree.{proofs.Order.{bytes_eq-true, same_path-true}, specs.Paths.{LocatedLine, is_class, class_paths, has_class, placed, located}}
use Rattle.{iodef_tree.specs.{Paths.located_after, Text.{Bytes, Tokens, same_path}, declared.line.{Kind.Kind, Line.Line}}, marking.proofs.Owned.site-self}
use Rattle.marking.specs.{Label.{LabelValue, public, white, partner, green, need_to_know, amber, private, red, by_arrangement, extended, spelled}, Marks.Held}
use Rattle.marking.specs.Marks.{absent, one_text, other, held_by_kind, held_by_line, is_member, held_at, restriction_at, ext_restriction_at, spelled_by}
use Rattle.marking.specs.Marks.{is_rule_kept, is_well_marked, first_bad_marking, written_label, has_default, own_label, site_of, label_at}
use Rattle.policy.specs.{Verdict.{refusal_at, is_cleared_for, is_covered, is_visible}, declared.{case.Case.Case, standing.Standing.Standing}}
use Rattle.redact.{proofs.{Lengthened.{located-append, any-stays}, Unrefused.{unrefused, seen}}, specs.{Probed.InEach, Sifted.located_back}}
use Rattle.redact.specs.{declared.open_classes.Beside.Beside, inner.Seeking.{some_refuses, is_cleared_beside, is_cleared_by, is_cleared_text, IsBeside}}
use Rattle.iodef_tree.specs.declared.line.Kind.TheVariants as kind
use Rattle.redact.specs.declared.open_classes.Beside.TheVariants as beside

-- ---- an accepted report

none-bad : (f : Tokens → Bool) (ps : List Tokens) → find (λ p. not (f p)) ps ≡ None → (p : Tokens) → list_any (λ q. same_path q p) ps ≡ true → f p ≡ true
none-bad f [] none p there = absurd (false≢true there)
none-bad f (q ∷ ps) none p there = by_test (f q) (same_path q p) refl refl (λ k. none-bad f ps k p) none there
  where
    by_test : (b t : Bool) → f q ≡ b → same_path q p ≡ t → (find (λ p. not (f p)) ps ≡ None → list_any (λ q. same_path q p) ps ≡ true → f p ≡ true) → cond (not b) (Some q) (find (λ p. not (f p)) ps) ≡ None → (t || list_any (λ q. same_path q p) ps) ≡ true → f p ≡ true
    by_test false t fq at rest k h = absurd (some-none q k)
      where
        some-none : (x : Tokens) → Some x ≡ None → ⊥
        some-none x e = true≢false (ap is_some e)
    by_test true true fq at rest k h = ap f (sym (same_path-true q p at)) ∙ fq
    by_test true false fq at rest k h = rest k h

class-path : (es : List LocatedLine) (p : Tokens) → has_class es p ≡ true → list_any (λ q. same_path q p) (class_paths es) ≡ true
class-path [] p h = h
class-path (e ∷ es) p h = by_class (is_class e) (class-path es p) h
  where
    by_class : (b : Bool) → (has_class es p ≡ true → list_any (λ q. same_path q p) (class_paths es) ≡ true) → ((b && same_path e.path p) || has_class es p) ≡ true → list_any (λ q. same_path q p) (map (λ x. x.path) (if b then e ∷ filter is_class es else filter is_class es)) ≡ true
    by_class true rest h = by_path (same_path e.path p) h
      where
        by_path : (t : Bool) → (t || has_class es p) ≡ true → (t || list_any (λ q. same_path q p) (class_paths es)) ≡ true
        by_path true h = refl
        by_path false h = rest h
    by_class false rest h = rest h

-- a class of a report whose markings are accepted keeps the marking rule
well-marked : (es : List LocatedLine) (p : Tokens) → first_bad_marking es ≡ None → has_class es p ≡ true → is_well_marked es p ≡ true
well-marked es p marked class = none-bad (is_well_marked es) (class_paths es) marked p (class-path es p class)

-- ---- the label that a text spells

-- a text that spells a label by itself spells it beside any other text
abbrev chain : Bool → Bool → Bool → Bool → Bool → Bool → Bool → Bool → Bool → Bool → Option Bytes → Option LabelValue
chain b0 b1 b2 b3 b4 b5 b6 b7 b8 b9 ext =
    if b0 then Some public
    else if b1 then Some white
    else if b2 then Some partner
    else if b3 then Some green
    else if b4 then Some need_to_know
    else if b5 then Some amber
    else if b6 then Some private
    else if b7 then Some red
    else if b8 then Some by_arrangement
    else if b9 then option_map extended ext
    else None

chain-alone : (b0 b1 b2 b3 b4 b5 b6 b7 b8 b9 : Bool) (t : Bytes) (m : LabelValue) → chain b0 b1 b2 b3 b4 b5 b6 b7 b8 b9 None ≡ Some m → chain b0 b1 b2 b3 b4 b5 b6 b7 b8 b9 (Some t) ≡ Some m
chain-alone true b1 b2 b3 b4 b5 b6 b7 b8 b9 t m h = h
chain-alone false true b2 b3 b4 b5 b6 b7 b8 b9 t m h = h
chain-alone false false true b3 b4 b5 b6 b7 b8 b9 t m h = h
chain-alone false false false true b4 b5 b6 b7 b8 b9 t m h = h
chain-alone false false false false true b5 b6 b7 b8 b9 t m h = h
chain-alone false false false false false true b6 b7 b8 b9 t m h = h
chain-alone false false false false false false true b7 b8 b9 t m h = h
chain-alone false false false false false false false true b8 b9 t m h = h
chain-alone false false false false false false false false true b9 t m h = h
chain-alone false false false false false false false false false true t m h = absurd (true≢false (sym (ap is_some h)))
chain-alone false false false false false false false false false false t m h = h

spelled-alone : (r t : Bytes) (m : LabelValue) → spelled r None ≡ Some m → spelled r (Some t) ≡ Some m
spelled-alone r t m h =
    chain-alone (bytes_eq r (codes "public")) (bytes_eq r (codes "white")) (bytes_eq r (codes "partner")) (bytes_eq r (codes "green")) (bytes_eq r (codes "need-to-know"))
    (bytes_eq r (codes "amber")) (bytes_eq r (codes "private")) (bytes_eq r (codes "red")) (bytes_eq r (codes "default")) (bytes_eq r (codes "ext-value")) t m h

-- if the rule is kept, it spells that label whatever is beside it
kept-alone : (r : Bytes) (x : Held) (m : LabelValue) → spelled r None ≡ Some m → is_rule_kept (one_text r) x ≡ true → spelled_by (one_text r) x ≡ Some m
kept-alone r absent m h k = h
kept-alone r (one_text t) m h k = spelled-alone r t m h
kept-alone r other m h k = absurd (false≢true k)

-- ---- the label of a class

label-here : (es : List LocatedLine) (p : Tokens) (m : LabelValue) → has_class es p ≡ true → spelled_by (restriction_at es p) (ext_restriction_at es p) ≡ Some m → label_at es p ≡ m
label-here es p m class spells =
    let written : written_label es p ≡ Some m = ap (λ b. if b then spelled_by (restriction_at es p) (ext_restriction_at es p) else None) class ∙ spells in
    let own : own_label es p ≡ Some m = ap (λ o. option_or o (if has_default es p then Some private else None)) written in
    let site : site_of es p ≡ p = site-self es p (ap is_some own) in
    ap (λ q. unwrap_or (own_label es q) private) site ∙ ap (λ o. unwrap_or o private) own

-- ---- what a class holds stays

abbrev is_absent : Held → Bool
is_absent absent = true
is_absent (one_text t) = false
is_absent other = false

abbrev is_text : Held → Bool
is_text absent = false
is_text (one_text t) = true
is_text other = false

not_absent : (l : Line) → held_by_line l ≡ absent → ⊥
not_absent l h = by_value l.in_array l.kind h
  where
    by_value : (b : Bool) (k : Kind) → (if b then other else held_by_kind k l.text) ≡ absent → ⊥
    by_value true k h = false≢true (ap is_absent h)
    by_value false kind.Class h = false≢true (ap is_absent h)
    by_value false kind.Text h = false≢true (ap is_absent h)
    by_value false kind.Value h = false≢true (ap is_absent h)

abbrev held_if : Option LocatedLine → Held
held_if o = option_map_or (λ e. held_by_line e.line) o absent

none-held : (o : Option LocatedLine) → held_if o ≡ absent → o ≡ None
none-held None h = refl
none-held (Some e) h = absurd (not_absent e.line h)

text-held : (o r : Option LocatedLine) (t : Bytes) → held_if o ≡ one_text t → held_if (option_or o r) ≡ one_text t
text-held None r t h = absurd (false≢true (ap is_text h))
text-held (Some e) r t h = h

pub text-stays : (ls more : List Line) (p : Tokens) (name t : Bytes) → held_at (located ls) p name ≡ one_text t → held_at (located (ls ++ more)) p name ≡ one_text t
text-stays ls more p name t h =
    ap (λ es. held_at es p name) (located-append ls more) ∙ ap held_if (find-append (is_member p name) (located ls) (located_after (located_back ls) more))
    ∙ text-held (find (is_member p name) (located ls)) (find (is_member p name) (located_after (located_back ls) more)) t h

module _ (ls : List Line) (l : Line) (p : Tokens) (name : Bytes) where
  abbrev x : LocatedLine
  x = placed (located_back ls) l

  -- the same with one more line, by whether that is a member of this name
  held-by : (b : Bool) → is_member p name x ≡ b → held_at (located (ls ++ l ∷ [])) p name ≡ held_if (option_or (find (is_member p name) (located ls)) (if b then Some x else None))
  held-by b is =
      ap (λ es. held_at es p name) (located-append ls (l ∷ [])) ∙ ap held_if (find-append (is_member p name) (located ls) (x ∷ []))
      ∙ ap (λ t. held_if (option_or (find (is_member p name) (located ls)) (if t then Some x else None))) is

  -- another line changes nothing of what a class holds
  pub held-same : is_member p name x ≡ false → held_at (located (ls ++ l ∷ [])) p name ≡ held_at (located ls) p name
  held-same is = held-by false is ∙ ap held_if (or-none (find (is_member p name) (located ls)))
    where
      or-none : (o : Option LocatedLine) → option_or o None ≡ o
      or-none None = refl
      or-none (Some e) = refl

  -- the first line of the name counts
  pub held-first : is_member p name x ≡ true → held_at (located ls) p name ≡ absent → held_at (located (ls ++ l ∷ [])) p name ≡ held_by_line l
  held-first is none = held-by true is ∙ ap (λ o. held_if (option_or o (Some x))) (none-held (find (is_member p name) (located ls)) none)

-- ---- a label for which the reader is cleared

module _ (c : Case) (s : Standing) (ls : List Line) (p : Tokens) (unrefusing : some_refuses c s ≡ false) (class : has_class (located ls) p ≡ true) where
  -- a class whose label is one for which the reader is cleared is seen
  seen-by : (m : LabelValue) → is_cleared_for s m ≡ true →
      ((more : List Line) → let es = located (ls ++ more) in is_well_marked es p ≡ true → spelled_by (restriction_at es p) (ext_restriction_at es p) ≡ Some m) →
      InEach ls (λ all. is_visible (located all) c s p ≡ true)
  seen-by m cleared spells more outline marked =
      let es = located (ls ++ more) in
      let there : has_class es p ≡ true = any-stays (λ e. is_class e && same_path e.path p) ls more class in
      let label : label_at es p ≡ m = label-here es p m there (spells more (well-marked es p marked there)) in
      seen s.source (is_none (refusal_at c s p)) (is_cleared_for s (label_at es p)) (is_covered es c s p)
      (ap is_none (unrefused c s p unrefusing)) (ap (is_cleared_for s) label ∙ cleared)

  pub label-seen : (r : Bytes) (x : Beside) → restriction_at (located ls) p ≡ one_text r → IsBeside s x (ext_restriction_at (located ls) p) → is_cleared_text s x r ≡ true →
      InEach ls (λ all. is_visible (located all) c s p ≡ true)
  label-seen r x held there clears = by_alone (spelled r None) refl clears
    where
      kept : (more : List Line) → restriction_at (located (ls ++ more)) p ≡ one_text r
      kept more = text-stays ls more p (codes "restriction") r held

      by_beside : (y : Beside) → IsBeside s y (ext_restriction_at (located ls) p) → bytes_eq r (codes "ext-value") ≡ true → is_cleared_beside y ≡ true → InEach ls (λ all. is_visible (located all) c s p ≡ true)
      by_beside beside.Absent b same k = absurd (false≢true k)
      by_beside beside.Other b same k = absurd (false≢true k)
      by_beside beside.Cleared b same k = seen-by (extended b.0) b.2 (λ more well.
          ap (λ h. spelled_by h (ext_restriction_at (located (ls ++ more)) p)) (kept more)
          ∙ ap (λ h. spelled_by (one_text r) h) (text-stays ls more p (codes "ext-restriction") b.0 b.1)
          ∙ ap (λ q. spelled q (Some b.0)) (bytes_eq-true r (codes "ext-value") same))

      by_alone : (o : Option LabelValue) → spelled r None ≡ o → is_cleared_by s x r o ≡ true → InEach ls (λ all. is_visible (located all) c s p ≡ true)
      by_alone None none k =
          let parts = and_parts (bytes_eq r (codes "ext-value")) (is_cleared_beside x) k in
          by_beside x there parts.0 parts.1
      by_alone (Some m) spells k = seen-by m k (λ more well.
          ap (λ h. spelled_by h (ext_restriction_at (located (ls ++ more)) p)) (kept more)
          ∙ kept-alone r (ext_restriction_at (located (ls ++ more)) p) m spells (ap (λ h. is_rule_kept h (ext_restriction_at (located (ls ++ more)) p)) (sym (kept more)) ∙ well))
