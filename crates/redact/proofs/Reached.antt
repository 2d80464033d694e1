-- The lines below some paths are dropped. The kept lines of an outline are an outline. The depth of the newest of them
-- says of the next line whether it is below such a path.
use Rattle.std.proofs.Common.{◌≡◌, ℕ, suc, ◌<◌, ◌≤◌, Bool, true, false, cond, not, ◌&&◌, ◌⊎◌, inl, inr, List, [], ◌∷◌, refl, sym, ◌∙◌, ap, subst, arith}
use Rattle.std.proofs.{Common.if◌then◌else◌, lemmas.Bool.{false≢true, and_from, lt-ltb, le-ltb, ltb-true, ltb-false, le-leb, leb-true, leb-false, eq-eqb}}
use Rattle.std.{proofs.lemmas.Bool.{ne_eqb, cases_lt}, specs.{Option.option_map_or, Prelude.{filter, find, nat_lt, nat_le, Option, Some, None}}}
use Rattle.iodef_tree.{proofs.{Order.is_prefix-append, Outlines.{Came, came, above-line, at-line, past-line, counted-cons}}, specs.Outline.{sibling, deepest}}
use Rattle.iodef_tree.specs.{Outline.{last_sibling, may_follow, is_short, may_come, is_outline_back}, Paths.{LocatedLine, is_class_kind, is_one_less_deep}}
use Rattle.iodef_tree.specs.{Paths.{parent_path, place_among, placed}, Shown.counted_with, Sound.counted, Text.{Tokens, is_prefix}, Tree.{steps, place_of}}
use Rattle.{iodef_tree.specs.declared.{TheConstants.LINE_LIMIT, line.Line.Line}, redact.specs.Sifted.{is_beyond, shut_by, lines_of, DeepAs, stays, is_shutting}}
use Rattle.redact.specs.Sifted.{Reach}

beyond-less : (o : Option ℕ) (k d : ℕ) → k ≤ d → is_beyond o d ≡ false → is_beyond o k ≡ false
beyond-less None k d le h = refl
beyond-less (Some n) k d le h = le-ltb n k (let a = ltb-false n d h in omega (arith, a, le))

-- how deep a line may be behind another
depths : (b : Bool) (d k : ℕ) → k ≤ (if b then suc d else d) → (k ≤ d) ⊎ ((k ≡ suc d) × (b ≡ true))
depths b d k h = by_test (nat_le k d) refl b h
  where
    by_test : (t : Bool) → nat_le k d ≡ t → (b : Bool) → k ≤ (if b then suc d else d) → (k ≤ d) ⊎ ((k ≡ suc d) × (b ≡ true))
    by_test true e b h = inl (leb-true k d e)
    by_test false e true h = let a = leb-false k d e in inr (omega (arith, a, h), refl)
    by_test false e false h = let a = leb-false k d e in absurd (omega (arith, a, h))

pub parent-old : (e : LocatedLine) (before : List LocatedLine) (d : ℕ) → d ≤ e.line.depth → parent_path (e ∷ before) d ≡ parent_path before d
parent-old e before d h =
    ap (λ t. option_map_or (λ (x : LocatedLine). x.path) (cond t (Some e) (find (is_one_less_deep d) before)) []) (ne_eqb (suc e.line.depth) d (λ q. omega (arith, h, q)))

pub parent-new : (e : LocatedLine) (before : List LocatedLine) (d : ℕ) → d ≡ suc e.line.depth → parent_path (e ∷ before) d ≡ e.path
parent-new e before d h =
    ap (λ t. option_map_or (λ (x : LocatedLine). x.path) (cond t (Some e) (find (is_one_less_deep d) before)) []) (eq-eqb (suc e.line.depth) d (sym h))

deep-enough : (o : Option ℕ) (before kept : List Line) (d : ℕ) → DeepAs o before kept → d ≤ deepest before → is_beyond o d ≡ false → d ≤ deepest kept
deep-enough None before kept d deep h b = omega (arith, deep, h)
deep-enough (Some k) before kept d deep h b = let a = ltb-false k d b in omega (arith, deep, a)

module _ (gone : Tokens → Bool) (down : (q p : Tokens) → is_prefix q p ≡ true → gone q ≡ true → gone p ≡ true) where
  abbrev keep : LocatedLine → Bool
  keep = stays gone

  module _ (before : List LocatedLine) (o : Option ℕ) (l : Line) (r : Reach gone before o) (fits : may_come (lines_of before) l ≡ true) where
    abbrev e : LocatedLine
    e = placed before l

    abbrev k : Came (lines_of before) l
    k = came (lines_of before) l fits

    -- ---- a line that is kept

    module _ (stays : is_beyond o l.depth ≡ false) where
      pub kept-is : keep e ≡ true
      kept-is = ap not (r.beyond l.depth k.reached ∙ stays)

      abbrev o' : Option ℕ
      o' = shut_by (is_shutting gone e) l.depth

      not-beyond : (d : ℕ) → d ≤ l.depth → is_beyond o' d ≡ false
      not-beyond d h = by_test (is_shutting gone e)
        where
          by_test : (t : Bool) → is_beyond (if t then Some l.depth else None) d ≡ false
          by_test true = le-ltb l.depth d h
          by_test false = refl

      beyond-kept : (d : ℕ) → d ≤ deepest (l ∷ lines_of before) → gone (parent_path (e ∷ before) d) ≡ is_beyond o' d
      beyond-kept d h = elim (depths (is_class_kind l.kind) l.depth d h) [
        | inl a ↦
            let less : d ≤ deepest (lines_of before) = omega (arith, a, k.reached) in
            ap gone (parent-old e before d a) ∙ r.beyond d less ∙ beyond-less o d l.depth a stays ∙ sym (not-beyond d a)
        | inr a ↦ ap gone (parent-new e before d a.0) ∙ by_gone (gone e.path) refl a.0 a.1
      ]
        where
          by_gone : (t : Bool) → gone e.path ≡ t → d ≡ suc l.depth → is_class_kind l.kind ≡ true → gone e.path ≡ is_beyond o' d
          by_gone t g deep c =
              g ∙ by_value t deep
              ∙ sym (ap (λ b. is_beyond (if b && gone e.path then Some l.depth else None) d) c ∙ ap (λ b. is_beyond (if b then Some l.depth else None) d) g)
            where
              by_value : (t : Bool) → d ≡ suc l.depth → t ≡ is_beyond (if t then Some l.depth else None) d
              by_value true deep = sym (lt-ltb l.depth d (omega (arith, deep)))
              by_value false deep = refl

      deep-kept : DeepAs o' (l ∷ lines_of before) (l ∷ lines_of (filter keep before))
      deep-kept = by_class (is_class_kind l.kind) refl (gone e.path)
        where
          by_class : (b : Bool) → is_class_kind l.kind ≡ b → (t : Bool) → DeepAs (if b && t then Some l.depth else None) (l ∷ lines_of before) (l ∷ lines_of (filter keep before))
          by_class true c true = ap (λ b. if b then suc l.depth else l.depth) c
          by_class true c false = refl
          by_class false c t = refl

      siblings-kept : (d : ℕ) → d ≤ deepest (l ∷ lines_of before) → is_beyond o' d ≡ false → last_sibling d (l ∷ lines_of (filter keep before)) ≡ last_sibling d (l ∷ lines_of before)
      siblings-kept d h b = elim (cases_lt l.depth d) [
        | inl a ↦ above-line l.depth d _ _ _ a ∙ sym (above-line l.depth d _ _ _ a)
        | inr low ↦ elim (cases_lt d l.depth) [
          | inl a ↦
              past-line l.depth d _ _ _ a
              ∙ r.siblings d (let reached = k.reached in omega (arith, a, reached)) (beyond-less o d l.depth (omega (arith, a)) stays)
              ∙ sym (past-line l.depth d _ _ _ a)
          | inr high ↦ (let same : l.depth ≡ d = omega (arith, low, high) in at-line l.depth d _ _ _ same ∙ sym (at-line l.depth d _ _ _ same))
        ]
      ]

      count-kept : counted (l ∷ lines_of (filter keep before)) ≤ counted (l ∷ lines_of before)
      count-kept =
          let a = counted-cons l (lines_of (filter keep before)) in
          let b = counted-cons l (lines_of before) in
          let c = counted-less l (counted (lines_of (filter keep before))) (counted (lines_of before)) r.count in
          omega (arith, a, b, c)
        where
          counted-less : (l : Line) (m n : ℕ) → m ≤ n → counted_with l m ≤ counted_with l n
          counted-less l m n h = grind arith

      pub fits-kept : may_come (lines_of (filter keep before)) l ≡ true
      fits-kept =
          let few : counted (l ∷ lines_of (filter keep before)) ≤ LINE_LIMIT = (let a = leb-true (counted (l ∷ lines_of before)) LINE_LIMIT k.short in omega (arith, a, count-kept)) in
          and_from (is_short (l ∷ lines_of (filter keep before))) _ (le-leb (counted (l ∷ lines_of (filter keep before))) LINE_LIMIT few)
          (and_from (nat_lt 0 l.depth) _ (lt-ltb 0 l.depth k.positive)
          (and_from (nat_le l.depth (deepest (lines_of (filter keep before)))) _ (le-leb l.depth _ (deep-enough o (lines_of before) (lines_of (filter keep before)) l.depth r.deep k.reached stays))
          (and_from (may_follow (last_sibling l.depth (lines_of (filter keep before))) (sibling l)) _ (ap (λ s. may_follow s (sibling l)) (r.siblings l.depth k.reached stays) ∙ k.follows) k.sound)))

      pub reach-kept : (before' : List LocatedLine) → before' ≡ e ∷ before → Reach gone before' o'
      reach-kept before' is = subst (λ b. Reach gone b o') (sym is) (record {
        beyond = beyond-kept;
        deep = subst (λ (ks : List Line). DeepAs o' (l ∷ lines_of before) ks) (sym kept-lines) deep-kept;
        siblings = λ d h b. ap (last_sibling d) kept-lines ∙ siblings-kept d h b;
        count = subst (λ (ks : List Line). counted ks ≤ counted (l ∷ lines_of before)) (sym kept-lines) count-kept;
        outline = ap is_outline_back kept-lines ∙ and_from (may_come (lines_of (filter keep before)) l) _ fits-kept r.outline;
      })
        where
          kept-lines : lines_of (filter keep (e ∷ before)) ≡ l ∷ lines_of (filter keep before)
          kept-lines = ap (λ t. lines_of (if t then e ∷ filter keep before else filter keep before)) kept-is

    -- ---- a line that is dropped

    module _ (goes : is_beyond o l.depth ≡ true) where
      pub gone-is : keep e ≡ false
      gone-is = ap not (r.beyond l.depth k.reached ∙ goes)

      below-parent : gone e.path ≡ true
      below-parent =
          let st = steps l.name (place_of l.in_array (place_among before l.depth l.name)) in
          down e.parent e.path (is_prefix-append e.parent st) (r.beyond l.depth k.reached ∙ goes)

      past : (d : ℕ) → is_beyond o d ≡ false → d < l.depth
      past d h = by_shut o goes h
        where
          by_shut : (o : Option ℕ) → is_beyond o l.depth ≡ true → is_beyond o d ≡ false → d < l.depth
          by_shut None g h = absurd (false≢true g)
          by_shut (Some n) g h = let a = ltb-true n l.depth g in let b = ltb-false n d h in omega (arith, a, b)

      more-beyond : (d : ℕ) → l.depth ≤ d → is_beyond o d ≡ true
      more-beyond d h = by_shut o goes
        where
          by_shut : (o : Option ℕ) → is_beyond o l.depth ≡ true → is_beyond o d ≡ true
          by_shut None g = absurd (false≢true g)
          by_shut (Some n) g = let a = ltb-true n l.depth g in lt-ltb n d (omega (arith, a, h))

      deep-gone : (o : Option ℕ) → is_beyond o l.depth ≡ true → DeepAs o (lines_of before) (lines_of (filter keep before)) → DeepAs o (l ∷ lines_of before) (lines_of (filter keep before))
      deep-gone None g h = absurd (false≢true g)
      deep-gone (Some n) g h = h

      beyond-gone : (d : ℕ) → d ≤ deepest (l ∷ lines_of before) → gone (parent_path (e ∷ before) d) ≡ is_beyond o d
      beyond-gone d h = elim (depths (is_class_kind l.kind) l.depth d h) [
        | inl a ↦ ap gone (parent-old e before d a) ∙ r.beyond d (omega (arith, a, k.reached))
        | inr a ↦ ap gone (parent-new e before d a.0) ∙ below-parent ∙ sym (more-beyond d (omega (arith, a.0)))
      ]

      count-gone : counted (lines_of (filter keep before)) ≤ counted (l ∷ lines_of before)
      count-gone =
          let a = counted-cons l (lines_of before) in
          let b = counted-more l (counted (lines_of before)) in
          omega (arith, a, b, r.count)
        where
          counted-more : (l : Line) (n : ℕ) → n ≤ counted_with l n
          counted-more l n = grind arith

      pub reach-gone : (before' : List LocatedLine) → before' ≡ e ∷ before → Reach gone before' o
      reach-gone before' is = subst (λ b. Reach gone b o) (sym is) (record {
        beyond = beyond-gone;
        deep = subst (λ (ks : List Line). DeepAs o (l ∷ lines_of before) ks) (sym kept-lines) (deep-gone o goes r.deep);
        siblings = λ d h b. (let a = past d b in ap (last_sibling d) kept-lines ∙ r.siblings d (omega (arith, a, k.reached)) b ∙ sym (past-line l.depth d _ _ _ a));
        count = subst (λ (ks : List Line). counted ks ≤ counted (l ∷ lines_of before)) (sym kept-lines) count-gone;
        outline = ap is_outline_back kept-lines ∙ r.outline;
      })
        where
          kept-lines : lines_of (filter keep (e ∷ before)) ≡ lines_of (filter keep before)
          kept-lines = ap (λ t. lines_of (if t then e ∷ filter keep before else filter keep before)) gone-is
