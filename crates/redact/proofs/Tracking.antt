-- The path of the newest line, after one more line.
use Rattle.std.proofs.Common.{◌≡◌, ℕ, zero, suc, ◌+◌, ◌-◌, ◌^◌, ◌<◌, ◌≤◌, Bool, true, false, not, cond, ◌&&◌, ◌||◌, ◌⊎◌, inl, inr, List, [], ◌∷◌, ◌++◌, length}
use Rattle.std.proofs.{Common.{take, zero-add, refl, sym, ◌∙◌, ap, subst, arith, if◌then◌else◌, slice_get, bytes_eq, IfSome}, lemmas.Bool.{eq-eqb, ne_eqb}}
use Rattle.std.{proofs.lemmas.{Bool.cases_lt, Grind.common_steps, Option.slice_get_past}, specs.Prelude.{Option, Some, None, is_some}}
use Rattle.iodef_tree.proofs.{Order.{bytes_eq-true, bytes_lt-trans, bytes_lt-ne}, Outlines.{Came, came, above-line, at-line, past-line}}
use Rattle.iodef_tree.specs.{Outline.{sibling, deepest, last_sibling, may_follow, may_come, back}, Paths.{LocatedLine, is_class_kind, parent_path, place_among}}
use Rattle.iodef_tree.specs.{Paths.placed, Text.{Bytes, Tokens, bytes_lt, is_root}, Tree.{steps, place_of}, declared.line.Line.Line}
use Rattle.{policy.specs.{Verdict.refusal_at, declared.{case.Case.Case, standing.Standing.Standing}}, redact.proofs.{Ends.way_more, Reached.parent-old}}
use Rattle.redact.proofs.{Reached.parent-new, SameLocated.{place-past, place-here}, Sifting.{onto-push, back-lines}, Stopped.stopped-is}
use Rattle.redact.specs.{Matters.is_refused, Sifted.{step_tokens, way, next_place, IsCounted, step_of, went_on, located_back, lines_of, sibling_at, is_behind}}
use Rattle.redact.specs.{Sifted.{is_shutting, is_stopped, Leads, Tracks}, declared.steps.Step.Step}

-- ---- a list that is cut, with one element more

get-before : {A : Type 0} (e : ℕ) (E : List A) (n : A) (d : ℕ) → e ≤ length E → d < e → slice_get (take e E ++ n ∷ []) d ≡ slice_get E d
get-before (suc e) (x ∷ E) n (suc d) h l = get-before e E n d (omega (arith, h)) (omega (arith, l))
get-before e E n d h l = grind arith

get-new : {A : Type 0} (e : ℕ) (E : List A) (n : A) → e ≤ length E → slice_get (take e E ++ n ∷ []) e ≡ Some n
get-new (suc e) (x ∷ E) n h = get-new e E n (omega (arith, h))
get-new e E n h = grind arith

length-new : {A : Type 0} (e : ℕ) (E : List A) (n : A) → e ≤ length E → length (take e E ++ n ∷ []) ≡ suc e
length-new e E n h = grind (arith, common_steps)

get-past : {A : Type 0} (e : ℕ) (E : List A) (n : A) (d : ℕ) → e ≤ length E → e < d → slice_get (take e E ++ n ∷ []) d ≡ None
get-past e E n d h l = let long = length-new e E n h in slice_get_past (take e E ++ n ∷ []) d (omega (arith, long, l))

take-before : {A : Type 0} (e : ℕ) (E : List A) (n : A) (d : ℕ) → e ≤ length E → d ≤ e → take d (take e E ++ n ∷ []) ≡ take d E
take-before e E n zero h l = refl
take-before zero E n (suc d) h l = absurd (omega (arith, l))
take-before (suc e) [] n (suc d) h l = absurd (omega (arith, h))
take-before (suc e) (x ∷ E) n (suc d) h l = ap (λ xs. x ∷ xs) (take-before e E n d (omega (arith, h)) (omega (arith, l)))

take-all : {A : Type 0} (e : ℕ) (E : List A) (n : A) → e ≤ length E → take (suc e) (take e E ++ n ∷ []) ≡ take e E ++ n ∷ []
take-all zero E n h = refl
take-all (suc e) [] n h = absurd (omega (arith, h))
take-all (suc e) (x ∷ E) n h = ap (λ xs. x ∷ xs) (take-all e E n (omega (arith, h)))

-- before an index, at it, or right behind it
spots : (i j : ℕ) → i ≤ suc j → (i < j) ⊎ ((i ≡ j) ⊎ (i ≡ suc j))
spots i j h = grind arith

-- ---- steps

behind-by : (o : Option Step) (l : Line) → may_follow (sibling_at o) (sibling l) ≡ true → is_behind o l.name ≡ true
behind-by None l h = refl
behind-by (Some s) l h = by_test (bytes_lt s.name l.name) (bytes_eq s.name l.name) (s.in_array && l.in_array) h
  where
    by_test : (a b c : Bool) → (a || (b && c)) ≡ true → (a || b) ≡ true
    by_test true b c k = refl
    by_test false true c k = refl
    by_test false false c k = k

-- a later name may come behind too, and is a new one
later : (o : Option Step) (x y : Bytes) → is_behind o x ≡ true → bytes_lt x y ≡ true → (is_behind o y ≡ true) × (next_place o y ≡ 0)
later None x y h l = (refl, refl)
later (Some s) x y h l = (ap (λ b. b || bytes_eq s.name y) lt, ap (λ b. if b then suc s.place else 0) (bytes_lt-ne s.name y lt))
  where
    by_test : (a b : Bool) → bytes_lt s.name x ≡ a → bytes_eq s.name x ≡ b → (a || b) ≡ true → bytes_lt s.name y ≡ true
    by_test true b i j k = bytes_lt-trans s.name x y i l
    by_test false true i j k = ap (λ n. bytes_lt n y) (bytes_eq-true s.name x j) ∙ l
    by_test false false i j k = cc

    lt : bytes_lt s.name y ≡ true
    lt = by_test (bytes_lt s.name x) (bytes_eq s.name x) refl refl h

more : (o : Option Step) (n m : ℕ) → n ≤ m → IfSome o (λ s. s.place < n) → IfSome o (λ s. s.place < m)
more None n m h k = tt
more (Some s) n m h k = omega (arith, h, k)

next-few : (o : Option Step) (name : Bytes) (n : ℕ) → IfSome o (λ s. s.place < n) → next_place o name < suc n
next-few None name n k = omega arith
next-few (Some s) name n k = by_test (bytes_eq s.name name)
  where
    by_test : (t : Bool) → (if t then suc s.place else 0) < suc n
    by_test true = omega (arith, k)
    by_test false = omega arith

not-root : (p : Tokens) (name : Bytes) (o : Option ℕ) → is_root (p ++ steps name o) ≡ false
not-root [] name None = refl
not-root [] name (Some k) = refl
not-root (x ∷ p) name o = refl

-- ---- one line more

module _ (before : List LocatedLine) (ss : List Step) (l : Line) (t : Leads before ss) (fits : may_come (lines_of before) l ≡ true) where
  abbrev e : LocatedLine
  e = placed before l

  abbrev j : ℕ
  j = l.depth - 1

  abbrev new : Step
  new = step_of ss l

  abbrev ss' : List Step
  ss' = went_on ss l

  k : Came (lines_of before) l
  k = came (lines_of before) l fits

  at : suc j ≡ l.depth
  at = let positive = k.positive in omega (arith, positive)

  low : j ≤ length ss
  low = let positive = k.positive in let reached = k.reached in let deep = t.deep in omega (arith, positive, reached, deep)

  behind : is_behind (slice_get ss j) l.name ≡ true
  behind = behind-by (slice_get ss j) l (ap (λ o. may_follow o (sibling l)) (sym (t.newest j low) ∙ ap (λ d. last_sibling d (lines_of before)) at) ∙ k.follows)

  place-is : place_among before l.depth l.name ≡ new.place
  place-is = ap (λ d. place_among before d l.name) (sym at) ∙ t.place j l.name low behind

  pub parent-is : parent_path before l.depth ≡ way (take j ss)
  parent-is = ap (parent_path before) (sym at) ∙ t.parent j low

  pub path-below : e.path ≡ way (take j ss) ++ step_tokens new
  path-below =
      ap (λ p. p ++ steps l.name (place_of l.in_array (place_among before l.depth l.name))) parent-is
      ∙ ap (λ n. way (take j ss) ++ steps l.name (place_of l.in_array n)) place-is

  pub path-is : e.path ≡ way ss'
  path-is = path-below ∙ sym (way_more (take j ss) new)

  size : length ss' ≡ suc j
  size = length-new j ss new low

  deep-more : deepest (l ∷ lines_of before) ≤ suc (length ss')
  deep-more = by_kind (is_class_kind l.kind)
    where
      by_kind : (b : Bool) → (if b then suc l.depth else l.depth) ≤ suc (length ss')
      by_kind true = omega (arith, size, at)
      by_kind false = omega (arith, size, at)

  within : (i : ℕ) → i ≤ length ss' → (i < j) ⊎ ((i ≡ j) ⊎ (i ≡ suc j))
  within i h = spots i j (omega (arith, h, size))

  parent-more : (i : ℕ) → i ≤ length ss' → parent_path (e ∷ before) (suc i) ≡ way (take i ss')
  parent-more i h = elim (within i h) [
    | inl a ↦ old (omega (arith, a))
    | inr b ↦ elim b [
      | inl a ↦ old (omega (arith, a))
      | inr a ↦ parent-new e before (suc i) (omega (arith, a, at)) ∙ path-is ∙ ap way (sym (ap (λ n. take n ss') a ∙ take-all j ss new low))
    ]
  ]
    where
      old : i ≤ j → parent_path (e ∷ before) (suc i) ≡ way (take i ss')
      old a = parent-old e before (suc i) (omega (arith, a, at)) ∙ t.parent i (omega (arith, a, low)) ∙ ap way (sym (take-before j ss new i low a))

  newest-more : (i : ℕ) → i ≤ length ss' → last_sibling (suc i) (l ∷ lines_of before) ≡ sibling_at (slice_get ss' i)
  newest-more i h = elim (within i h) [
    | inl a ↦ past-line l.depth (suc i) _ _ _ (omega (arith, a, at)) ∙ t.newest i (omega (arith, a, low)) ∙ ap sibling_at (sym (get-before j ss new i low a))
    | inr b ↦ elim b [
      | inl a ↦ at-line l.depth (suc i) _ _ _ (omega (arith, a, at)) ∙ ap sibling_at (sym (ap (slice_get ss') a ∙ get-new j ss new low))
      | inr a ↦ above-line l.depth (suc i) _ _ _ (omega (arith, a, at)) ∙ ap sibling_at (sym (get-past j ss new i low (omega (arith, a))))
    ]
  ]

  -- behind a line that is as deep
  place-beside : (i : ℕ) (name : Bytes) → i ≡ j → is_behind (Some new) name ≡ true → place_among (e ∷ before) (suc i) name ≡ next_place (Some new) name
  place-beside i name a b =
      place-past e before (suc i) name (ne_eqb (suc l.depth) (suc i) (λ q. omega (arith, a, at, q)))
      ∙ ap (λ x. cond (x && bytes_eq l.name name) 1 0 + place_among before (suc i) name) (eq-eqb l.depth (suc i) (omega (arith, a, at)))
      ∙ ap (λ n. cond (bytes_eq l.name name) 1 0 + place_among before (suc n) name) a
      ∙ by_name (bytes_eq l.name name) refl b
    where
      by_name : (x : Bool) → bytes_eq l.name name ≡ x → (bytes_lt l.name name || x) ≡ true → cond x 1 0 + place_among before (suc j) name ≡ (if x then suc new.place else 0)
      by_name true same q =
          let here : place_among before (suc j) name ≡ new.place = ap (place_among before (suc j)) (sym (bytes_eq-true l.name name same)) ∙ t.place j l.name low behind in
          omega (arith, here)
      by_name false other q =
          let past = later (slice_get ss j) l.name name behind (alone (bytes_lt l.name name) q) in
          zero-add (place_among before (suc j) name) ∙ t.place j name low past.0 ∙ past.1
        where
          alone : (y : Bool) → (y || false) ≡ true → y ≡ true
          alone true z = refl
          alone false z = z

  place-more : (i : ℕ) (name : Bytes) → i ≤ length ss' → is_behind (slice_get ss' i) name ≡ true → place_among (e ∷ before) (suc i) name ≡ next_place (slice_get ss' i) name
  place-more i name h b = elim (within i h) [
    | inl a ↦
        let kept = get-before j ss new i low a in
        place-past e before (suc i) name (ne_eqb (suc l.depth) (suc i) (λ q. omega (arith, a, at, q)))
        ∙ ap (λ x. cond (x && bytes_eq l.name name) 1 0 + place_among before (suc i) name) (ne_eqb l.depth (suc i) (λ q. omega (arith, a, at, q)))
        ∙ zero-add (place_among before (suc i) name)
        ∙ t.place i name (omega (arith, a, low)) (ap (λ o. is_behind o name) (sym kept) ∙ b)
        ∙ ap (λ o. next_place o name) (sym kept)
    | inr c ↦ elim c [
      | inl a ↦
          let here = ap (slice_get ss') a ∙ get-new j ss new low in
          place-beside i name a (ap (λ o. is_behind o name) (sym here) ∙ b) ∙ ap (λ o. next_place o name) (sym here)
      | inr a ↦
          place-here e before (suc i) name (eq-eqb (suc l.depth) (suc i) (omega (arith, a, at)))
          ∙ ap (λ o. next_place o name) (sym (get-past j ss new i low (omega (arith, a))))
    ]
  ]

  pub leads-more : Leads (e ∷ before) ss'
  leads-more = record { deep = deep-more; parent = parent-more; newest = newest-more; place = place-more }

-- ---- the kept lines

pub tracks-none : Tracks [] []
tracks-none = record {
  leads = record { deep = omega arith; parent = λ k h. none k h; newest = λ k h. refl; place = λ k name h b. refl };
  counted = λ k. tt;
}
  where
    none : (k : ℕ) → k ≤ 0 → parent_path [] (suc k) ≡ way (take k [])
    none zero h = refl
    none (suc k) h = absurd (omega (arith, h))

module _ (ls : List Line) (ss : List Step) (l : Line) (t : Tracks ls ss) (small : length ls < 2 ^ 64) where
  pub is-counted : IsCounted ss l
  is-counted = more (slice_get ss (l.depth - 1)) (length ls) (2 ^ 64 - 1) (omega (arith, small)) (t.counted (l.depth - 1))

  module _ (fits : may_come (back ls) l ≡ true) where
    fits-located : may_come (lines_of (located_back ls)) l ≡ true
    fits-located = ap (λ b. may_come b l) (back-lines ls) ∙ fits

    pub tracks-more : Tracks (ls ++ l ∷ []) (went_on ss l)
    tracks-more = record {
      leads = subst (λ b. Leads b (went_on ss l)) (sym (onto-push ls l [])) (leads-more (located_back ls) ss l t.leads fits-located);
      counted = few;
    }
      where
        j : ℕ
        j = l.depth - 1

        low : j ≤ length ss
        low =
            let c = came (lines_of (located_back ls)) l fits-located in
            let reached = c.reached in let deep = t.leads.deep in let positive = c.positive in
            omega (arith, positive, reached, deep)

        longer : length (ls ++ l ∷ []) ≡ suc (length ls)
        longer = grind (arith, common_steps)

        few : (i : ℕ) → IfSome (slice_get (went_on ss l) i) (λ s. s.place < length (ls ++ l ∷ []))
        few i = elim (cases_lt i j) [
          | inl a ↦
              subst (λ o. IfSome o (λ s. s.place < length (ls ++ l ∷ []))) (sym (get-before j ss (step_of ss l) i low a))
              (more (slice_get ss i) (length ls) (length (ls ++ l ∷ [])) (omega (arith, longer)) (t.counted i))
          | inr b ↦ elim (cases_lt j i) [
            | inl a ↦ subst (λ o. IfSome o (λ s. s.place < length (ls ++ l ∷ []))) (sym (get-past j ss (step_of ss l) i low a)) tt
            | inr a ↦
                let same : i ≡ j = omega (arith, a, b) in
                subst (λ o. IfSome o (λ s. s.place < length (ls ++ l ∷ []))) (sym (ap (slice_get (went_on ss l)) same ∙ get-new j ss (step_of ss l) low))
                (subst (λ n. (step_of ss l).place < n) (sym longer) (next-few (slice_get ss j) l.name (length ls) (t.counted j)))
          ]
        ]

    -- If no gate refuses at the parent of a class, the gates at the class or its array decide whether one refuses at
    -- the class.
    pub shuts : (c : Case) (s : Standing) → is_refused c s (parent_path (located_back ls) l.depth) ≡ false →
        is_stopped c s ss l ≡ is_shutting (is_refused c s) (placed (located_back ls) l)
    shuts c s h =
        let e = placed (located_back ls) l in
        let p = way (take (l.depth - 1) ss) in
        let deep = not-root (parent_path (located_back ls) l.depth) l.name (place_of l.in_array (place_among (located_back ls) l.depth l.name)) in
        ap (λ b. is_class_kind l.kind && b) (stopped-is c s p (step_of ss l) (sym (ap (is_refused c s) (parent-is (located_back ls) ss l t.leads fits-located)) ∙ h))
        ∙ ap (λ q. is_class_kind l.kind && (not s.source && is_some (refusal_at c s q))) (sym (path-below (located_back ls) ss l t.leads fits-located))
        ∙ ap (λ r. is_class_kind l.kind && (not r && (not s.source && is_some (refusal_at c s e.path)))) (sym deep)
