-- Sketches of the documents of a state, and what edits make of them.
use Rattle.std.proofs.Common.{◌≡◌, ℕ, ◌+◌, ◌<◌, ◌==◌, not, nat_eq, Bool, true, false, if◌then◌else◌, List, [], ◌∷◌, filter, Option, Some, None, IfSome, inl}
use Rattle.std.proofs.{Common.{inr, refl, sym, ap, ◌∙◌, subst, arith}, lemmas.Bool.{cond-true, cond-false, eq-eqb, Decides.{eqb_tells, nat_tests}}}
use Rattle.{std.specs.{Ordering.is_lt, Prelude.option_map}, circle.specs.{Ordered.{put_by, by_number}, Sound.CountsFrom}, sketch.specs.Sketched.IsSketchOf}
use Rattle.{sketch.specs.declared.sketch.Sketch.Sketch, hub_state.specs.{Documents.Lines, Reads.document_of, Sound.IsSound, State.{State, incident_in}}}
use Rattle.{hub_state.specs.{State.incident_number, declared.state.Incident.Incident}, kept_rows.specs.Drawn.{kept, IsDrawn, AreDrawn, DrawsOnly, LetsGo}}
use Rattle.kept_rows.specs.{Drawn.Keeps, declared.{seen.Seen.Seen, sketches.Sketches.Sketches}}

-- ---- one edit

module _ (n : ℕ) (k : Sketch) where
  put_more : (i : Incident) (is : List Incident) → IsDrawn is n k → IsDrawn (put_by (by_number incident_number) i is) n k
  put_more i [] h = absurd h
  put_more i (j ∷ is) h = elim (is_lt (by_number incident_number i j)) as (λ b. IsDrawn (if b then i ∷ j ∷ is else j ∷ put_by (by_number incident_number) i is) n k) [
    | true ↦ inr h
    | false ↦ elim h [ inl here ↦ inl here | inr on ↦ inr (put_more i is on) ]
  ]

  put_this : (i : Incident) (is : List Incident) → i.naming.number ≡ n → IsSketchOf k i.document → IsDrawn (put_by (by_number incident_number) i is) n k
  put_this i [] same drawn = inl (same, drawn)
  put_this i (j ∷ is) same drawn = elim (is_lt (by_number incident_number i j)) as (λ b. IsDrawn (if b then i ∷ j ∷ is else j ∷ put_by (by_number incident_number) i is) n k) [
    | true ↦ inl (same, drawn)
    | false ↦ inr (put_this i is same drawn)
  ]

  left_others : (m : ℕ) (is : List Incident) → (n == m) ≡ false → IsDrawn is n k → IsDrawn (filter (λ (i : Incident). not (i.naming.number == m)) is) n k
  left_others m [] other h = absurd h
  left_others m (i ∷ is) other h = split (i.naming.number == m) refl (left_others m is other) h
    where
      both : (n == m) ≡ true → (n == m) ≡ false → ⊥
      both t f = cc

      split : (b : Bool) → (i.naming.number == m) ≡ b → (IsDrawn is n k → IsDrawn (filter (λ (j : Incident). not (j.naming.number == m)) is) n k) → IsDrawn (i ∷ is) n k
          → IsDrawn (if not b then i ∷ filter (λ (j : Incident). not (j.naming.number == m)) is else filter (λ (j : Incident). not (j.naming.number == m)) is) n k
      split true at rest (inl here) = absurd (both (sym (ap (λ x. x == m) here.0) ∙ at) other)
      split true at rest (inr on) = rest on
      split false at rest (inl here) = inl here
      split false at rest (inr on) = inr (rest on)

  -- ---- what is found

  above : (m : ℕ) (is : List Incident) → CountsFrom incident_number m is → IsDrawn is n k → m < n
  above m [] counts h = absurd h
  above m (i ∷ is) counts (inl here) = omega (arith, counts.0, here.0)
  above m (i ∷ is) counts (inr on) = let later = above (m + 1) is counts.1 on in omega (arith, later)

  found_in : (m : ℕ) (is : List Incident) → CountsFrom incident_number m is → IsDrawn is n k → (i : Incident) × (incident_in n is ≡ Some i) × IsSketchOf k i.document
  found_in m [] counts h = absurd h
  found_in m (i ∷ is) counts (inl here) = (i, cond-true (i.naming.number == n) _ _ (eq-eqb i.naming.number n here.0), here.1)
  found_in m (i ∷ is) counts (inr on) =
      let later = found_in (m + 1) is counts.1 on in
      let high = above (m + 1) is counts.1 on in
      (later.0, cond-false (i.naming.number == n) _ _ (other (omega (arith, counts.0, high))) ∙ later.1, later.2)
    where
      other : i.naming.number < n → (i.naming.number == n) ≡ false
      other low = elim (eqb_tells i.naming.number n) [ inl t ↦ absurd (omega (arith, t.1)) | inr t ↦ t.0 ]

  -- the document of an incident whose sketch is kept
  pub document_drawn : (s : State) → IsSound s → IsDrawn s.incidents n k → (ls : Lines) × (document_of n s ≡ Some ls) × IsSketchOf k ls
  document_drawn s sound h =
      let found = found_in 0 s.incidents sound.incidents.numbered.0 h in
      (found.0.document, ap (option_map (λ (i : Incident). i.document)) found.1, found.2)

-- ---- edits

some_of : (P : Sketch → Type 0) (o : Option Sketch) (k : Sketch) → o ≡ Some k → IfSome o P → P k
some_of P None k h p = cc
some_of P (Some j) k h p = let same : j ≡ k = cc in subst P same p

pub drawn_put : (i : Incident) (old new : Sketches) (s : State) → DrawsOnly i.naming.number i.document old new → AreDrawn old s →
    (n : ℕ) (k : Sketch) → kept new n ≡ Some k → IsDrawn (put_by (by_number incident_number) i s.incidents) n k
drawn_put i old new s drawn all n k h = elim (drawn n) [
  | inl same ↦ put_more n k i s.incidents (all n k (sym same ∙ h))
  | inr here ↦ put_this n k i s.incidents here.0 (some_of (λ j. IsSketchOf j i.document) (kept new n) k h here.1)
]

pub drawn_taken : (m : ℕ) (old new : Sketches) (s : State) → LetsGo m old new → AreDrawn old s →
    (n : ℕ) (k : Sketch) → kept new n ≡ Some k → IsDrawn (filter (λ (i : Incident). not (i.naming.number == m)) s.incidents) n k
drawn_taken m old new s left all n k h = split (nat_eq m n) refl (left n)
  where
    other : nat_eq m n ≡ false → (n == m) ≡ false
    other e = grind (arith, nat_tests)

    split : (b : Bool) → nat_eq m n ≡ b → kept new n ≡ (if b then None else kept old n) → IsDrawn (filter (λ (i : Incident). not (i.naming.number == m)) s.incidents) n k
    split true at is = absurd (nothing (sym h ∙ is))
      where
        nothing : Some k ≡ None → ⊥
        nothing e = cc
    split false at is = left_others n k m s.incidents (other at) (all n k (sym is ∙ h))

-- a sketch of a document that was read
pub drawn_read : (n : ℕ) (doc : Lines) (old new : Sketches) (s : State) → IsSound s → document_of n s ≡ Some doc → DrawsOnly n doc old new → AreDrawn old s → AreDrawn new s
drawn_read n doc old new s sound is drawn all m k h = elim (drawn m) [
  | inl same ↦ all m k (sym same ∙ h)
  | inr here ↦ read s.incidents (sym here.0) is (some_of (λ j. IsSketchOf j doc) (kept new m) k h here.1)
]
  where
    read : (is : List Incident) → m ≡ n → option_map (λ (i : Incident). i.document) (incident_in n is) ≡ Some doc → IsSketchOf k doc → IsDrawn is m k
    read [] same e of = cc
    read (i ∷ is) same e of = split (i.naming.number == n) refl e (λ f. read is same f of)
      where
        split : (b : Bool) → (i.naming.number == n) ≡ b → option_map (λ (j : Incident). j.document) (if b then Some i else incident_in n is) ≡ Some doc
            → (option_map (λ (j : Incident). j.document) (incident_in n is) ≡ Some doc → IsDrawn is m k) → IsDrawn (i ∷ is) m k
        split true at f rest = inl (number ∙ sym same, subst (IsSketchOf k) (sym document) of)
          where
            number : i.naming.number ≡ n
            number = elim (eqb_tells i.naming.number n) [ inl t ↦ t.1 | inr t ↦ absurd (both at t.0) ]
              where
                both : (i.naming.number == n) ≡ true → (i.naming.number == n) ≡ false → ⊥
                both t g = cc

            document : i.document ≡ doc
            document = cc
        split false at f rest = inr (rest f)

-- what is kept, with such a sketch
pub keeps_read : {rows : State} {seen : Option Seen} (n : ℕ) (doc : Lines) (old new : Sketches) (s : State) → document_of n s ≡ Some doc →
    DrawsOnly n doc old new → Keeps rows old seen s → Keeps rows new seen s
keeps_read n doc old new s is drawn keeps = record {
  same = keeps.same;
  drawn = drawn_read n doc old new s keeps.sound is drawn keeps.drawn;
  person = keeps.person;
  sound = keeps.sound;
}
