-- A text contains a needle exactly if a search of it finds one.
use Rattle.std.proofs.Common.{◌≡◌, ℕ, zero, suc, ◌+◌, ◌<◌, true, false, ◌==◌, [], ◌∷◌, length, refl, sym, ◌∙◌, ap, arith, suc-add, Option, Some, None, is_some}
use Rattle.std.proofs.{Common.{slice_index, eqb-true, eq-eqb, true≢false}, lemmas.Bool.{and_parts, and_from, or_left, or_right, or_from}}
use Rattle.{memchr.specs.Find.{OccursAt, FindsNeedle}, iodef_tree.{proofs.Order.is_false, specs.Text.Bytes}, redact.specs.Told.{begins_with, has_needle}}

-- ---- at the front

next : (j : ℕ) → 0 + suc j ≡ suc (0 + j)
next j = omega arith

occurs-front : (needle t : Bytes) → begins_with needle t ≡ true → OccursAt t needle 0
occurs-front [] t h = record { fits = omega arith; reads = λ j low. absurd (omega (arith, low)) }
occurs-front (x ∷ needle) [] h = absurd (true≢false (sym h))
occurs-front (x ∷ needle) (y ∷ t) h =
    let two = and_parts (x == y) (begins_with needle t) h in
    let rest = occurs-front needle t two.1 in
    record { fits = omega (arith, rest.fits); reads = λ j low. read j low (eqb-true x y two.0) rest }
  where
    read : (j : ℕ) → j < length (x ∷ needle) → x ≡ y → OccursAt t needle 0 → slice_index (y ∷ t) (0 + j) ≡ slice_index (x ∷ needle) j
    read zero low same rest = sym same
    read (suc j) low same rest = ap (slice_index (y ∷ t)) (next j) ∙ rest.reads j (omega (arith, low))

front-occurs : (needle t : Bytes) → OccursAt t needle 0 → begins_with needle t ≡ true
front-occurs [] t o = refl
front-occurs (x ∷ needle) [] o = absurd (omega (arith, o.fits))
front-occurs (x ∷ needle) (y ∷ t) o =
    and_from (x == y) (begins_with needle t) (eq-eqb x y (sym (o.reads 0 (omega arith))))
    (front-occurs needle t (record { fits = omega (arith, o.fits); reads = λ j low. ap (slice_index (y ∷ t)) (sym (next j)) ∙ o.reads (suc j) (omega (arith, low)) }))

-- ---- further on

has-occurs : (needle t : Bytes) (k : ℕ) → OccursAt t needle k → has_needle needle t ≡ true
has-occurs [] [] k o = refl
has-occurs (x ∷ needle) [] k o = absurd (omega (arith, o.fits))
has-occurs needle (y ∷ t) zero o = or_left (begins_with needle (y ∷ t)) (has_needle needle t) (front-occurs needle (y ∷ t) o)
has-occurs needle (y ∷ t) (suc k) o =
    or_right (begins_with needle (y ∷ t)) (has_needle needle t) (has-occurs needle t k (record { fits = omega (arith, o.fits); reads = λ j low. ap (slice_index (y ∷ t)) (sym (suc-add k j)) ∙ o.reads j low }))

never-has : (needle t : Bytes) → ((k : ℕ) → k < length t + 1 → OccursAt t needle k → ⊥) → has_needle needle t ≡ false
never-has needle [] h = is_false (begins_with needle []) (λ b. h 0 (omega arith) (occurs-front needle [] b))
never-has needle (y ∷ t) h =
    or_from (begins_with needle (y ∷ t)) (has_needle needle t) (is_false (begins_with needle (y ∷ t)) (λ b. h 0 (omega arith) (occurs-front needle (y ∷ t) b)))
    (never-has needle t (λ k low o. h (suc k) (omega (arith, low)) (record { fits = omega (arith, o.fits); reads = λ j low. ap (slice_index (y ∷ t)) (suc-add k j) ∙ o.reads j low })))

pub finds_has : (needle t : Bytes) (r : Option ℕ) → FindsNeedle t needle 0 r → is_some r ≡ has_needle needle t
finds_has needle t None h = sym (never-has needle t (λ k low o. h k (omega arith) low o))
finds_has needle t (Some k) h = sym (has-occurs needle t k h.1)
