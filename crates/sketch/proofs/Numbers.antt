-- The runs of a text, one after another.
use Rattle.std.proofs.Common.{arith, ◌≡◌, ℕ, zero, suc, ◌+◌, ◌<◌, ◌≤◌, List, [], ◌∷◌, length, drop, get_or, ◌++◌, refl, Bool, ◌&&◌, sym, ◌∙◌, ap}
use Rattle.{std.{proofs.lemmas.Grind.common_steps, specs.List.list_all}, sketch.specs.{Bits.holds, Runs.{run_of, runs}, inner.Puts.{put, put_all}}}

next : (base : ℕ) (xs : List ℕ) (j : ℕ) → j + 2 < length xs → runs base (drop j xs) ≡ run_of base (get_or xs j 0) (get_or xs (suc j) 0) (get_or xs (suc (suc j)) 0) ∷ runs base (drop (suc j) xs)
next base [] j h = absurd (omega (arith, h))
next base (a ∷ []) j h = absurd (omega (arith, h))
next base (a ∷ (b ∷ [])) j h = absurd (omega (arith, h))
next base (a ∷ (b ∷ (c ∷ t))) zero h = refl
next base (a ∷ (b ∷ (c ∷ t))) (suc j) h = next base (b ∷ (c ∷ t)) j (omega (arith, h))

pub runs-next : (base : ℕ) (xs : List ℕ) (j : ℕ) → j + 2 < length xs → runs base (drop j xs) ≡ run_of base (get_or xs j 0) (get_or xs (j + 1) 0) (get_or xs (j + 2) 0) ∷ runs base (drop (j + 1) xs)
runs-next base xs j h = grind (arith, next)

pub runs-end : (base : ℕ) (xs : List ℕ) (j : ℕ) → length xs ≤ j + 2 → runs base (drop j xs) ≡ []
runs-end base [] zero h = refl
runs-end base [] (suc j) h = refl
runs-end base (a ∷ []) zero h = refl
runs-end base (a ∷ (b ∷ [])) zero h = refl
runs-end base (a ∷ (b ∷ (c ∷ t))) zero h = absurd (omega (arith, h))
runs-end base (a ∷ t) (suc j) h = runs-end base t j (omega (arith, h))

-- one more run is put into a set
pub put-next : (base : ℕ) (xs : List ℕ) (j : ℕ) (old here new : List ℕ) (n : ℕ) → j + 2 < length xs → n ≡ run_of base (get_or xs j 0) (get_or xs (j + 1) 0) (get_or xs (j + 2) 0) → new ≡ put here n →
    put_all here (runs base (drop j xs)) ≡ put_all old (runs base xs) → put_all new (runs base (drop (j + 1) xs)) ≡ put_all old (runs base xs)
put-next base xs j old here new n low is set all = rw (set, is) (sym (ap (put_all here) (runs-next base xs j low)) ∙ all)

-- one more run is asked for
pub holds-next : (base : ℕ) (xs : List ℕ) (j : ℕ) (bits : List ℕ) (n : ℕ) {here whole : Bool} → j + 2 < length xs → n ≡ run_of base (get_or xs j 0) (get_or xs (j + 1) 0) (get_or xs (j + 2) 0) → here ≡ holds bits n →
    list_all (holds bits) (runs base (drop j xs)) ≡ whole → (here && list_all (holds bits) (runs base (drop (j + 1) xs))) ≡ whole
holds-next base xs j bits n low is at all = rw (at, is) (sym (ap (list_all (holds bits)) (runs-next base xs j low)) ∙ all)

pub ruleset run_steps = (runs-next, runs-end)

-- ---- sets

pub put_all-append : (bytes xs ys : List ℕ) → put_all bytes (xs ++ ys) ≡ put_all (put_all bytes xs) ys
put_all-append bytes [] ys = refl
put_all-append bytes (x ∷ xs) ys = put_all-append (put bytes x) xs ys

pub length-put_all : (bytes ns : List ℕ) → length (put_all bytes ns) ≡ length bytes
length-put_all bytes [] = refl
length-put_all bytes (n ∷ ns) = length-put_all (put bytes n) ns ∙ grind (arith, common_steps)
