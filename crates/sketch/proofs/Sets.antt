-- Which bits are set in a set of numbers.
use Rattle.std.proofs.Common.{arith, ◌≡◌, ◌≢◌, ℕ, ◌+◌, ◌*◌, ◌%◌, ◌^◌, ◌<◌, ◌≤◌, List, [], ◌∷◌, ◌++◌, Bool, true, ◌&&◌, ◌||◌, ◌==◌, length, replicate, get_or}
use Rattle.std.proofs.{Common.{set, drop, map, min, bit_or, w8, refl, sym, ◌∙◌, ap, subst, append_assoc, ◌⊎◌, inl, inr}, Math.Pow.{pow-lt, pow_mono}}
use Rattle.std.proofs.lemmas.{Bool.{and_from, or_left, or_right, eq-eqb, ne_eqb, cases_eq}, List.{get_or-set_same, get_or-set_other, length-set}}
use Rattle.std.proofs.lemmas.{List.{length-replicate, get_or-replicate, at_drop_more, Folds.list_any-append}, Nat.Bits.{bit_at_set_same, bit_at_set_other}}
use Rattle.{std.{proofs.lemmas.Nat.Bits.bit_at-zero, specs.List.{list_any, list_all}}, sketch.proofs.Numbers.{put_all-append, length-put_all}}
use Rattle.sketch.specs.{Bits.{byte_of, place_of, is_one, holds, is_at, AreBitsOf}, Runs.{runs, base_of}, Sketched.{runs_in, handled_runs_in, IsSizeFor}}
use Rattle.sketch.specs.{declared.holding.Holding.Holding, inner.{Held.shown, Puts.{put, put_all}}}

-- ---- the place of a bit

pub byte-within : (size n : ℕ) → 0 < size → byte_of size n < size
byte-within size n some = omega arith

pub place-within : (size n : ℕ) → place_of size n < 8
place-within size n = omega arith

-- ---- one number

-- the mask of a place
abbrev mask : ℕ → ℕ
mask k = 1 * 2 ^ k % 2 ^ 8

one-set : (x k place : ℕ) → k < 8 → is_one (bit_or x (mask k)) place ≡ ((k == place) || is_one x place)
one-set x k place low = by_place (cases_eq place k)
  where
    by_place : (place ≡ k) ⊎ (place ≢ k) → is_one (bit_or x (mask k)) place ≡ ((k == place) || is_one x place)
    by_place (inl same) =
        ap (λ p. is_one (bit_or x (mask k)) p) same ∙ ap (λ b. b == 1) (bit_at_set_same w8 x k low) ∙ sym (or_left (k == place) (is_one x place) (eq-eqb k place (sym same)))
    by_place (inr other) =
        ap (λ b. b == 1) (bit_at_set_other w8 x k low place other) ∙ ap (λ b. b || is_one x place) (sym (ne_eqb k place (λ same. other (sym same))))

length-put : (bytes : List ℕ) (n : ℕ) → length (put bytes n) ≡ length bytes
length-put bytes n = length-set bytes (byte_of (length bytes) n) _

put-bit : (bytes : List ℕ) (n byte place : ℕ) → byte < length bytes → place < 8 →
    is_one (get_or (put bytes n) byte 0) place ≡ (is_at (length bytes) byte place n || is_one (get_or bytes byte 0) place)
put-bit bytes n byte place low small = by_byte (cases_eq byte (byte_of (length bytes) n))
  where
    by_byte : (byte ≡ byte_of (length bytes) n) ⊎ (byte ≢ byte_of (length bytes) n) →
        is_one (get_or (put bytes n) byte 0) place ≡ (is_at (length bytes) byte place n || is_one (get_or bytes byte 0) place)
    by_byte (inl same) =
        let size = length bytes in
        let at = byte_of size n in
        let there : at < size = byte-within size n (omega (arith, low)) in
        ap (λ j. is_one (get_or (put bytes n) j 0) place) same
        ∙ ap (λ x. is_one x place) (get_or-set_same bytes at (bit_or (get_or bytes at 0) (mask (place_of size n))) 0 there)
        ∙ one-set (get_or bytes at 0) (place_of size n) place (place-within size n)
        ∙ ap (λ b. (b && (place_of size n == place)) || is_one (get_or bytes at 0) place) (sym (eq-eqb at byte (sym same)))
        ∙ ap (λ j. is_at size byte place n || is_one (get_or bytes j 0) place) (sym same)
    by_byte (inr other) =
        let size = length bytes in
        let at = byte_of size n in
        ap (λ x. is_one x place) (get_or-set_other bytes at byte (bit_or (get_or bytes at 0) (mask (place_of size n))) 0 other)
        ∙ ap (λ b. (b && (place_of size n == place)) || is_one (get_or bytes byte 0) place) (sym (ne_eqb at byte (λ same. other (sym same))))

-- ---- all numbers

or-swap : (a b c : Bool) → ((a || b) || c) ≡ (b || (a || c))
or-swap a b c = grind arith

put_all-bit : (bytes ns : List ℕ) (byte place : ℕ) → byte < length bytes → place < 8 →
    is_one (get_or (put_all bytes ns) byte 0) place ≡ (is_one (get_or bytes byte 0) place || list_any (is_at (length bytes) byte place) ns)
put_all-bit bytes [] byte place low small = grind arith
put_all-bit bytes (n ∷ ns) byte place low small =
    let size = length-put bytes n in
    put_all-bit (put bytes n) ns byte place (omega (arith, low, size)) small
    ∙ ap (λ s. is_one (get_or (put bytes n) byte 0) place || list_any (is_at s byte place) ns) size
    ∙ ap (λ b. b || list_any (is_at (length bytes) byte place) ns) (put-bit bytes n byte place low small)
    ∙ or-swap (is_at (length bytes) byte place n) (is_one (get_or bytes byte 0) place) (list_any (is_at (length bytes) byte place) ns)

-- what is put into the empty set is in it, and nothing else
pub bits-put : (size : ℕ) (ns : List ℕ) → AreBitsOf (put_all (replicate size 0) ns) ns
bits-put size ns byte place low small =
    let empty : List ℕ = replicate size 0 in
    let none : length empty ≡ size = length-replicate size 0 in
    let all : length (put_all empty ns) ≡ length empty = length-put_all empty ns in
    let here : byte < length empty = omega (arith, low, all) in
    put_all-bit empty ns byte place here small
    ∙ ap (λ x. is_one x place || list_any (is_at (length empty) byte place) ns) (get_or-replicate size byte 0 0 (omega (arith, here, none)))
    ∙ ap (λ b. (b == 1) || list_any (is_at (length empty) byte place) ns) (bit_at-zero place)
    ∙ ap (λ s. list_any (is_at s byte place) ns) (sym all)

-- ---- a number of the set has its bit set

at_itself : (size n : ℕ) → is_at size (byte_of size n) (place_of size n) n ≡ true
at_itself size n = and_from _ _ (eq-eqb (byte_of size n) (byte_of size n) refl) (eq-eqb (place_of size n) (place_of size n) refl)

held-behind : (bytes before ns : List ℕ) → 0 < length bytes → AreBitsOf bytes (before ++ ns) → list_all (holds bytes) ns ≡ true
held-behind bytes before [] some are = refl
held-behind bytes before (n ∷ ns) some are =
    let size = length bytes in
    let test = is_at size (byte_of size n) (place_of size n) in
    let here : list_any test (n ∷ ns) ≡ true = or_left (test n) (list_any test ns) (at_itself size n) in
    and_from (holds bytes n) (list_all (holds bytes) ns)
    (are (byte_of size n) (place_of size n) (byte-within size n some) (place-within size n)
    ∙ list_any-append test before (n ∷ ns) ∙ or_right (list_any test before) (list_any test (n ∷ ns)) here)
    (held-behind bytes (before ++ n ∷ []) ns some (subst (AreBitsOf bytes) (sym (append_assoc before (n ∷ []) ns)) are))

pub all-held : (bytes ns : List ℕ) → 0 < length bytes → AreBitsOf bytes ns → list_all (holds bytes) ns ≡ true
all-held bytes ns some are = held-behind bytes [] ns some are

-- ---- the texts put into a set, one after another

-- the runs of one more text are put into a set
pub put-held : (held : List Holding) (i : ℕ) (d : Holding) (here text : List ℕ) {new whole : List ℕ} → i < length held → text ≡ (get_or held i d).text.now → new ≡ put_all here (runs 0 text) →
    put_all here (runs_in (map shown (drop i held))) ≡ whole → put_all new (runs_in (map shown (drop (i + 1) held))) ≡ whole
put-held held i d here text h is set all =
    let behind = runs_in (map shown (drop (i + 1) held)) in
    ap (λ bs. put_all bs behind) (set ∙ ap (λ t. put_all here (runs 0 t)) is)
    ∙ sym (at_drop_more (λ hs. put_all here (runs_in (map shown hs))) held i d h ∙ put_all-append here (runs 0 (get_or held i d).text.now) behind)
    ∙ all

-- the same, with the handling of its class
pub put-handled : (held : List Holding) (i : ℕ) (d : Holding) (base : ℕ) (here text : List ℕ) {new whole : List ℕ} → i < length held → base ≡ base_of (get_or held i d).handling →
    text ≡ (get_or held i d).text.now → new ≡ put_all here (runs base text) →
    put_all here (handled_runs_in (map shown (drop i held))) ≡ whole → put_all new (handled_runs_in (map shown (drop (i + 1) held))) ≡ whole
put-handled held i d base here text h at is set all =
    let behind = handled_runs_in (map shown (drop (i + 1) held)) in
    let own = base_of (get_or held i d).handling in
    ap (λ bs. put_all bs behind) (set ∙ ap (λ b. put_all here (runs b text)) at ∙ ap (λ t. put_all here (runs own t)) is)
    ∙ sym (at_drop_more (λ hs. put_all here (handled_runs_in (map shown hs))) held i d h ∙ put_all-append here (runs own (get_or held i d).text.now) behind)
    ∙ all

-- ---- the size

-- a size for the bytes that count is one for all bytes
pub size-for : (bytes size : ℕ) → IsSizeFor (min bytes 262144) size → IsSizeFor bytes size
size-for bytes size k = record {
  exponent = k.exponent;
  power = k.power;
  least = k.least;
  most = k.most;
  enough = λ low. let below : 2 ^ k.exponent < 2 ^ 16 = pow-lt low in let few = k.enough low in omega (arith, below, few, k.power);
  no_more = λ high. let many = k.no_more high in omega (arith, many);
}

pub size-within : (bytes size : ℕ) → IsSizeFor bytes size → (64 ≤ size) × (size ≤ 65536)
size-within bytes size k =
    let low : 2 ^ 6 ≤ 2 ^ k.exponent = pow_mono k.least in
    let high : 2 ^ k.exponent ≤ 2 ^ 16 = pow_mono k.most in (omega (arith, low, k.power), omega (arith, high, k.power))
