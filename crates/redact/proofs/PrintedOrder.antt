-- The order of printed places by the weights of their bytes.
use Rattle.std.proofs.Common.{◌≡◌, ◌≢◌, ◌⊎◌, inl, inr, ℕ, suc, ◌<◌, ◌≤◌, List, [], ◌∷◌, ◌++◌, append_assoc, Bool, true, false, not, refl, sym, ◌∙◌, ap, arith}
use Rattle.std.proofs.{Common.{length, drop, get_or, drop-cons, bytes_eq, nat_cmp, ◌==◌, Ordering, Less, Equal, Greater}, Math.ListN.drop_of_length-le}
use Rattle.std.{proofs.lemmas.Bool.{ne_eqb, cond-false}, specs.{Cmp.Lexicographic.slice_cmp, Option.option_cmp, Ordering.ordering_then}}
use Rattle.iodef_tree.{proofs.Order.bytes_eq-true, specs.{Pointer.{escaped_byte, escaped, pointer_text}, Text.{Bytes, Tokens, is_root}}}
use Rattle.redact.specs.{declared.trail.Token.Token, inner.{Tokens.{token_of, path_of}, Weights.{weight, weights, first_weight}}}

then-alike : (o r s : Ordering) → (o ≡ Equal → r ≡ s) → ordering_then o r ≡ ordering_then o s
then-alike Less r s h = refl
then-alike Equal r s h = h refl
then-alike Greater r s h = refl

nat_cmp-same : (b : ℕ) → nat_cmp b b ≡ Equal
nat_cmp-same b = grind arith

nat_cmp-equal : (a b : ℕ) → nat_cmp a b ≡ Equal → a ≡ b
nat_cmp-equal a b h = grind arith

weight-apart : (a b : ℕ) → weight a ≡ weight b → a ≡ b
weight-apart a b h = grind arith

-- ---- printed tokens

-- a common beginning of two texts doesn't order them
slice_cmp-common : (front xs ys : List ℕ) → slice_cmp nat_cmp (front ++ xs) (front ++ ys) ≡ slice_cmp nat_cmp xs ys
slice_cmp-common [] xs ys = refl
slice_cmp-common (b ∷ front) xs ys = ap (λ o. ordering_then o (slice_cmp nat_cmp (front ++ xs) (front ++ ys))) (nat_cmp-same b) ∙ slice_cmp-common front xs ys

-- a common first token of two paths doesn't order them
pub same_first : (x y : Bytes) (p q : Tokens) → bytes_eq x y ≡ true →
    slice_cmp nat_cmp (pointer_text (x ∷ p)) (pointer_text (y ∷ q)) ≡ slice_cmp nat_cmp (pointer_text p) (pointer_text q)
same_first x y p q h =
    ap (λ t. slice_cmp nat_cmp (escaped t ++ pointer_text p) (escaped y ++ pointer_text q)) (bytes_eq-true x y h) ∙ slice_cmp-common (escaped y) (pointer_text p) (pointer_text q)

abbrev IsPlain : ℕ → Type 0
IsPlain b = (b ≢ 47) × (b ≢ 126)

byte-cases : (b : ℕ) → (b ≡ 47) ⊎ ((b ≡ 126) ⊎ IsPlain b)
byte-cases b = grind arith

plain_byte : (b : ℕ) → IsPlain b → escaped_byte b ≡ b ∷ []
plain_byte b h = cond-false _ _ _ (ne_eqb b 126 h.1) ∙ cond-false _ _ _ (ne_eqb b 47 h.0)

plain-order : (a b : ℕ) → IsPlain a → IsPlain b → nat_cmp (weight a) (weight b) ≡ nat_cmp a b
plain-order a b h k = grind arith

abbrev OrderedByWeights : ℕ → ℕ → Type 0
OrderedByWeights a b = (xs ys : List ℕ) → slice_cmp nat_cmp (escaped_byte a ++ xs) (escaped_byte b ++ ys) ≡ ordering_then (nat_cmp (weight a) (weight b)) (slice_cmp nat_cmp xs ys)

plain-bytes : (a b : ℕ) → IsPlain a → IsPlain b → OrderedByWeights a b
plain-bytes a b h k xs ys =
    ap (λ s. slice_cmp nat_cmp (s ++ xs) (escaped_byte b ++ ys)) (plain_byte a h)
    ∙ ap (λ s. slice_cmp nat_cmp (a ∷ xs) (s ++ ys)) (plain_byte b k)
    ∙ ap (λ o. ordering_then o (slice_cmp nat_cmp xs ys)) (sym (plain-order a b h k))

slash-first : (b : ℕ) → IsPlain b → OrderedByWeights 47 b
slash-first b h xs ys = ap (λ s. slice_cmp nat_cmp (126 ∷ 49 ∷ xs) (s ++ ys)) (plain_byte b h) ∙ grind arith

tilde-first : (b : ℕ) → IsPlain b → OrderedByWeights 126 b
tilde-first b h xs ys = ap (λ s. slice_cmp nat_cmp (126 ∷ 48 ∷ xs) (s ++ ys)) (plain_byte b h) ∙ grind arith

slash-last : (a : ℕ) → IsPlain a → OrderedByWeights a 47
slash-last a h xs ys = ap (λ s. slice_cmp nat_cmp (s ++ xs) (126 ∷ 49 ∷ ys)) (plain_byte a h) ∙ grind arith

tilde-last : (a : ℕ) → IsPlain a → OrderedByWeights a 126
tilde-last a h xs ys = ap (λ s. slice_cmp nat_cmp (s ++ xs) (126 ∷ 48 ∷ ys)) (plain_byte a h) ∙ grind arith

-- two bytes order the printed tokens as their weights do
printed-bytes : (a b : ℕ) → OrderedByWeights a b
printed-bytes a b = by_cases a b (byte-cases a) (byte-cases b)
  where
    by_cases : (a b : ℕ) → (a ≡ 47) ⊎ ((a ≡ 126) ⊎ IsPlain a) → (b ≡ 47) ⊎ ((b ≡ 126) ⊎ IsPlain b) → OrderedByWeights a b
    by_cases a b (inl e) (inl f) = rw (e, f) (λ xs ys. refl)
    by_cases a b (inl e) (inr (inl f)) = rw (e, f) (λ xs ys. refl)
    by_cases a b (inl e) (inr (inr k)) = rw e (slash-first b k)
    by_cases a b (inr (inl e)) (inl f) = rw (e, f) (λ xs ys. refl)
    by_cases a b (inr (inl e)) (inr (inl f)) = rw (e, f) (λ xs ys. refl)
    by_cases a b (inr (inl e)) (inr (inr k)) = rw e (tilde-first b k)
    by_cases a b (inr (inr h)) (inl f) = rw f (slash-last a h)
    by_cases a b (inr (inr h)) (inr (inl f)) = rw f (tilde-last a h)
    by_cases a b (inr (inr h)) (inr (inr k)) = plain-bytes a b h k

-- the same if one token has ended
ended-first : (b : ℕ) (p : Tokens) (xs ys : List ℕ) →
    slice_cmp nat_cmp (pointer_text p) (escaped_byte b ++ xs) ≡ slice_cmp nat_cmp (weights [] (not (is_root p))) (weight b ∷ ys)
ended-first b p xs ys = grind arith

ended-last : (a : ℕ) (q : Tokens) (xs ys : List ℕ) →
    slice_cmp nat_cmp (escaped_byte a ++ xs) (pointer_text q) ≡ slice_cmp nat_cmp (weight a ∷ ys) (weights [] (not (is_root q)))
ended-last a q xs ys = grind arith

-- two different tokens order the printed paths as their weights do, with what follows them
differing : (x y : Bytes) (p q : Tokens) → bytes_eq x y ≡ false →
    slice_cmp nat_cmp (escaped x ++ pointer_text p) (escaped y ++ pointer_text q) ≡ slice_cmp nat_cmp (weights x (not (is_root p))) (weights y (not (is_root q)))
differing [] [] p q h = absurd (cc)
differing [] (b ∷ y) p q h =
    ap (slice_cmp nat_cmp (pointer_text p)) (append_assoc (escaped_byte b) (escaped y) (pointer_text q))
    ∙ ended-first b p (escaped y ++ pointer_text q) (weights y (not (is_root q)))
differing (a ∷ x) [] p q h =
    ap (λ s. slice_cmp nat_cmp s (pointer_text q)) (append_assoc (escaped_byte a) (escaped x) (pointer_text p))
    ∙ ended-last a q (escaped x ++ pointer_text p) (weights x (not (is_root p)))
differing (a ∷ x) (b ∷ y) p q h =
    let s = escaped x ++ pointer_text p in
    let t = escaped y ++ pointer_text q in
    ap (λ u. slice_cmp nat_cmp u (escaped (b ∷ y) ++ pointer_text q)) (append_assoc (escaped_byte a) (escaped x) (pointer_text p))
    ∙ ap (slice_cmp nat_cmp (escaped_byte a ++ s)) (append_assoc (escaped_byte b) (escaped y) (pointer_text q))
    ∙ printed-bytes a b s t
    ∙ then-alike (nat_cmp (weight a) (weight b)) _ _ (λ e. differing x y p q (behind a b x y (weight-apart a b (nat_cmp-equal (weight a) (weight b) e)) h))
  where
    behind : (a b : ℕ) (x y : Bytes) → a ≡ b → bytes_eq (a ∷ x) (b ∷ y) ≡ false → bytes_eq x y ≡ false
    behind a b x y same h = grind arith

followed : (ts : List Token) → not (is_root (path_of ts)) ≡ not (length ts == 0)
followed [] = refl
followed (t ∷ ts) = grind arith

pub other_first : (x y : Token) (p q : List Token) → bytes_eq (token_of x) (token_of y) ≡ false →
    slice_cmp nat_cmp (weights (token_of x) (not (length p == 0))) (weights (token_of y) (not (length q == 0))) ≡ slice_cmp nat_cmp (pointer_text (path_of (x ∷ p))) (pointer_text (path_of (y ∷ q)))
other_first x y p q h =
    rw (← followed p, ← followed q) (sym (differing (token_of x) (token_of y) (path_of p) (path_of q) h))

-- ---- the loop over two tokens

abbrev pub in_order : Bytes → Bool → Bytes → Bool → Ordering
in_order x f y g = slice_cmp nat_cmp (weights x f) (weights y g)

pub turn_same : (x y : Bytes) (f g : Bool) (i : ℕ) → i < length x → i < length y → get_or x i 0 ≡ get_or y i 0 →
    in_order (drop i x) f (drop i y) g ≡ in_order (drop (suc i) x) f (drop (suc i) y) g
turn_same x y f g i h k same =
    rw (drop-cons x i 0, drop-cons y i 0, same)
    (ap (λ o. ordering_then o (in_order (drop (suc i) x) f (drop (suc i) y) g)) (nat_cmp-same (weight (get_or y i 0))))

pub turn_apart : (x y : Bytes) (f g : Bool) (i : ℕ) → i < length x → i < length y → get_or x i 0 ≢ get_or y i 0 →
    in_order (drop i x) f (drop i y) g ≡ nat_cmp (weight (get_or x i 0)) (weight (get_or y i 0))
turn_apart x y f g i h k apart =
    rw (drop-cons x i 0, drop-cons y i 0)
    (decided (nat_cmp (weight (get_or x i 0)) (weight (get_or y i 0))) _ (λ e. apart (weight-apart _ _ (nat_cmp-equal _ _ e))))
  where
    decided : (o r : Ordering) → (o ≡ Equal → ⊥) → ordering_then o r ≡ o
    decided Less r h = refl
    decided Equal r h = absurd (h refl)
    decided Greater r h = refl

-- if one has ended, the first weight that is left decides
last-weights : (x y : Bytes) (f g : Bool) → (x ≡ []) ⊎ (y ≡ []) → option_cmp nat_cmp (first_weight x f) (first_weight y g) ≡ in_order x f y g
last-weights x y f g h = grind arith

pub at_end : (x y : Bytes) (f g : Bool) (n : ℕ) → (length x ≤ n) ⊎ (length y ≤ n) →
    option_cmp nat_cmp (first_weight (drop n x) f) (first_weight (drop n y) g) ≡ in_order (drop n x) f (drop n y) g
at_end x y f g n (inl h) = last-weights (drop n x) (drop n y) f g (inl (drop_of_length-le x h))
at_end x y f g n (inr h) = last-weights (drop n x) (drop n y) f g (inr (drop_of_length-le y h))
