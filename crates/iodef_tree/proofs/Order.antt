-- The order of texts, and prefixes of paths.
use Rattle.std.proofs.Common.{◌≡◌, ℕ, ◌^◌, ◌<◌, [], ◌∷◌, ◌++◌, true, false, ◌&&◌, decimal, refl, sym, ◌∙◌, ap, append-nil, Ordering, Less, is_eq, true≢false}
use Rattle.std.proofs.{Common.{arith, Option, bytes_eq, nat_cmp, is_lt}, lemmas.{Bool.{and_parts, false≢true}, Cmp.nat_list_cmp_total, Fmt.decimal_injective}}
use Rattle.std.{proofs.lemmas.{Grind.common_steps, Map.Text.is_eq-slice_cmp, Slice.Eq.bytes_eq-Decides}, specs.Cmp.Lexicographic.slice_cmp}
use Rattle.{json_pointer.specs.Text.{Bytes, Tokens, bytes_lt, same_path, is_prefix, is_under}, iodef_tree.specs.Tree.steps}
pub use Rattle.std.proofs.lemmas.Bool.{false_from_ne_true as is_false}

-- ---- texts

pub bytes_eq-refl : (x : Bytes) → bytes_eq x x ≡ true
bytes_eq-refl x = (bytes_eq-Decides x x).1 refl

pub bytes_eq-true : (x y : Bytes) → bytes_eq x y ≡ true → x ≡ y
bytes_eq-true x y = (bytes_eq-Decides x y).0

less : (o : Ordering) → is_lt o ≡ true → o ≡ Less
less o h = grind arith

pub bytes_lt-less : (x y : Bytes) → bytes_lt x y ≡ true → slice_cmp nat_cmp x y ≡ Less
bytes_lt-less x y = less (slice_cmp nat_cmp x y)

pub bytes_lt-trans : (x y z : Bytes) → bytes_lt x y ≡ true → bytes_lt y z ≡ true → bytes_lt x z ≡ true
bytes_lt-trans x y z h k = ap is_lt (nat_list_cmp_total.trans x y z (bytes_lt-less x y h) (bytes_lt-less y z k))

-- of two texts of which one is before the other, neither is the other
pub bytes_lt-ne : (x y : Bytes) → bytes_lt x y ≡ true → bytes_eq x y ≡ false
bytes_lt-ne x y h = sym (is_eq-slice_cmp x y) ∙ ap is_eq (bytes_lt-less x y h)

pub bytes_lt-ne_back : (x y : Bytes) → bytes_lt x y ≡ true → bytes_eq y x ≡ false
bytes_lt-ne_back x y h =
    is_false (bytes_eq y x) (λ same. true≢false (sym (bytes_eq-refl x) ∙ ap (bytes_eq x) (sym (bytes_eq-true y x same)) ∙ bytes_lt-ne x y h))

-- two places have the same digits only if they are the same place
pub decimals_differ : (j k : ℕ) → j < k → k < 2 ^ 64 → (bytes_eq (decimal j) (decimal k) ≡ false) × (bytes_eq (decimal k) (decimal j) ≡ false)
decimals_differ j k lt small = grind (arith, bytes_eq-true, decimal_injective)

-- ---- paths

pub same_path-refl : (p : Tokens) → same_path p p ≡ true
same_path-refl [] = refl
same_path-refl (x ∷ p) = ap (λ b. b && same_path p p) (bytes_eq-refl x) ∙ same_path-refl p

pub same_path-true : (p q : Tokens) → same_path p q ≡ true → p ≡ q
same_path-true (x ∷ p) (y ∷ q) h =
    let parts = and_parts (bytes_eq x y) (same_path p q) h in
    let a : x ≡ y = bytes_eq-true x y parts.0 in
    let b : p ≡ q = same_path-true p q parts.1 in cc
same_path-true p q h = grind (arith, false≢true)

pub same_path-common : (p a b : Tokens) → same_path (p ++ a) (p ++ b) ≡ same_path a b
same_path-common [] a b = refl
same_path-common (x ∷ p) a b = ap (λ t. t && same_path (p ++ a) (p ++ b)) (bytes_eq-refl x) ∙ same_path-common p a b

pub is_under-common : (p a b : Tokens) → is_under (p ++ a) (p ++ b) ≡ is_under a b
is_under-common [] a b = refl
is_under-common (x ∷ p) a b = ap (λ t. t && is_under (p ++ a) (p ++ b)) (bytes_eq-refl x) ∙ is_under-common p a b

-- no path is below itself
pub is_under-self : (p : Tokens) → is_under p p ≡ false
is_under-self [] = refl
is_under-self (x ∷ p) = ap (λ t. t && is_under p p) (bytes_eq-refl x) ∙ is_under-self p

-- a path is a prefix of each path that goes on from it
pub is_prefix-append : (p z : Tokens) → is_prefix p (p ++ z) ≡ true
is_prefix-append [] z = refl
is_prefix-append (x ∷ p) z = ap (λ t. t && is_prefix p (p ++ z)) (bytes_eq-refl x) ∙ is_prefix-append p z

-- no path is below one that is no prefix of it
pub is_under-is_prefix : (q p : Tokens) → is_prefix q p ≡ false → is_under q p ≡ false
is_under-is_prefix (x ∷ q) (y ∷ p) h = grind (arith, (is_under-is_prefix q p))
is_under-is_prefix q p h = grind arith

pub same_path-is_prefix : (q p : Tokens) → is_prefix q p ≡ false → same_path q p ≡ false
same_path-is_prefix q p h = is_false (same_path q p) (λ same. true≢false (sym (is_prefix-append q []) ∙ ap (is_prefix q) (append-nil q ∙ same_path-true q p same) ∙ h))

-- a path below another is below each prefix of that one
pub is_under-weaker : (p y x : Tokens) → is_under (p ++ y) x ≡ true → is_under p x ≡ true
is_under-weaker [] [] x h = h
is_under-weaker [] (b ∷ y) [] h = absurd (false≢true h)
is_under-weaker [] (b ∷ y) (c ∷ x) h = refl
is_under-weaker (a ∷ p) y [] h = absurd (false≢true h)
is_under-weaker (a ∷ p) y (c ∷ x) h =
    let parts = and_parts (bytes_eq a c) (is_under (p ++ y) x) h in
    ap (λ b. b && is_under p x) parts.0 ∙ is_under-weaker p y x parts.1

-- a member is below its parent, and so is each path that goes on from the member's
pub is_under-steps : (p : Tokens) (name : Bytes) (place : Option ℕ) (z : Tokens) → is_under p (p ++ (steps name place ++ z)) ≡ true
is_under-steps (x ∷ p) name place z = ap (λ b. b && is_under p (p ++ (steps name place ++ z))) (bytes_eq-refl x) ∙ is_under-steps p name place z
is_under-steps p name place z = grind arith

-- a member's path is not its parent's
pub same_path-longer : (p : Tokens) (name : Bytes) (place : Option ℕ) (z : Tokens) → same_path p (p ++ (steps name place ++ z)) ≡ false
same_path-longer p name place z = grind (arith, common_steps, bytes_eq-refl)
