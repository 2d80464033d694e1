-- How a JSON string holds a byte.
use Rattle.std.proofs.Common.{◌≡◌, ℕ, ◌/◌, ◌%◌, ◌<◌, ◌≤◌, List, [], ◌∷◌, ◌++◌, IsTrue, not, ◌||◌, nat_lt, nat_eq, take, drop, refl, sym, ap, ◌∙◌, subst}
use Rattle.std.{proofs.{Common.{append_assoc, take-append-drop, arith}, lemmas.{Bool.Decides.nat_tests, Grind.flat_map-append}}, specs.Char.digit_char}
use Rattle.{json.specs.Print.{escape_letter, escape_byte, escape}, iodef_tree.specs.Pointer.escaped_byte, json_text.specs.Shown.{shown_byte, shown_bytes}}
use Rattle.json_text.specs.declared.escape.Within.{Within}

-- ---- a byte

pub plain-text : (b : ℕ) → IsTrue (not ((nat_lt b 32 || nat_eq b 34) || nat_eq b 92)) → escape_byte b ≡ b ∷ []
unfolding escape_byte
plain-text b h = grind (arith, nat_tests)

pub plain-token : (b : ℕ) → IsTrue (not ((((nat_lt b 32 || nat_eq b 34) || nat_eq b 92) || nat_eq b 126) || nat_eq b 47)) → escape (escaped_byte b) ≡ b ∷ []
plain-token b h = grind (arith, nat_tests, plain-text)

letter-alone : (b : ℕ) → 0 < escape_letter b → 92 ∷ escape_letter b ∷ [] ≡ escape_byte b
unfolding escape_byte
letter-alone b h = grind (arith, nat_tests)

pub letter-escape : (b l : ℕ) → l ≡ escape_letter b → 0 < l → 92 ∷ l ∷ [] ≡ escape_byte b
letter-escape b l e h = ap (λ x. 92 ∷ x ∷ []) e ∙ letter-alone b (subst (λ x. 0 < x) e h)

control-alone : (b : ℕ) → escape_letter b ≤ 0 → b < 32 → 92 ∷ 117 ∷ 48 ∷ 48 ∷ digit_char (b / 16) ∷ digit_char (b % 16) ∷ [] ≡ escape_byte b
unfolding escape_byte
control-alone b h k = grind (arith, nat_tests)

pub control-escape : (b l high low : ℕ) → l ≡ escape_letter b → l ≤ 0 → b < 32 → high ≡ digit_char (b / 16) → low ≡ digit_char (b % 16) →
    92 ∷ 117 ∷ 48 ∷ 48 ∷ high ∷ low ∷ [] ≡ escape_byte b
control-escape b l high low e h k p q =
    ap (λ x. 92 ∷ 117 ∷ 48 ∷ 48 ∷ x ∷ low ∷ []) p ∙ ap (λ x. 92 ∷ 117 ∷ 48 ∷ 48 ∷ digit_char (b / 16) ∷ x ∷ []) q ∙ control-alone b (subst (λ x. x ≤ 0) e h) k

other-alone : (b : ℕ) → escape_letter b ≤ 0 → 32 ≤ b → b ∷ [] ≡ escape_byte b
unfolding escape_byte
other-alone b h k = grind (arith, nat_tests)

pub other-escape : (b l : ℕ) → l ≡ escape_letter b → l ≤ 0 → 32 ≤ b → b ∷ [] ≡ escape_byte b
other-escape b l e h k = other-alone b (subst (λ x. x ≤ 0) e h) k

pub tilde-token : escape (escaped_byte 126) ≡ 126 ∷ 48 ∷ []
unfolding escape_byte
tilde-token = refl

pub slash-token : escape (escaped_byte 47) ≡ 126 ∷ 49 ∷ []
unfolding escape_byte
slash-token = refl

-- ---- several bytes

-- bytes at the front that are held as they are, and the rest
pub front-shown : (w : Within) (t xs front back all : List ℕ) (n : ℕ) → front ≡ take n xs → back ≡ drop n xs →
    shown_bytes w (take n xs) ≡ take n xs → t ++ shown_bytes w xs ≡ all → (t ++ front) ++ shown_bytes w back ≡ all
front-shown w t xs front back all n p q plain e =
    ap (λ f. (t ++ f) ++ shown_bytes w back) p
    ∙ ap (λ m. (t ++ take n xs) ++ shown_bytes w m) q
    ∙ append_assoc t (take n xs) (shown_bytes w (drop n xs))
    ∙ ap (λ l. t ++ (l ++ shown_bytes w (drop n xs))) (sym plain)
    ∙ ap (λ l. t ++ l) (sym (flat_map-append (shown_byte w) (take n xs) (drop n xs)))
    ∙ ap (λ l. t ++ shown_bytes w l) (take-append-drop n xs)
    ∙ e

-- one byte, and the rest
pub first-shown : (w : Within) (t xs behind all : List ℕ) (b : ℕ) → xs ≡ b ∷ behind → t ++ shown_bytes w xs ≡ all →
    (t ++ shown_byte w b) ++ shown_bytes w behind ≡ all
first-shown w t xs behind all b p e = append_assoc t (shown_byte w b) (shown_bytes w behind) ∙ ap (λ l. t ++ shown_bytes w l) (sym p) ∙ e
