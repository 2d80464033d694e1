-- The escaping of characters.
use Rattle.std.proofs.{Common.{◌≡◌, ◌≢◌, ℕ, false, ◌==◌, List, [], ◌∷◌, ◌++◌, refl, ap, ◌∙◌, arith, encode_utf8}, lemmas.Bool.{ne_eqb, cond-false, or_parts}}
use Rattle.{std.specs.List.list_any, json_pointer.{proofs.Characters.{AreHigh, encode_utf8-cases}, specs.Pointer.{escaped_byte, is_escaped_byte, escaped}}}

-- a byte that is neither a tilde nor a slash is written as it is
plain_byte : (b : ℕ) → b ≢ 126 → b ≢ 47 → escaped_byte b ≡ b ∷ []
plain_byte b t s = cond-false _ _ _ (ne_eqb b 126 t) ∙ cond-false _ _ _ (ne_eqb b 47 s)

escaped-high : (bs : List ℕ) → AreHigh bs → escaped bs ≡ bs
escaped-high [] h = refl
escaped-high (b ∷ bs) h = ap (λ x. x ++ escaped bs) (plain_byte b (λ e. omega arith) (λ e. omega arith)) ∙ ap (λ x. b ∷ x) (escaped-high bs h.1)

-- a character that is neither a tilde nor a slash is written as it is
pub escaped-encode : (c : ℕ) → c ≢ 126 → c ≢ 47 → escaped (encode_utf8 c) ≡ encode_utf8 c
escaped-encode c t s = grind (arith, encode_utf8-cases, escaped-high, plain_byte)

-- a token in which no byte is escaped is written as it is
pub escaped-same : (s : List ℕ) → list_any is_escaped_byte s ≡ false → escaped s ≡ s
escaped-same [] h = refl
escaped-same (b ∷ bs) h =
    let parts = or_parts (is_escaped_byte b) (list_any is_escaped_byte bs) h in
    let tests = or_parts (b == 126) (b == 47) parts.0 in
    ap (λ x. x ++ escaped bs) (cond-false (b == 126) _ _ tests.0 ∙ cond-false (b == 47) _ _ tests.1) ∙ ap (λ x. b ∷ x) (escaped-same bs parts.1)
