-- The bytes that UTF-8 writes a character with.
use Rattle.std.{proofs.{Common.{◌≡◌, ◌≤◌, ◌⊎◌, ℕ, List, [], ◌∷◌, arith}, lemmas.Bool.ltb-false}, specs.Char.encode_utf8}

-- none of them is ASCII
abbrev pub AreHigh : List ℕ → Type 0
AreHigh [] = Unit {0}
AreHigh (b ∷ bs) = (128 ≤ b) × AreHigh bs

-- these bytes are no ASCII character
abbrev pub IsHigh : ℕ → List ℕ → Type 0
IsHigh c bytes = (128 ≤ c) × (b : ℕ) × (bs : List ℕ) × (bytes ≡ b ∷ bs) × AreHigh (b ∷ bs)

-- a character is its own byte, or none of its bytes is ASCII
pub encode_utf8-cases : (c : ℕ) → (encode_utf8 c ≡ c ∷ []) ⊎ IsHigh c (encode_utf8 c)
unfolding encode_utf8
encode_utf8-cases c = grind (arith, ltb-false)
