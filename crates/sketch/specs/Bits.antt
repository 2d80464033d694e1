-- A set of numbers as bytes: each number sets one bit. So a number whose bit is 0 isn't in the set, and one whose bit is
-- 1 may be.
use Rattle.std.specs.Prelude.{◌≡◌, ℕ, ◌*◌, ◌/◌, ◌%◌, ◌<◌, Bool, ◌&&◌, ◌==◌, List, length, slice_index}
use Rattle.std.specs.List.{list_any}
use Rattle.std.specs.Int.{bit_at}

-- a number spread out: the bits above the lowest 24 of its product with an odd number of 32 bits
abbrev pub spread : ℕ → ℕ
spread n = n * 2654435761 / 16777216

-- the byte in which a number has its bit, in a set of so many bytes
abbrev pub byte_of : ℕ → ℕ → ℕ
byte_of size n = spread n % size

-- the place of its bit in that byte
abbrev pub place_of : ℕ → ℕ → ℕ
place_of size n = spread n / size % 8

-- whether a byte has a 1 at a place
abbrev pub is_one : ℕ → ℕ → Bool
is_one byte place = bit_at byte place == 1

-- whether the bit of a number is 1
abbrev pub holds : List ℕ → ℕ → Bool
holds bytes n = is_one (slice_index bytes (byte_of (length bytes) n)) (place_of (length bytes) n)

-- whether a number has its bit at this place of this byte
abbrev pub is_at : ℕ → ℕ → ℕ → ℕ → Bool
is_at size byte place n = (byte_of size n == byte) && (place_of size n == place)

-- a bit of the bytes is 1 exactly if it is that of one of these numbers
abbrev pub AreBitsOf : List ℕ → List ℕ → Type 0
AreBitsOf bytes ns = (byte place : ℕ) → byte < length bytes → place < 8 →
    is_one (slice_index bytes byte) place ≡ list_any (is_at (length bytes) byte place) ns
