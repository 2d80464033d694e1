-- Numbers put into a set, one after another.
use Rattle.std.specs.Prelude.{ℕ, ◌*◌, ◌%◌, ◌^◌, List, [], ◌∷◌, length, slice_index, slice_set, bit_or}
use Rattle.sketch.specs.Bits.{byte_of, place_of}

-- the bytes with the bit of a number set
abbrev pub put : List ℕ → ℕ → List ℕ
put bytes n =
    let size = length bytes in
    slice_set bytes (byte_of size n) (bit_or (slice_index bytes (byte_of size n)) (1 * 2 ^ place_of size n % 2 ^ 8))

-- the bytes with the bits of these numbers set
abbrev pub put_all : List ℕ → List ℕ → List ℕ
put_all bytes [] = bytes
put_all bytes (n ∷ ns) = put_all (put bytes n) ns
