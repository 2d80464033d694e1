-- Texts and paths: their equality and their order.
use Rattle.std.specs.Prelude.{◌≡◌, ℕ, List, [], ◌∷◌, ◌++◌, map, Bool, true, false, ◌&&◌}
use Rattle.std.specs.Ordering.{nat_cmp, is_lt}
use Rattle.std.specs.Cmp.Lexicographic.{slice_cmp}
use Rattle.std.specs.Str.{bytes_eq}
use lib.Pointwise.{pointwise}

-- a text, as the bytes of its UTF-8
abbrev pub Bytes : Type 0
Bytes = List ℕ

-- a path: its reference tokens (RFC 6901 section 3)
abbrev pub Tokens : Type 0
Tokens = List Bytes

-- One text is before another in the byte order of its UTF-8. RFC 8727 leaves the order of members open; this is that
-- of `serde_json`.
abbrev pub bytes_lt : Bytes → Bytes → Bool
bytes_lt x y = is_lt (slice_cmp nat_cmp x y)

-- whether two paths have the same tokens, in the same order
abbrev pub same_path : Tokens → Tokens → Bool
same_path = pointwise bytes_eq

-- whether a path is the root's, which has no token
abbrev pub is_root : Tokens → Bool
is_root [] = true
is_root (x ∷ p) = false

-- whether the first path is a prefix of the second; a path is a prefix of itself and of all that is below it
abbrev pub is_prefix : Tokens → Tokens → Bool
is_prefix [] p = true
is_prefix (x ∷ q) [] = false
is_prefix (x ∷ q) (y ∷ p) = bytes_eq x y && is_prefix q p

-- whether the first path is a proper prefix of the second, so that the second is below it
abbrev pub is_under : Tokens → Tokens → Bool
is_under [] [] = false
is_under [] (y ∷ p) = true
is_under (x ∷ q) [] = false
is_under (x ∷ q) (y ∷ p) = bytes_eq x y && is_under q p

-- a text begins with another
abbrev pub BeginsWith : Bytes → Bytes → Type 0
BeginsWith text front = (rest : Bytes) × (text ≡ front ++ rest)

-- all prefixes of a path, the shortest first and the path itself last
abbrev pub prefixes : Tokens → List Tokens
prefixes [] = [] ∷ []
prefixes (x ∷ p) = [] ∷ map (λ q. x ∷ q) (prefixes p)
