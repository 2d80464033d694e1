-- The order of printed places by weights of the bytes of their tokens, so that no pointer has to be printed to be
-- compared.
use Rattle.std.specs.Prelude.{ℕ, List, [], ◌∷◌, ◌++◌, ◌+◌, ◌==◌, Bool, Option, Some, None, map, if◌then◌else◌, nat_lt}
use Rattle.std.specs.Str.{byte}
use Rattle.iodef_tree.specs.Text.{Bytes}

-- The weight of a byte. `~` is printed as `~0` and `/` as `~1`, so `/` comes right behind `~`, and the bytes above `~`
-- are one higher.
abbrev pub weight : ℕ → ℕ
weight b = if b == byte "/" then 127 else (if nat_lt 126 b then b + 1 else b)

-- the weight of the slash behind a token that another follows; no byte has it
abbrev pub slash_weight : ℕ
slash_weight = byte "/"

-- the weights of a token's bytes, with that of the slash if another token follows
abbrev pub weights : Bytes → Bool → List ℕ
weights token is_followed = map weight token ++ (if is_followed then slash_weight ∷ [] else [])

-- the first of these weights, if there is one
abbrev pub first_weight : Bytes → Bool → Option ℕ
first_weight [] is_followed = if is_followed then Some slash_weight else None
first_weight (b ∷ bs) is_followed = Some (weight b)
