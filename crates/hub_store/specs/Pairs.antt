-- Sets of pairs of numbers in one table, each with its name.
use Rattle.std.specs.Prelude.{ℕ, pos, List, [], ◌∷◌, map, flat_map, Option, codes}
use Rattle.sqlite_value.specs.declared.value.Value.TheVariants.{Int, Text}
use Rattle.sqlite_value.specs.Order.{Row}
use Rattle.hub_store.specs.Values.{number_or_null}

-- two numbers, and perhaps a third
abbrev pub Pair : Type 0
Pair = (ℕ × ℕ) × Option ℕ

-- the row of a pair, with the name of its set and without the rowid
abbrev pub pair_row : List ℕ → Pair → Row
pair_row kind p = Text kind ∷ Int (pos p.0.0) ∷ Int (pos p.0.1) ∷ number_or_null p.1 ∷ []

-- a name and its set
abbrev pub PairSet : Type 0
PairSet = List ℕ × List Pair

-- the rows of several sets
abbrev pub rows_of_pairs : List PairSet → List Row
rows_of_pairs = flat_map (λ (set : PairSet). map (pair_row set.0) set.1)

-- ---- the two statements

-- the text that puts a pair into a set
abbrev pub put_pair : List ℕ
put_pair = codes "INSERT INTO pair (kind, a, b, value) VALUES (?1, ?2, ?3, ?4)"

-- the text that takes a pair out of a set
abbrev pub take_pair : List ℕ
take_pair = codes "DELETE FROM pair WHERE kind = ?1 AND a = ?2 AND b = ?3"
