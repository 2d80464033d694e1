-- The numbers of what a search asks for: each run of three bytes of a text, and the name of a class.
use Rattle.std.specs.Prelude.{ℕ, ◌+◌, ◌*◌, ◌%◌, List, [], ◌∷◌, Option}
use Rattle.iodef_tree.specs.Text.{Bytes}
use Rattle.marking.specs.declared.label.Handling.{Handling}
use Rattle.sketch.specs.Labels.{code_of}

-- the number of a run of three bytes, counted from a base
abbrev pub run_of : ℕ → ℕ → ℕ → ℕ → ℕ
run_of base a b c = base + ((a * 256 + b) * 256 + c)

-- the run at the front of two bytes and what follows them, and then the runs behind it
abbrev pub runs_from : ℕ → ℕ → ℕ → Bytes → List ℕ
runs_from base a b [] = []
runs_from base a b (c ∷ t) = run_of base a b c ∷ runs_from base b c t

-- the numbers of the three-byte runs of a text behind its first byte
abbrev pub runs_behind : ℕ → ℕ → Bytes → List ℕ
runs_behind base a [] = []
runs_behind base a (b ∷ t) = runs_from base a b t

-- the numbers of the three-byte runs of a text, counted from a base; a text of fewer than three bytes has none
abbrev pub runs : ℕ → Bytes → List ℕ
runs base [] = []
runs base (a ∷ t) = runs_behind base a t

-- the base for a class that is handled so: a range of its own for each handling, and one for `default`
abbrev pub base_of : Option Handling → ℕ
base_of h = code_of h * 16777216

-- the number of a name that goes on from a number, byte by byte, below 2 to the 32nd
abbrev pub number_from : ℕ → Bytes → ℕ
number_from n [] = n
number_from n (x ∷ t) = number_from ((n * 16777619 + x) % 4294967296) t

-- the number of a name
abbrev pub number_of : Bytes → ℕ
number_of name = number_from 0 name
