-- Parameters, one after another.
use Rattle.{std.proofs.Common.{◌≡◌, ℕ, List, [], ◌∷◌, Option, Some, None, Bor}, hub_http.specs.declared.fields.Sole.{Sole, TheVariants.{Missing, One, Several}}}

-- the value found so far, as a list
abbrev pub held : Option (Bor (List ℕ)) → List (List ℕ)
held None = []
held (Some value) = value.now ∷ []

-- the values are the one found so far, and then the rest
abbrev pub IsFront : List (List ℕ) → Sole → List (List ℕ) → Type 0
IsFront all Missing rest = all ≡ rest
IsFront all (One value) rest = all ≡ value.now ∷ rest
IsFront all Several rest = ⊥
