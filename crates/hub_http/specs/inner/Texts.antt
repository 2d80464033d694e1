-- Texts without their places in memory.
use Rattle.std.specs.Prelude.{◌≡◌, ℕ, ◌<◌, List, [], ◌∷◌, length, map, Option, Result, Ok, Err, option_copied}
use Rattle.std.specs.Borrow.{Bor}
use Rattle.std.specs.Cow.{cow_str_bytes}
use Rattle.std.specs.declared.borrow.CowStr.{CowStr}
use Rattle.std.specs.declared.alloc.Global.{Global}
use Rattle.hub_http.specs.declared.wire_fault.WireFault.{WireFault}
use Rattle.hub_http.specs.declared.fields.Sole.{Sole}
use Rattle.hub_http.specs.declared.fields.Sole.TheVariants.{Missing, One, Several}
use Rattle.hub_http.specs.declared.routes.Resource.{Resource}

-- the bytes of a name and of its value
abbrev pub pair_view : CowStr Global × CowStr Global → List ℕ × List ℕ
pair_view pair = (cow_str_bytes pair.0, cow_str_bytes pair.1)

-- the bytes of names and values
abbrev pub pair_views : List (CowStr Global × CowStr Global) → List (List ℕ × List ℕ)
pair_views pairs = map pair_view pairs

-- how many values there are, and the only one
abbrev pub IsSole : List (List ℕ) → Sole → Type 0
IsSole values Missing = values ≡ []
IsSole values (One value) = values ≡ value.now ∷ []
IsSole values Several = 1 < length values

-- the bytes of a pattern, and its resource
abbrev pub entry_view : Bor (List ℕ) × Resource → List ℕ × Resource
entry_view entry = (entry.0.now, entry.1)

-- the bytes of a text
abbrev pub text_view : Bor (List ℕ) → List ℕ
text_view text = text.now

-- the bytes of texts
abbrev pub texts : List (Bor (List ℕ)) → List (List ℕ)
texts names = map text_view names

-- the text is the wanted one, wherever it is in memory
abbrev pub IsText : Result (Option (Bor (List ℕ))) WireFault → Result (Option (List ℕ)) WireFault → Type 0
IsText (Ok text) wanted = wanted ≡ Ok (option_copied text)
IsText (Err e) wanted = wanted ≡ Err e
