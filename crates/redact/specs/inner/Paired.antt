-- The places of the kept classes, as pairs of paths.
use Rattle.std.specs.Prelude.{◌≡◌, List, [], ◌∷◌, filter, Option, Some, None, zip, if◌then◌else◌}
use Rattle.iodef_tree.specs.Text.{Tokens, same_path, is_root}
use Rattle.iodef_tree.specs.Paths.{LocatedLine, class_paths, classes_of}
use Rattle.redact.specs.Kept.{Verdicts, is_kept, kept_lines}
use Rattle.redact.specs.Withheld.{Withheld, place_of, withheld_among}

-- the second path of the first pair that has this path as its first, if there is one
abbrev pub beside : List (Tokens × Tokens) → Tokens → Option Tokens
beside [] p = None
beside (x ∷ xs) p = if same_path x.0 p then Some x.1 else beside xs p

-- The paths of the kept classes, each with the path of its line in the kept outline: that has a line for each of them,
-- in the same order. The path of no plain line is used.
abbrev pub class_places : Verdicts → List LocatedLine → List (Tokens × Tokens)
class_places v es = zip (class_paths (filter (is_kept v) es)) (classes_of (kept_lines v es))

-- the place of a class by these pairs
abbrev pub place_by : List (Tokens × Tokens) → Tokens → Option Tokens
place_by ps p = if is_root p then Some [] else beside ps p

-- all that is withheld by these places, in stored order and with repeats
abbrev pub pairs_by : Verdicts → List LocatedLine → List Withheld
pairs_by v es = withheld_among v (place_by (class_places v es)) es

-- The law that the place of a class is the one by these pairs, whatever is decided of each class.
abbrev pub PlacesArePaired : Type 0
PlacesArePaired = (v : Verdicts) (es : List LocatedLine) (p : Tokens) → place_of v es p ≡ place_by (class_places v es) p
