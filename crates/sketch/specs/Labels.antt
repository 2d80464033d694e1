-- How the classes of a document are handled, as far as it doesn't depend on the reader.
use Rattle.std.specs.Prelude.{ℕ, List, [], ◌∷◌, map, Bool, if◌then◌else◌, Option, Some, None, is_none}
use Rattle.std.specs.List.{list_any}
use Rattle.std.specs.Option.{option_map_or}
use Rattle.iodef_tree.specs.Text.{Tokens}
use Rattle.iodef_tree.specs.Paths.{LocatedLine, is_class, located, class_paths}
use Rattle.iodef_tree.specs.declared.line.Line.{Line}
use Rattle.marking.specs.Label.{LabelValue, by_arrangement, handling_of, is_at_most, rank}
use Rattle.marking.specs.Marks.{label_at}
use Rattle.marking.specs.declared.label.Handling.{Handling}

-- how a label is handled, whoever reads; none for `default`, which is handled as it is arranged with the reader
abbrev pub fixed_handling : LabelValue → Option Handling
fixed_handling by_arrangement = None
fixed_handling l = Some (handling_of l None)

-- a handling by its rank; 5 for `default`
abbrev pub code_of : Option Handling → ℕ
code_of h = option_map_or rank h 5

-- how the label in force at the class at a path is handled
abbrev pub handling_at : List LocatedLine → Tokens → Option Handling
handling_at es p = fixed_handling (label_at es p)

-- how the label in force at each class of an outline is handled, in stored order
abbrev pub handlings : List Line → List (Option Handling)
handlings ls = let es = located ls in map (handling_at es) (class_paths es)

-- whether the label in force at some class is `default`
abbrev pub has_default : List Line → Bool
has_default ls = list_any is_none (handlings ls)

-- the lesser of two handlings, or the one that there is
abbrev pub lesser : Option Handling → Option Handling → Option Handling
lesser None b = b
lesser (Some a) None = Some a
lesser (Some a) (Some b) = Some (if is_at_most a b then a else b)

-- the least of one handling and those behind it
abbrev pub least_from : Option Handling → List (Option Handling) → Option Handling
least_from a [] = a
least_from a (b ∷ hs) = least_from (lesser a b) hs

-- the least of some handlings; none if there is none
abbrev pub least_of : List (Option Handling) → Option Handling
least_of hs = least_from None hs

-- the least handling at the classes whose label isn't `default`; none if there is no such class
abbrev pub least_handling : List Line → Option Handling
least_handling ls = least_of (handlings ls)

-- whether an outline has a class
abbrev pub has_some_class : List Line → Bool
has_some_class ls = list_any is_class (located ls)
