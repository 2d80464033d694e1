-- A tree as the program looks at it: its one Incident, and how high it is.
use Rattle.std.specs.Prelude.{ℕ, suc, max, List, [], ◌∷◌, Bool, false, not, ◌&&◌, ◌||◌, if◌then◌else◌, Option, Some, None, is_some, codes}
use Rattle.std.specs.Option.{option_map_or}
use Rattle.std.specs.Str.{bytes_eq}
use Rattle.iodef_tree.specs.Text.{Bytes}
use Rattle.iodef_tree.specs.Tree.{Forest, end, leaf, branch, Body, holds, says, Bodies, one, many, height}
use Rattle.iodef_tree.specs.inner.SoundParts.{kids_of}
use Rattle.iodef_tree.specs.inner.Written.{goes_on}

-- ---- the Incident

-- whether a class has a member of this name
abbrev pub has_name : Bytes → Forest → Bool
has_name name end = false
has_name name (leaf i rest) = bytes_eq i.name name || has_name name rest
has_name name (branch n place kids rest) = bytes_eq n name || has_name name rest

-- whether a class has each member that an Incident must have (RFC 7970 section 3.2)
abbrev pub is_complete : Forest → Bool
is_complete kids =
    (has_name (codes "Contact") kids && has_name (codes "GenerationTime") kids)
    && (has_name (codes "IncidentID") kids && has_name (codes "purpose") kids)

-- the members of a class that is the only element of an array
abbrev pub only_class : Bodies → Option Forest
only_class (many (b ∷ [])) = kids_of b
only_class _ = None

-- the members of the Incident, if the first member of that name is an array of one class
abbrev pub incident_in : Forest → Option Forest
incident_in end = None
incident_in (leaf i rest) = if bytes_eq i.name (codes "Incident") then None else incident_in rest
incident_in (branch name place kids rest) =
    if bytes_eq name (codes "Incident") then (if is_some place && not (goes_on rest) then Some kids else None) else incident_in rest

-- whether the tree of a document has one Incident, with each member that an Incident must have
abbrev pub has_complete_incident_in : Forest → Bool
has_complete_incident_in f = option_map_or is_complete (incident_in f) false

-- ---- the height

-- how many lines are one below the other in one thing
abbrev pub body_height : Body → ℕ
body_height (holds kids) = suc (height kids)
body_height (says content) = 1

-- the same for the elements of an array
abbrev pub tallest : List Body → ℕ
tallest [] = 0
tallest (b ∷ bs) = max (body_height b) (tallest bs)

-- the same for what a member holds
abbrev pub bodies_height : Bodies → ℕ
bodies_height (one b) = body_height b
bodies_height (many bs) = tallest bs
