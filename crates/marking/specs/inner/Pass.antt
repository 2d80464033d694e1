-- One pass down the tree: what a class inherits from above, and the first class that breaks the marking rule.
use Rattle.std.specs.Prelude.{ℕ, List, [], ◌∷◌, ◌++◌, reverse, if◌then◌else◌, Option, Some, None, is_some, unwrap_or, option_map, codes, Vec}
use Rattle.std.specs.Option.{option_or}
use Rattle.std.specs.Str.{bytes_eq}
use Rattle.std.specs.declared.alloc.Global.{Global}
use Rattle.iodef_tree.specs.Text.{Bytes, Tokens}
use Rattle.iodef_tree.specs.Tree.{Forest, end, leaf, branch, Body, holds, says, steps}
use Rattle.iodef_tree.specs.Pointer.{pointer_text}
use Rattle.iodef_tree.specs.declared.Text.{Text}
use Rattle.marking.specs.Label.{LabelValue, private}
use Rattle.marking.specs.Marks.{Marked}
use Rattle.marking.specs.Members.{spelled_in, is_rule_kept_in}

-- the tokens from a class down to the first class below it that breaks the marking rule
abbrev pub bad_below : Forest → Option Tokens
bad_below end = None
bad_below (leaf i rest) = bad_below rest
bad_below (branch name place kids rest) =
    option_or (option_map (λ t. steps name place ++ t) (if is_rule_kept_in kids then bad_below kids else Some [])) (bad_below rest)

-- the tokens from a class down to the first class that breaks the marking rule, of itself and those below it; a plain
-- content has none
abbrev pub bad_in_body : Body → Option Tokens
bad_in_body (holds kids) = if is_rule_kept_in kids then bad_below kids else Some []
bad_in_body (says content) = None

-- the tokens of a path that was gathered from its end
abbrev pub tokens_of : Vec Text Global → Tokens
tokens_of trail = reverse trail.items

-- the own label of a class by its JSON pointer and its members: the label they spell, or the default of the Incident
abbrev pub own_below : Bytes → Forest → Option LabelValue
own_below pointer kids = option_or (spelled_in kids) (if bytes_eq pointer (codes "/Incident/0") then Some private else None)

-- how a class below is marked: a class with an own label is its own site, and any other inherits label and site
abbrev pub marked_step : Marked → Bytes → Option LabelValue → Marked
marked_step above path own = record { path = path; label = unwrap_or own above.label; site = if is_some own then path else above.site }

-- how a class is marked that is a member of the one above, by its name, place and members
abbrev pub enter : Marked → Bytes → Option ℕ → Forest → Marked
enter above name place kids =
    let path = above.path ++ pointer_text (steps name place) in marked_step above path (own_below path kids)

-- how the classes below are marked, in stored order
abbrev pub marked_below : Marked → Forest → List Marked
marked_below above end = []
marked_below above (leaf i rest) = marked_below above rest
marked_below above (branch name place kids rest) =
    let here = enter above name place kids in here ∷ (marked_below here kids ++ marked_below above rest)
