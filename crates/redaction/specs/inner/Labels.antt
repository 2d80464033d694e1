-- The strictest label of a tree, as the program finds it.
use Rattle.std.specs.Prelude.{List, [], ◌∷◌, Option}
use Rattle.iodef_tree.specs.Tree.{Forest, end, leaf, branch, Body, holds, says, Bodies, one, many}
use Rattle.marking.specs.Members.{spelled_in}
use Rattle.marking.specs.declared.label.Handling.{Handling}
use Rattle.redaction.specs.Highest.{with_label}

-- the strictest handling of the labels before and of those that the classes of a tree spell
abbrev pub strictest_in : Option Handling → Forest → Option Handling → Option Handling
strictest_in arranged end before = before
strictest_in arranged (leaf i rest) before = strictest_in arranged rest before
strictest_in arranged (branch name place kids rest) before =
    strictest_in arranged rest (strictest_in arranged kids (with_label arranged (spelled_in kids) before))

-- the same of one thing
abbrev pub strictest_at : Option Handling → Body → Option Handling → Option Handling
strictest_at arranged (holds kids) before = strictest_in arranged kids (with_label arranged (spelled_in kids) before)
strictest_at arranged (says content) before = before

-- the same of the elements of an array
abbrev pub strictest_among : Option Handling → List Body → Option Handling → Option Handling
strictest_among arranged [] before = before
strictest_among arranged (b ∷ bs) before = strictest_among arranged bs (strictest_at arranged b before)

-- the same of what a member holds
abbrev pub strictest_of : Option Handling → Bodies → Option Handling → Option Handling
strictest_of arranged (one b) before = strictest_at arranged b before
strictest_of arranged (many bs) before = strictest_among arranged bs before
