-- The weights of a tree and its parts, for the walk that weighs one; only private functions have them in a clause.
use Rattle.std.specs.Prelude.{ℕ, ◌+◌, Bool, true, false, length, is_some}
use Rattle.std.specs.List.{sum_by}
use Rattle.iodef_tree.specs.Tree.{Forest, end, leaf, branch, Body, holds, says, Bodies, one, many, text_of}
use Rattle.kept_documents.specs.Kept.{own_weight, text_weight}

-- the weight of a line without its text, under a name of so many bytes
abbrev pub head_weight : Bool → ℕ → ℕ
head_weight in_array name = own_weight in_array + text_weight name

-- the weight of the lines of a class's members
abbrev pub forest_weight : Forest → ℕ
forest_weight end = 0
forest_weight (leaf i rest) = head_weight (is_some i.place) (length i.name) + text_weight (length (text_of i.content)) + forest_weight rest
forest_weight (branch name place kids rest) = head_weight (is_some place) (length name) + forest_weight kids + forest_weight rest

-- the weight of one body under a name of so many bytes
abbrev pub body_weight : Bool → ℕ → Body → ℕ
body_weight in_array name (holds kids) = head_weight in_array name + forest_weight kids
body_weight in_array name (says content) = head_weight in_array name + text_weight (length (text_of content))

-- the weight of the bodies under a name of so many bytes; each element of an array is a line with that name
abbrev pub bodies_weight : ℕ → Bodies → ℕ
bodies_weight name (one b) = body_weight false name b
bodies_weight name (many bs) = sum_by (body_weight true name) bs
