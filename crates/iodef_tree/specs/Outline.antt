-- When a list of lines is the outline of a document. A list of earlier lines has the newest first.
use Rattle.std.specs.Prelude.{ℕ, suc, ◌+◌, ◌-◌, Bool, true, ◌&&◌, ◌||◌, List, [], ◌∷◌, ◌++◌, take, nat_lt, nat_le, ◌==◌, if◌then◌else◌, Option, Some, None}
use Rattle.std.specs.Str.{bytes_eq}
use Rattle.json_pointer.specs.Text.{bytes_lt}
use Rattle.iodef_tree.specs.Paths.{is_class_kind}
use Rattle.iodef_tree.specs.Sound.{counted}
use Rattle.iodef_tree.specs.Texts.{may_be_text}
use Rattle.iodef_tree.specs.declared.TheConstants.{DEPTH_LIMIT, LINE_LIMIT}
use Rattle.iodef_tree.specs.declared.line.Line.{Line}
use Rattle.iodef_tree.specs.declared.shape.Sibling.{Sibling}

-- ---- what a line says without the others

-- whether a line is within the limit of depth: a class at most at the limit, any other line at most one deeper
abbrev pub is_within_depth : Line → Bool
is_within_depth l = nat_le l.depth (if is_class_kind l.kind then DEPTH_LIMIT else DEPTH_LIMIT + 1)

-- whether a line is within the limit of depth and its text is one of its kind
abbrev pub is_sound_line : Line → Bool
is_sound_line l = is_within_depth l && may_be_text l.kind l.in_array l.text

-- ---- a line and the lines before it

-- what of a line the next one with the same parent has to follow: its name, and whether it is in an array
abbrev pub sibling : Line → Sibling
sibling l = record { name = l.name; in_array = l.in_array }

-- how deep the next line may be: 1 at first, then one deeper than the newest line if that is a class, and else as deep
abbrev pub deepest : List Line → ℕ
deepest [] = 1
deepest (x ∷ before) = if is_class_kind x.kind then suc x.depth else x.depth

-- the newest line with the same parent, if there is one
abbrev pub last_sibling : ℕ → List Line → Option Sibling
last_sibling depth [] = None
last_sibling depth (x ∷ before) =
    if nat_lt x.depth depth then None else (if x.depth == depth then Some (sibling x) else last_sibling depth before)

-- a line may follow a sibling if its name is later, or if both are elements of the same array
abbrev pub may_follow : Option Sibling → Sibling → Bool
may_follow None l = true
may_follow (Some x) l = bytes_lt x.name l.name || (bytes_eq x.name l.name && (x.in_array && l.in_array))

-- whether the lines are within the limit of lines
abbrev pub is_short : List Line → Bool
is_short ls = nat_le (counted ls) LINE_LIMIT

-- A line may come behind others if these hold. It is a member of the root, or at most one deeper than the newest line
-- if that is a class, or else at most as deep. It may follow the newest line of its parent. Its text is one of its
-- kind. No limit is passed.
abbrev pub may_come : List Line → Line → Bool
may_come before l =
    is_short (l ∷ before) && (nat_lt 0 l.depth && (nat_le l.depth (deepest before) && (may_follow (last_sibling l.depth before) (sibling l) && is_sound_line l)))

-- ---- every line may come behind those before it

-- each line may come behind those before it and those given first
abbrev pub is_outline_after : List Line → List Line → Bool
is_outline_after before [] = true
is_outline_after before (l ∷ ls) = may_come before l && is_outline_after (l ∷ before) ls

-- whether lines are the outline of a document: each may come behind those before it (RFC 8727 section 2)
abbrev pub is_outline : List Line → Bool
is_outline ls = is_outline_after [] ls

-- ---- the same from the newest line back, as a caller reads them one at a time

-- whether lines, of which the newest is first, are the outline of a document (RFC 8727 section 2)
abbrev pub is_outline_back : List Line → Bool
is_outline_back [] = true
is_outline_back (l ∷ before) = may_come before l && is_outline_back before

-- the newest line of each depth that is still open, from the outermost on
abbrev pub edge : List Line → List Sibling
edge [] = []
edge (x ∷ before) = take (x.depth - 1) (edge before) ++ sibling x ∷ []

-- the first list in reverse order, in front of the second
abbrev pub back_onto : List Line → List Line → List Line
back_onto [] ys = ys
back_onto (x ∷ xs) ys = back_onto xs (x ∷ ys)

-- the lines in reverse order
abbrev pub back : List Line → List Line
back ls = back_onto ls []
