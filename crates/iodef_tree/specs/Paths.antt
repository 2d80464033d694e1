-- The parents and the paths of the lines of an outline, made of the flat list of lines.
use Rattle.std.specs.Prelude.{ℕ, suc, List, [], ◌∷◌, ◌++◌, map, filter, find, count_by, Bool, true, false, ◌==◌, ◌&&◌, Option}
use Rattle.std.specs.Option.{option_map_or}
use Rattle.std.specs.List.{before_first, list_any}
use Rattle.std.specs.Str.{bytes_eq}
use Rattle.json_pointer.specs.Text.{Bytes, Tokens, same_path, is_under}
use Rattle.iodef_tree.specs.Tree.{steps, place_of}
use Rattle.iodef_tree.specs.declared.line.Line.{Line}
use Rattle.iodef_tree.specs.declared.line.Kind.{Kind}
use Rattle.iodef_tree.specs.declared.line.Kind.TheVariants as kind

-- a line with its path and its parent's path
pub record LocatedLine : Type 0 where
  pub parent : Tokens
  pub path : Tokens
  pub line : Line

-- whether a located line is one less deep than this depth
abbrev pub is_one_less_deep : ℕ → LocatedLine → Bool
is_one_less_deep depth e = suc e.line.depth == depth

-- The path of the parent of a line at this depth: the newest earlier line that is one less deep, else the root.
abbrev pub parent_path : List LocatedLine → ℕ → Tokens
parent_path before depth = option_map_or (λ e. e.path) (find (is_one_less_deep depth) before) []

-- whether a located line has this depth and this name
abbrev pub is_like : ℕ → Bytes → LocatedLine → Bool
is_like depth name e = (e.line.depth == depth) && bytes_eq e.line.name name

-- the place of a line in its array: how many lines since the parent have its depth, and so its parent, and its name
abbrev pub place_among : List LocatedLine → ℕ → Bytes → ℕ
place_among before depth name = count_by (is_like depth name) (before_first (is_one_less_deep depth) before)

-- a line with the path of its parent; its own path is that and its name, and in an array its place (RFC 6901 section
-- 4)
abbrev pub entry_at : Tokens → Option ℕ → Line → LocatedLine
entry_at parent place l = record { parent = parent; path = parent ++ steps l.name place; line = l }

-- a line with its path and its parent's path, found from the lines before it
abbrev pub placed : List LocatedLine → Line → LocatedLine
placed before l = entry_at (parent_path before l.depth) (place_of l.in_array (place_among before l.depth l.name)) l

-- each line of a list with its path and its parent's path, behind the lines given first, of which the newest is first
abbrev pub located_after : List LocatedLine → List Line → List LocatedLine
located_after before [] = []
located_after before (l ∷ ls) = let e = placed before l in e ∷ located_after (e ∷ before) ls

-- The lines of an outline, each with its path and the path of its parent. Of a document they are those that a walk down
-- its tree meets: the law `PathsAreWalked`.
abbrev pub located : List Line → List LocatedLine
located ls = located_after [] ls

-- whether the kind of a line is that of a class
abbrev pub is_class_kind : Kind → Bool
is_class_kind kind.Class = true
is_class_kind kind.Text = false
is_class_kind kind.Value = false

-- whether a located line is a class
abbrev pub is_class : LocatedLine → Bool
is_class e = is_class_kind e.line.kind

-- the paths of the classes among located lines, in stored order
abbrev pub class_paths : List LocatedLine → List Tokens
class_paths es = map (λ e. e.path) (filter is_class es)

-- the paths of the classes of an outline, in stored order (RFC 7970 section 3)
abbrev pub classes_of : List Line → List Tokens
classes_of ls = class_paths (located ls)

-- whether there is a class at this path
abbrev pub has_class : List LocatedLine → Tokens → Bool
has_class es p = list_any (λ e. is_class e && same_path e.path p) es

-- the lines below a path
abbrev pub below : Tokens → List LocatedLine → List LocatedLine
below p es = filter (λ e. is_under p e.path) es
