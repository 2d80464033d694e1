-- What a checker of lines keeps of the lines that it has seen.
use Rattle.std.specs.Prelude.{◌≡◌, ℕ, ◌-◌, Bool, true, ◌&&◌, ◌+◌, List, nat_lt, nat_le, not, if◌then◌else◌, Option, Some, None}
use Rattle.std.specs.List.{slice_get}
use Rattle.iodef_tree.specs.Sound.{counted, is_label_line}
use Rattle.iodef_tree.specs.Outline.{sibling, may_follow, is_sound_line, edge, deepest, is_outline_back}
use Rattle.iodef_tree.specs.declared.TheConstants.{LINE_LIMIT}
use Rattle.iodef_tree.specs.declared.line.Line.{Line}
use Rattle.iodef_tree.specs.declared.shape.Shape.{Shape}
use Rattle.iodef_tree.specs.declared.shape.Sibling.{Sibling}

-- how many lines count for the limit with this one; a label does not count
abbrev pub counted_with : Line → ℕ → ℕ
counted_with l n = if not (is_label_line l) then 1 + n else n

-- this number if it is within the limit of lines, else none
abbrev pub if_short : ℕ → Option ℕ
if_short n = if nat_le n LINE_LIMIT then Some n else None

-- whether a line may come, apart from the limit of lines: by the newest line of each open depth and how deep it may be
abbrev pub fits_edge : List Sibling → ℕ → Line → Bool
fits_edge last deep l =
    nat_lt 0 l.depth && (nat_le l.depth deep && (may_follow (slice_get last (l.depth - 1)) (sibling l) && is_sound_line l))

-- The checker has seen these lines, of which the newest is first, and they are an outline.
pub record Shows (s : Shape) (before : List Line) : Type 0 where
  pub edges : s.last.items ≡ edge before
  pub depth : s.deepest ≡ deepest before
  pub count : s.counted ≡ counted before
  pub outline : is_outline_back before ≡ true
