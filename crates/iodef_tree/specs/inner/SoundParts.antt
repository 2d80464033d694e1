-- What the parts of a document keep, for clauses that no caller outside the crate reads.
use Rattle.std.specs.Prelude.{◌≡◌, Bool, true, false, Option, Some, None}
use Rattle.std.specs.List.{AllByRecursion}
use Rattle.iodef_tree.specs.Sound.{IsOrdered}
use Rattle.iodef_tree.specs.Texts.{may_be_text, HasTexts}
use Rattle.iodef_tree.specs.Tree.{Forest, Body, holds, says, Bodies, one, many, kind_of, text_of}

-- a tree is ordered, and its texts are those that lines may have
pub record IsKept (f : Forest) : Type 0 where
  pub ordered : IsOrdered f
  pub texts : HasTexts f

-- the members of a class are ordered, and their texts are those that lines may have; the text of a plain content is one
-- that a line may have, in an array or not
abbrev pub IsBodyKept : Bool → Body → Type 0
IsBodyKept in_array (holds kids) = IsKept kids
IsBodyKept in_array (says content) = may_be_text (kind_of content) in_array (text_of content) ≡ true

-- each thing that a member holds is kept, as the one thing or as an element of the array
abbrev pub AreKept : Bodies → Type 0
AreKept (one b) = IsBodyKept false b
AreKept (many bs) = AllByRecursion (IsBodyKept true) bs

-- the members of a class; a plain content has none
abbrev pub kids_of : Body → Option Forest
kids_of (holds kids) = Some kids
kids_of (says content) = None
