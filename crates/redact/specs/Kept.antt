-- The kept outline: the lines that an excerpt has of a document, given what is decided of each class.
use Rattle.std.specs.Prelude.{ℕ, suc, Bool, false, ◌&&◌, ◌||◌, not, List, [], ◌∷◌, nat_lt, ◌==◌, if◌then◌else◌, filter}
use Rattle.iodef_tree.specs.Text.{Bytes, Tokens, bytes_lt, is_root}
use Rattle.iodef_tree.specs.Paths.{LocatedLine, is_class}
use Rattle.iodef_tree.specs.declared.line.Line.{Line}
use Rattle.policy.specs.declared.rule.Rule.{Rule}
use Rattle.iodef_tree.specs.declared.line.Kind.TheVariants as kind

-- a plain member that is a text, by its name and its text
abbrev pub Attribute : Type 0
Attribute = Bytes × Bytes

-- what is decided of each class, by its path
pub record Verdicts : Type 0 where
  -- the class is visible
  pub visible : Tokens → Bool
  -- a visible class is below it
  pub holds_visible : Tokens → Bool
  -- no label is written in it
  pub unmarked : Tokens → Bool
  -- the label that holds for it, as members
  pub label : Tokens → List Attribute
  -- the rule that hides it if it isn't visible
  pub rule : Tokens → Rule

-- whether x comes before e in an outline, behind the line of x's class: e isn't in that class, or is a member of it
-- with a later name
abbrev pub stands_before : Line → Line → Bool
stands_before x e = nat_lt e.depth x.depth || ((e.depth == x.depth) && bytes_lt x.name e.name)

-- the lines behind that of a class, with one member put at its place in name order
abbrev pub put : Line → List Line → List Line
put x [] = x ∷ []
put x (e ∷ es) = if stands_before x e then x ∷ e ∷ es else e ∷ put x es

-- the lines behind that of a class, with several members put at their places in name order
abbrev pub put_all : List Line → List Line → List Line
put_all [] es = es
put_all (x ∷ xs) es = put x (put_all xs es)

-- the line of a plain member at a depth
abbrev pub attribute_line : ℕ → Attribute → Line
attribute_line d a = record { depth = d; name = a.0; in_array = false; kind = kind.Text; text = a.1 }

-- the lines of plain members at a depth
abbrev pub attribute_lines : ℕ → List Attribute → List Line
attribute_lines d [] = []
attribute_lines d (a ∷ rest) = attribute_line d a ∷ attribute_lines d rest

module _ (v : Verdicts) where
  -- a frame: a class that isn't visible and has a visible class below it
  abbrev pub is_frame : Tokens → Bool
  is_frame p = not (v.visible p) && v.holds_visible p

  -- a wholly hidden class: one that is neither visible nor a frame
  abbrev pub is_wholly_hidden : Tokens → Bool
  is_wholly_hidden p = not (is_root p) && (not (v.visible p) && not (v.holds_visible p))

  -- the root is no class
  abbrev pub is_visible_class : Tokens → Bool
  is_visible_class p = not (is_root p) && v.visible p

  -- Kept are, of the classes, the visible ones and the frames; of the plain lines, the header and those of visible
  -- classes. The header is every plain member of the root, whatever labels and gates say.
  abbrev pub is_kept : LocatedLine → Bool
  is_kept e = if is_class e then v.visible e.path || is_frame e.path else is_root e.parent || v.visible e.parent

  -- A visible class says its label itself if no label is written in it and its parent isn't a visible class (RFC 7970
  -- section 3.3.1: a label holds for its class and the children).
  abbrev pub says_label : LocatedLine → Bool
  says_label e = is_class e && (v.visible e.path && (v.unmarked e.path && not (is_visible_class e.parent)))

  -- the label lines that are added in a class (RFC 7970 sections 3.3.1 and 5.1.1)
  abbrev pub added_label_lines : LocatedLine → List Line
  added_label_lines e = if says_label e then attribute_lines (suc e.line.depth) (v.label e.path) else []

  -- each line, with the label lines of its class put in behind it in name order
  abbrev pub with_added_labels : List LocatedLine → List Line
  with_added_labels [] = []
  with_added_labels (e ∷ es) = e.line ∷ put_all (added_label_lines e) (with_added_labels es)

  -- the outline of the excerpt: the kept lines with the added labels
  abbrev pub kept_lines : List LocatedLine → List Line
  kept_lines es = with_added_labels (filter is_kept es)
