-- Steps from one report to another that differs only in what a reader may not see.
use Rattle.std.specs.Prelude.{◌≡◌, Bool, true, false, ◌&&◌, not, List, map, filter, Option, None, if◌then◌else◌, ◌⊎◌}
use Rattle.iodef_tree.specs.Text.{Bytes, Tokens, same_path, is_prefix, is_root}
use Rattle.iodef_tree.specs.Paths.{LocatedLine, is_class, located, has_class}
use Rattle.iodef_tree.specs.Laws.{IsDocument}
use Rattle.iodef_tree.specs.declared.line.Line.{Line}
use Rattle.marking.specs.Marks.{written_label, first_bad_marking}
use Rattle.policy.specs.Permissions.{holds_for}
use Rattle.policy.specs.Verdict.{is_visible}
use Rattle.policy.specs.declared.standing.Standing.{Standing}
use Rattle.policy.specs.declared.gate.Gate.{Gate}
use Rattle.policy.specs.declared.permission.Permission.{Permission}
use Rattle.policy.specs.declared.case.Case.{Case}
use Rattle.redact.specs.Told.{some_seen, withheld_of, told_of, excerpt_of}
use Rattle.redact.specs.Wants.{meets_by}

-- the lines of a document, with the case that it is judged by
pub record Report : Type 0 where
  pub lines : List Line
  pub case : Case

-- ---- lines by their classes

-- the path of a class line, or for a plain line the path of the class that it is in
abbrev pub class_path : LocatedLine → Tokens
class_path e = if is_class e then e.path else e.parent

-- A line under the path of its class. It doesn't say which element of an array a plain line is, since a line moves up
-- if a class before it is taken out.
abbrev pub by_class : LocatedLine → LocatedLine
by_class e = record { parent = e.parent; path = class_path e; line = e.line }

-- whether a line is a plain line of the class at p
abbrev pub is_plain_of : Tokens → LocatedLine → Bool
is_plain_of p e = not (is_class e) && same_path e.parent p

-- whether a line is of the class at p or of a class below it
abbrev pub is_within : Tokens → LocatedLine → Bool
is_within p e = is_prefix p (class_path e)

-- all lines but those that pass the test, in their order, each under the path of its class
abbrev pub lines_but : (LocatedLine → Bool) → List Line → List LocatedLine
lines_but some ls = map by_class (filter (λ e. not (some e)) (located ls))

-- the gates that are neither at p nor below it
abbrev pub gates_but : Tokens → List Gate → List Gate
gates_but p gates = filter (λ g. not (is_prefix p g.path)) gates

-- the permissions that are neither at p nor below it
abbrev pub permissions_but : Tokens → List Permission → List Permission
permissions_but p permissions = filter (λ x. not (is_prefix p x.path)) permissions

-- The reports are equal but for the lines, gates and permissions at p and below it.
pub record IsEqualBut (p : Tokens) (a b : Report) : Type 0 where
  pub lines : lines_but (is_within p) a.lines ≡ lines_but (is_within p) b.lines
  pub source : a.case.source ≡ b.case.source
  pub gates : gates_but p a.case.gates ≡ gates_but p b.case.gates
  pub permissions : permissions_but p a.case.permissions ≡ permissions_but p b.case.permissions

-- ---- what a reader is served

module _ (s : Standing) where
  -- whether the class at a path is visible to the reader
  abbrev pub sees : Report → Tokens → Bool
  sees a p = is_visible (located a.lines) a.case s p

  -- The reader is served the same of both: the same excerpt, if there is one, and each want is met by both or by
  -- neither.
  pub record IsToldAlike (a b : Report) : Type 0 where
    pub excerpt : excerpt_of a.lines a.case s ≡ excerpt_of b.lines b.case s
    pub told : told_of a.lines a.case s ≡ told_of b.lines b.case s
    pub met : (needle class : Option Bytes) →
        meets_by needle class a.lines a.case s ≡ meets_by needle class b.lines b.case s

  -- ---- steps

  -- Other plain lines in a class that isn't visible. The label written in it stays, and so do all other lines, the
  -- path of every class, the gates and the permissions.
  pub record HasOtherPlainLines (p : Tokens) (a b : Report) : Type 0 where
    pub class : has_class (located a.lines) p ≡ true
    pub unseen : sees a p ≡ false
    pub label : written_label (located a.lines) p ≡ written_label (located b.lines) p
    pub others : lines_but (is_plain_of p) a.lines ≡ lines_but (is_plain_of p) b.lines
    pub case : a.case ≡ b.case

  -- no class at p or below it is visible; if there is a class at p, it is wholly hidden
  abbrev pub is_hidden_from : Tokens → Report → Bool
  is_hidden_from p a = not (some_seen (sees a) (filter (λ e. is_prefix p e.path) (located a.lines)))

  -- The reports are equal but for what is at p and below it, where a class is wholly hidden in both. The list of what
  -- is withheld is the same: that is a condition of this step, not a result.
  pub record HasOtherHiddenClass (p : Tokens) (a b : Report) : Type 0 where
    pub below_root : is_root p ≡ false
    pub first : is_hidden_from p a ≡ true
    pub second : is_hidden_from p b ≡ true
    pub others : IsEqualBut p a b
    pub withheld : withheld_of a.lines a.case s ≡ withheld_of b.lines b.case s

  -- other permissions that don't hold for the reader: their grantees don't include it, or they have ended
  pub record HasOtherPermissions (a b : Report) : Type 0 where
    pub lines : a.lines ≡ b.lines
    pub source : a.case.source ≡ b.case.source
    pub gates : a.case.gates ≡ b.case.gates
    pub permissions : filter (holds_for s) a.case.permissions ≡ filter (holds_for s) b.case.permissions

  -- one of these steps leads from one report to the other
  abbrev pub IsAlikeStep : Report → Report → Type 0
  IsAlikeStep a b = ((p : Tokens) × HasOtherPlainLines p a b) ⊎
      (((p : Tokens) × HasOtherHiddenClass p a b) ⊎ HasOtherPermissions a b)

-- the lines are those of a document whose markings are accepted
pub record IsMarked (ls : List Line) : Type 0 where
  pub document : IsDocument ls
  pub marked : first_bad_marking (located ls) ≡ None

-- The law that of two reports that such a step joins, the reader is served the same.
abbrev pub AlikeIsToldAlike : Type 0
AlikeIsToldAlike = (s : Standing) (a b : Report) → IsMarked a.lines → IsMarked b.lines → IsAlikeStep s a b →
    IsToldAlike s a b
