-- What a reader is served of an incident: one set of definitions for excerpts, listings and searches.
use Rattle.std.specs.Prelude.{ℕ, Bool, true, false, ◌&&◌, ◌||◌, ◌==◌, is_none, List, [], ◌∷◌, count_by, if◌then◌else◌, Option, Some, None, codes}
use Rattle.std.specs.List.{list_any}
use Rattle.std.specs.Str.{bytes_eq}
use Rattle.iodef_tree.specs.Text.{Bytes, Tokens, same_path}
use Rattle.iodef_tree.specs.Paths.{LocatedLine, is_class, located, below}
use Rattle.iodef_tree.specs.declared.line.Line.{Line}
use Rattle.iodef_tree.specs.declared.line.Kind.{Kind}
use Rattle.marking.specs.Label.{LabelValue, extended, restriction_of}
use Rattle.marking.specs.Marks.{written_label, label_at}
use Rattle.policy.specs.Verdict.{is_visible, hiding_rule}
use Rattle.policy.specs.declared.standing.Standing.{Standing}
use Rattle.policy.specs.declared.case.Case.{Case}
use Rattle.redact.specs.Kept.{Attribute, Verdicts, kept_lines}
use Rattle.redact.specs.Withheld.{Withheld, place_of, withheld_pairs, withheld_in_order}
use Rattle.iodef_tree.specs.declared.line.Kind.TheVariants as kind

-- the value of `ext-restriction`, for an extended label (RFC 7970 section 5.1.1)
abbrev pub ext_restriction_of : LabelValue → Option Bytes
ext_restriction_of (extended t) = Some t
ext_restriction_of l = None

-- the members of a label with this `restriction` and, if given, this `ext-restriction`
abbrev pub attributes_by : Bytes → Option Bytes → List Attribute
attributes_by restriction None = (codes "restriction", restriction) ∷ []
attributes_by restriction (Some ext) = (codes "ext-restriction", ext) ∷ (codes "restriction", restriction) ∷ []

-- the members that a label is written as (RFC 7970 sections 3.3.1 and 5.1.1)
abbrev pub attributes_of : LabelValue → List Attribute
attributes_of l = attributes_by (restriction_of l) (ext_restriction_of l)

-- some class among these lines is visible
abbrev pub some_seen : (Tokens → Bool) → List LocatedLine → Bool
some_seen visible es = list_any (λ e. is_class e && visible e.path) es

-- what is decided of each class for a reader; each path is judged by itself
abbrev pub verdicts_of : List LocatedLine → Case → Standing → Verdicts
verdicts_of es c s = record {
  visible = is_visible es c s;
  holds_visible = λ p. some_seen (is_visible es c s) (below p es);
  unmarked = λ p. is_none (written_label es p);
  label = λ p. attributes_of (label_at es p);
  rule = hiding_rule es c s;
}

-- ---- a search

-- whether a text begins with another, byte for byte
abbrev pub begins_with : Bytes → Bytes → Bool
begins_with [] t = true
begins_with (x ∷ needle) [] = false
begins_with (x ∷ needle) (y ∷ t) = (x == y) && begins_with needle t

-- whether the text contains the needle, byte for byte
abbrev pub has_needle : Bytes → Bytes → Bool
has_needle needle [] = begins_with needle []
has_needle needle (y ∷ t) = begins_with needle (y ∷ t) || has_needle needle t

-- whether a line of this kind is a text
abbrev pub is_text_kind : Kind → Bool
is_text_kind kind.Class = false
is_text_kind kind.Text = true
is_text_kind kind.Value = false

-- whether the class has the name that is given, if one is given
abbrev pub is_named : Option Bytes → Bytes → Bool
is_named None name = true
is_named (Some n) name = bytes_eq name n

-- whether a line is a text that contains the needle
abbrev pub is_hit : Bytes → Line → Bool
is_hit needle l = is_text_kind l.kind && has_needle needle l.text

-- whether the class at p directly holds a text that contains the needle
abbrev pub holds_needle : List LocatedLine → Bytes → Tokens → Bool
holds_needle es needle p = list_any (λ e. same_path e.parent p && is_hit needle e.line) es

-- ---- all that a reader is served

-- an excerpt: its outline, the list of what is withheld, and how many classes are visible
pub record Told : Type 0 where
  pub outline : List Line
  pub withheld : List Withheld
  pub classes : ℕ

module _ (ls : List Line) (c : Case) (s : Standing) where
  -- whether a line is that of a visible class
  abbrev pub is_seen_class : LocatedLine → Bool
  is_seen_class e = is_class e && is_visible (located ls) c s e.path

  -- the outline of the excerpt
  abbrev pub kept_outline : List Line
  kept_outline = kept_lines (verdicts_of (located ls) c s) (located ls)

  -- the list of what is withheld, in order and without repeats
  abbrev pub withheld_of : List Withheld
  withheld_of = withheld_in_order (withheld_pairs (verdicts_of (located ls) c s) (located ls))

  -- the place in the excerpt of the class at a path; none if it isn't kept
  abbrev pub excerpt_place : Tokens → Option Tokens
  excerpt_place = place_of (verdicts_of (located ls) c s) (located ls)

  -- how many classes are visible
  abbrev pub visible_count : ℕ
  visible_count = count_by is_seen_class (located ls)

  -- the incident is listed: some class of it is visible
  abbrev pub is_listed : Bool
  is_listed = list_any is_seen_class (located ls)

  -- all that is served of the incident if it is listed
  abbrev pub told_of : Told
  told_of = record { outline = kept_outline; withheld = withheld_of; classes = visible_count }

  -- the excerpt of these lines for this case and standing; none exactly if no class is visible
  abbrev pub excerpt_of : Option Told
  excerpt_of = if is_listed then Some told_of else None

  -- whether a visible class, of this name if one is given, directly holds a text that contains the needle
  abbrev pub finds : Bytes → Option Bytes → Bool
  finds needle name =
      list_any (λ e. is_seen_class e && (is_named name e.line.name && holds_needle (located ls) needle e.path))
      (located ls)
