-- What a search of a report whose lines come one at a time knows of the classes that may still get lines.
use Rattle.std.specs.Prelude.{◌≡◌, ◌≤◌, ◌<◌, ℕ, suc, ◌-◌, Bool, true, false, not, ◌&&◌, ◌||◌, List, [], ◌∷◌, ◌++◌, length, take, if◌then◌else◌, Option, Some}
use Rattle.std.specs.Prelude.{None, is_some, is_none, option_map, codes, string_bytes}
use Rattle.std.specs.List.{list_any}
use Rattle.std.specs.Str.{bytes_eq}
use Rattle.iodef_tree.specs.Text.{Bytes, Tokens, same_path}
use Rattle.iodef_tree.specs.Paths.{LocatedLine, is_class, is_class_kind, has_class, located, parent_path}
use Rattle.iodef_tree.specs.Outline.{back, deepest, is_outline}
use Rattle.iodef_tree.specs.Shown.{Shows}
use Rattle.iodef_tree.specs.declared.line.Line.{Line}
use Rattle.iodef_tree.specs.declared.line.Kind.{Kind}
use Rattle.marking.specs.Label.{LabelValue, extended, spelled, is_at_most}
use Rattle.marking.specs.Marks.{Held, absent, one_text, restriction_at, ext_restriction_at}
use Rattle.marking.specs.declared.label.Handling.TheVariants.{Red}
use Rattle.policy.specs.Clearance.{clearance_of}
use Rattle.policy.specs.Gates.{refusal_of_gate}
use Rattle.policy.specs.Laws.{refuses_on}
use Rattle.policy.specs.Permissions.{holds_for}
use Rattle.policy.specs.Verdict.{is_cleared_for, is_visible}
use Rattle.policy.specs.declared.permission.Permission.{Permission}
use Rattle.policy.specs.declared.standing.Standing.{Standing}
use Rattle.policy.specs.declared.case.Case.{Case}
use Rattle.redact.specs.Told.{is_named, is_hit, holds_needle}
use Rattle.redact.specs.Sifted.{located_back, Tracks}
use Rattle.redact.specs.declared.want.Want.{Want}
use Rattle.redact.specs.declared.open_classes.Sight.{Sight}
use Rattle.redact.specs.declared.open_classes.Beside.{Beside}
use Rattle.redact.specs.declared.open_classes.Open.{Open}
use Rattle.redact.specs.declared.open_classes.Seeker.{Seeker}
use Rattle.redact.specs.Probed.{InEach, IsSure}
use Rattle.iodef_tree.specs.declared.line.Kind.TheVariants as kind
use Rattle.redact.specs.declared.open_classes.Sight.TheVariants as sight
use Rattle.redact.specs.declared.open_classes.Beside.TheVariants as beside

-- ---- what is wanted

-- whether a class of this name is wanted, by the needle and the class of a want; without a needle each is
abbrev pub wants_name_by : Option Bytes → Option Bytes → Bytes → Bool
wants_name_by None class name = true
wants_name_by (Some needle) class name = is_named class name

-- whether a want asks for a class of this name; without a needle each is
abbrev pub wants_name : Want → Bytes → Bool
wants_name w name = wants_name_by (option_map string_bytes w.needle) (option_map string_bytes w.class) name

-- whether a line is a text with the needle, if one is wanted
abbrev pub wants_line_by : Option Bytes → Line → Bool
wants_line_by None l = false
wants_line_by (Some needle) l = is_hit needle l

-- whether the line is a text with the needle that is wanted
abbrev pub wants_line : Want → Line → Bool
wants_line w l = wants_line_by (option_map string_bytes w.needle) l

-- whether the class at the path directly holds a text with the needle, if there is a needle
abbrev pub holds_wanted_by : Option Bytes → List LocatedLine → Tokens → Bool
holds_wanted_by None es p = true
holds_wanted_by (Some needle) es p = holds_needle es needle p

-- whether the class at the path directly holds a text that is wanted; without a needle each does
abbrev pub holds_wanted : Want → List LocatedLine → Tokens → Bool
holds_wanted w es p = holds_wanted_by (option_map string_bytes w.needle) es p

-- whether the line is that of the class at the path, and its name is wanted
abbrev pub is_wanted_at : Want → Tokens → LocatedLine → Bool
is_wanted_at w p e = is_class e && (same_path e.path p && wants_name w e.line.name)

-- whether there is a class at the path with a name that is wanted
abbrev pub has_wanted : Want → List LocatedLine → Tokens → Bool
has_wanted w es p = list_any (is_wanted_at w p) es

-- ---- how much the reader sees

-- whether a gate of the case refuses the reader, wherever it is
abbrev pub some_refuses : Case → Standing → Bool
some_refuses c s = list_any (λ g. is_some (refusal_of_gate s g)) c.gates

-- the reader sees every class of every report: it is of the source, or no gate refuses it and it is cleared for RED
abbrev pub sees_all : Case → Standing → Bool
sees_all c s = s.source || (not (some_refuses c s) && is_at_most Red (clearance_of s).0)

-- how much the reader surely sees without permissions: every class; each class with a written label for which it is
-- cleared; or nothing
abbrev pub sight_of : Case → Standing → Sight
sight_of c s = if sees_all c s then sight.Everything else if some_refuses c s then sight.Unsure else sight.Cleared

-- whether the reader surely sees every class
abbrev pub is_everything : Sight → Bool
is_everything sight.Everything = true
is_everything sight.Cleared = false
is_everything sight.Unsure = false

-- whether the reader surely sees each class with a written label for which it is cleared, and no other
abbrev pub is_cleared_sight : Sight → Bool
is_cleared_sight sight.Everything = false
is_cleared_sight sight.Cleared = true
is_cleared_sight sight.Unsure = false

-- ---- a permission that shows the class where it is, whatever label is written in the class

-- a permission holds for the reader, and no gate at its path or above refuses the reader
abbrev pub permits : Case → Standing → Permission → Bool
permits c s x = holds_for s x && not (list_any (refuses_on s x.path) c.gates)

-- whether the case has a permission that surely shows the class where it is
abbrev pub some_permits : Case → Standing → Bool
some_permits c s = list_any (permits c s) c.permissions

-- whether a permission that surely shows the class where it is has this very path
abbrev pub is_permitted : Case → Standing → Tokens → Bool
is_permitted c s p = list_any (λ x. same_path x.path p && permits c s x) c.permissions

-- ---- a label written in a class, for which the reader is cleared

-- the text of a line of this kind, if it is a text
abbrev pub text_by_kind : Kind → Bytes → Option Bytes
text_by_kind kind.Class t = None
text_by_kind kind.Text t = Some t
text_by_kind kind.Value t = None

-- the text of a line, if it is a text outside arrays
abbrev pub plain_text : Line → Option Bytes
plain_text l = if l.in_array then None else text_by_kind l.kind l.text

-- what a line is as `ext-restriction`: a text that clears the reader if it is the label, or something else
abbrev pub beside_by : Standing → Option Bytes → Beside
beside_by s None = beside.Other
beside_by s (Some t) = if is_cleared_for s (extended t) then beside.Cleared else beside.Other

-- what a class holds as `ext-restriction` after one more line of this name: the first counts
abbrev pub first_beside : Standing → Line → Beside → Beside
first_beside s l beside.Absent = beside_by s (plain_text l)
first_beside s l beside.Cleared = beside.Cleared
first_beside s l beside.Other = beside.Other

-- what a class holds as `ext-restriction` after one more line
abbrev pub beside_with : Standing → Line → Beside → Beside
beside_with s l x = if bytes_eq l.name (codes "ext-restriction") then first_beside s l x else x

-- whether what a class holds as `ext-restriction` is a text that clears the reader
abbrev pub is_cleared_beside : Beside → Bool
is_cleared_beside beside.Absent = false
is_cleared_beside beside.Cleared = true
is_cleared_beside beside.Other = false

-- whether the reader is cleared for the label that a text spells by itself, or for `ext-value` with the text beside it
abbrev pub is_cleared_by : Standing → Beside → Bytes → Option LabelValue → Bool
is_cleared_by s x r None = bytes_eq r (codes "ext-value") && is_cleared_beside x
is_cleared_by s x r (Some m) = is_cleared_for s m

-- whether this text as `restriction`, with what the class holds as `ext-restriction`, spells a label for which the
-- reader is cleared
abbrev pub is_cleared_text : Standing → Beside → Bytes → Bool
is_cleared_text s x r = is_cleared_by s x r (spelled r None)

-- whether a text as `restriction`, if there is one, spells a label for which the reader is cleared; false without one
abbrev pub is_cleared_if : Standing → Beside → Option Bytes → Bool
is_cleared_if s x None = false
is_cleared_if s x (Some r) = is_cleared_text s x r

-- whether the line is named `restriction`
abbrev pub is_restriction : Line → Bool
is_restriction l = bytes_eq l.name (codes "restriction")

-- ---- the open classes, from the outermost on

-- what is known of a class when its line comes; g says whether a permission shows it
abbrev pub entered : Sight → Want → Line → Bool → Open
entered k w l g = record { fits = wants_name w l.name; holds = is_none w.needle; shown = is_everything k || g; labelled = false; beside = beside.Absent }

-- whether the line is the first named `restriction`, and shows the class
abbrev pub shows_class : Sight → Standing → Line → Open → Bool
shows_class k s l o = is_restriction l && (not o.labelled && (is_cleared_sight k && is_cleared_if s o.beside (plain_text l)))

-- what is known of a class after one more line in it
abbrev pub holding : Sight → Standing → Want → Line → Open → Open
holding k s w l o = record {
  fits = o.fits;
  holds = o.holds || wants_line w l;
  shown = o.shown || shows_class k s l o;
  labelled = o.labelled || is_restriction l;
  beside = beside_with s l o.beside;
}

-- the open classes after one more line in the innermost
abbrev pub innermost_holding : Sight → Standing → Want → Line → List Open → List Open
innermost_holding k s w l [] = []
innermost_holding k s w l (x ∷ []) = holding k s w l x ∷ []
innermost_holding k s w l (x ∷ y ∷ xs) = x ∷ innermost_holding k s w l (y ∷ xs)

-- the open classes behind this line: if it is a class, that class is open too
abbrev pub with_opened_class : Sight → Want → Line → Bool → List Open → List Open
with_opened_class k w l g os = if is_class_kind l.kind then os ++ entered k w l g ∷ [] else os

-- the open classes after one more line
abbrev pub open_with_line : Sight → Standing → Want → Line → Bool → List Open → List Open
open_with_line k s w l g os = with_opened_class k w l g (innermost_holding k s w l (take (l.depth - 1) os))

-- whether it is sure that the reader sees the class, that it holds what is wanted, and that its name is wanted
abbrev pub is_settled : Open → Bool
is_settled o = o.shown && (o.holds && o.fits)

-- what is known of what the class holds as `ext-restriction`
abbrev pub IsBeside : Standing → Beside → Held → Type 0
IsBeside s beside.Absent h = h ≡ absent
IsBeside s beside.Cleared h = (t : Bytes) × (h ≡ one_text t) × (is_cleared_for s (extended t) ≡ true)
IsBeside s beside.Other h = Unit {0}

module _ (w : Want) (c : Case) (s : Standing) (ls : List Line) where
  -- the class at the path is visible, whatever lines come
  abbrev pub IsSeen : Tokens → Type 0
  IsSeen p = InEach ls (λ all. is_visible (located all) c s p ≡ true)

  -- what is known of an open class is true of the class at the path
  pub record IsOpen (p : Tokens) (o : Open) : Type 0 where
    pub fits : o.fits ≡ true → has_wanted w (located ls) p ≡ true
    pub holds : o.holds ≡ true → holds_wanted w (located ls) p ≡ true
    pub shown : o.shown ≡ true → IsSeen p
    pub class : has_class (located ls) p ≡ true
    pub unlabelled : o.labelled ≡ false → restriction_at (located ls) p ≡ absent
    pub beside : IsBeside s o.beside (ext_restriction_at (located ls) p)

  -- the first of the classes is the parent of a line of this depth, and each next one the parent of a line one deeper
  abbrev pub AreOpen : ℕ → List Open → Type 0
  AreOpen d [] = Unit {0}
  AreOpen d (o ∷ os) = IsOpen (parent_path (located_back ls) d) o × AreOpen (suc d) os

  -- What is known of the open classes is true. There are as many as the next line may be deep, less one. The path of
  -- each is longer than those of the classes above it.
  pub record Follows (os : List Open) : Type 0 where
    pub classes : AreOpen 2 os
    pub deep : suc (length os) ≡ deepest (back ls)
    pub rising : (j k : ℕ) → 1 ≤ j → j < k → k ≤ deepest (back ls) →
        length (parent_path (located_back ls) j) < length (parent_path (located_back ls) k)

-- ---- all that is known

-- all that is known of the lines so far, if true was returned for them or not
pub record IsKnown (w : Want) (c : Case) (s : Standing) (ls : List Line) (met : Bool) (k : Seeker) : Type 0 where
  pub shows : Shows k.shape (back ls)
  pub sight : k.sight ≡ sight_of c s
  pub lines : met ≡ false → k.lines.items ≡ ls
  pub classes : met ≡ false → Follows w c s ls k.classes.items
  pub steps : met ≡ false → k.follows ≡ true → Tracks ls k.steps.items

-- One more line is taken, and true is returned for the lines with it, or not.
pub record TakesTo (w : Want) (c : Case) (s : Standing) (ls : List Line) (met : Bool) (l : Line) (answered : Bool) (k : Seeker) : Type 0 where
  pub outline : is_outline (ls ++ l ∷ []) ≡ true
  pub known : IsKnown w c s (ls ++ l ∷ []) answered k
  pub stays : met ≡ true → answered ≡ true
  pub sure : met ≡ false → answered ≡ true → IsSure w (ls ++ l ∷ []) c s
