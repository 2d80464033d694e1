-- Labels, and how each is to be handled (RFC 7970 section 3.3.1, FIRST TLP 2.0).
use Rattle.std.specs.Prelude.{ℕ, nat_le, ◌++◌, map, Bool, if◌then◌else◌, Option, Some, None, option_map, unwrap_or, codes}
use Rattle.std.specs.Str.{bytes_eq}
use Rattle.std.specs.Char.{to_ascii_lowercase}
use Rattle.iodef_tree.specs.Text.{Bytes}
use Rattle.marking.specs.declared.label.Label.{Label}
use Rattle.marking.specs.declared.label.Handling.{Handling}
use Rattle.marking.specs.declared.label.Handling.TheVariants.{Clear, Green, Amber, Strict, Red}
use Rattle.marking.specs.declared.label.Label.TheVariants as label

-- A label by its value, whatever memory its text is in: one of nine words, or an extended label with its text (RFC
-- 7970 section 3.3.1).
pub data LabelValue : Type 0 where
  public : LabelValue
  white : LabelValue
  partner : LabelValue
  green : LabelValue
  need_to_know : LabelValue
  amber : LabelValue
  private : LabelValue
  red : LabelValue
  by_arrangement : LabelValue
  extended : Bytes → LabelValue

-- the label that the program's `Label` means
abbrev pub marking_of : Label → LabelValue
marking_of label.Public = public
marking_of label.White = white
marking_of label.Partner = partner
marking_of label.Green = green
marking_of label.NeedToKnow = need_to_know
marking_of label.Amber = amber
marking_of label.Private = private
marking_of label.Red = red
marking_of label.Default = by_arrangement
marking_of (label.Ext text) = extended text.now

-- The label that a text in `restriction` spells, by the ten values, byte for byte (RFC 7970 section 3.3.1).
-- `ext-value` takes the text in `ext-restriction` and spells nothing without one (section 5.1.1); beside another value
-- that text has no effect.
abbrev pub spelled : Bytes → Option Bytes → Option LabelValue
spelled restriction ext =
    if bytes_eq restriction (codes "public") then Some public
    else if bytes_eq restriction (codes "white") then Some white
    else if bytes_eq restriction (codes "partner") then Some partner
    else if bytes_eq restriction (codes "green") then Some green
    else if bytes_eq restriction (codes "need-to-know") then Some need_to_know
    else if bytes_eq restriction (codes "amber") then Some amber
    else if bytes_eq restriction (codes "private") then Some private
    else if bytes_eq restriction (codes "red") then Some red
    else if bytes_eq restriction (codes "default") then Some by_arrangement
    else if bytes_eq restriction (codes "ext-value") then option_map extended ext
    else None

-- two texts are the same but for the case of ASCII letters
abbrev pub is_alike : Bytes → Bytes → Bool
is_alike s t = bytes_eq (map to_ascii_lowercase s) (map to_ascii_lowercase t)

-- An extended text that is a label of TLP 2.0, but for the case of ASCII letters, is handled as that label, and
-- TLP:WHITE as TLP:CLEAR. Any other text is handled as the strictest, RED.
abbrev pub handling_of_text : Bytes → Handling
handling_of_text text =
    if is_alike text (codes "TLP:CLEAR") then Clear
    else if is_alike text (codes "TLP:WHITE") then Clear
    else if is_alike text (codes "TLP:GREEN") then Green
    else if is_alike text (codes "TLP:AMBER") then Amber
    else if is_alike text (codes "TLP:AMBER+STRICT") then Strict
    else Red

-- How a label is handled, given what the source arranged with the reader's organisation. `default` is handled as
-- arranged (RFC 7970 section 3.3.1), and as RED if nothing is arranged. By this hub's choice `need-to-know` and
-- `amber` keep clients out, as TLP:AMBER+STRICT does; the other colours mean the same as the words beside them.
abbrev pub handling_of : LabelValue → Option Handling → Handling
handling_of public arranged = Clear
handling_of white arranged = Clear
handling_of partner arranged = Green
handling_of green arranged = Green
handling_of need_to_know arranged = Strict
handling_of amber arranged = Strict
handling_of private arranged = Red
handling_of red arranged = Red
handling_of by_arrangement arranged = unwrap_or arranged Red
handling_of (extended text) arranged = handling_of_text text

-- the value of `restriction` for a label (RFC 7970 section 3.3.1)
abbrev pub restriction_of : LabelValue → Bytes
restriction_of public = codes "public"
restriction_of white = codes "white"
restriction_of partner = codes "partner"
restriction_of green = codes "green"
restriction_of need_to_know = codes "need-to-know"
restriction_of amber = codes "amber"
restriction_of private = codes "private"
restriction_of red = codes "red"
restriction_of by_arrangement = codes "default"
restriction_of (extended text) = codes "ext-value"

-- the value of `restriction` for a label; for an extended label a space and its text follow
abbrev pub text_of : LabelValue → Bytes
text_of (extended text) = codes "ext-value " ++ text
text_of m = restriction_of m

-- the order of handlings, from the widest audience: CLEAR, GREEN, AMBER, STRICT, RED (FIRST TLP 2.0)
abbrev pub rank : Handling → ℕ
rank Clear = 0
rank Green = 1
rank Amber = 2
rank Strict = 3
rank Red = 4

-- one handling is no stricter than another
abbrev pub is_at_most : Handling → Handling → Bool
is_at_most a b = nat_le (rank a) (rank b)

-- a handling's name in capital letters
abbrev pub name_of : Handling → Bytes
name_of Clear = codes "CLEAR"
name_of Green = codes "GREEN"
name_of Amber = codes "AMBER"
name_of Strict = codes "STRICT"
name_of Red = codes "RED"
