-- The texts that classes directly hold, down the tree. The handlings of the classes come in stored order; each class
-- takes the front one.
use Rattle.std.specs.Prelude.{List, [], ◌∷◌, ◌++◌, map, Option, None}
use Rattle.std.specs.List.{flat_map}
use Rattle.iodef_tree.specs.Text.{Bytes}
use Rattle.iodef_tree.specs.Tree.{Content, text, value, Forest, end, leaf, branch, Body, holds, says, Bodies, one, many}
use Rattle.marking.specs.declared.label.Handling.{Handling}
use Rattle.sketch.specs.Holdings.{HeldText, held_in}
use Rattle.sketch.specs.declared.holding.Holding.{Holding}

-- a text with its class, by the program's `Holding`
abbrev pub shown : Holding → HeldText
shown h = record { class = h.class.now; handling = h.handling; text = h.text.now }

-- ---- the texts directly in one class

-- the text of a plain content, if it is one
abbrev pub content_texts : Content → List Bytes
content_texts (text t) = t ∷ []
content_texts (value t) = []

-- the text that one thing is, if it is one
abbrev pub body_texts : Body → List Bytes
body_texts (holds kids) = []
body_texts (says content) = content_texts content

-- the texts that a member holds, as the one thing or as the elements of an array
abbrev pub bodies_texts : Bodies → List Bytes
bodies_texts (one b) = body_texts b
bodies_texts (many bs) = flat_map body_texts bs

-- the texts that a class with these members directly holds
abbrev pub texts_in : Forest → List Bytes
texts_in end = []
texts_in (leaf i rest) = content_texts i.content ++ texts_in rest
texts_in (branch name place kids rest) = texts_in rest

-- ---- in all classes

-- the front one of some handlings
abbrev pub front : List (Option Handling) → Option Handling
front [] = None
front (h ∷ hs) = h

-- those behind it
abbrev pub behind : List (Option Handling) → List (Option Handling)
behind [] = []
behind (h ∷ hs) = hs

-- the handlings that the classes among these members, and those below, leave
abbrev pub left_below : List (Option Handling) → Forest → List (Option Handling)
left_below hs end = hs
left_below hs (leaf i rest) = left_below hs rest
left_below hs (branch name place kids rest) = left_below (left_below (behind hs) kids) rest

-- the texts that these classes directly hold
abbrev pub holdings_below : List (Option Handling) → Forest → List HeldText
holdings_below hs end = []
holdings_below hs (leaf i rest) = holdings_below hs rest
holdings_below hs (branch name place kids rest) =
    map (held_in name (front hs)) (texts_in kids) ++ (holdings_below (behind hs) kids ++ holdings_below (left_below (behind hs) kids) rest)

-- the handlings that one thing leaves
abbrev pub body_left : List (Option Handling) → Body → List (Option Handling)
body_left hs (holds kids) = left_below (behind hs) kids
body_left hs (says content) = hs

-- the texts that one thing in a member of this name holds, with the classes below
abbrev pub body_holdings : List (Option Handling) → Bytes → Body → List HeldText
body_holdings hs name (holds kids) = map (held_in name (front hs)) (texts_in kids) ++ holdings_below (behind hs) kids
body_holdings hs name (says content) = []

-- the handlings that the elements of an array leave
abbrev pub many_left : List (Option Handling) → List Body → List (Option Handling)
many_left hs [] = hs
many_left hs (b ∷ bs) = many_left (body_left hs b) bs

-- the texts that the elements of an array in a member of this name hold
abbrev pub many_holdings : List (Option Handling) → Bytes → List Body → List HeldText
many_holdings hs name [] = []
many_holdings hs name (b ∷ bs) = body_holdings hs name b ++ many_holdings (body_left hs b) name bs

-- the handlings that a member leaves
abbrev pub bodies_left : List (Option Handling) → Bodies → List (Option Handling)
bodies_left hs (one b) = body_left hs b
bodies_left hs (many bs) = many_left hs bs

-- the texts that a member of this name holds
abbrev pub bodies_holdings : List (Option Handling) → Bytes → Bodies → List HeldText
bodies_holdings hs name (one b) = body_holdings hs name b
bodies_holdings hs name (many bs) = many_holdings hs name bs
