-- A search by one pass down a document, in which each class is judged by what it inherits from above.
use Rattle.std.specs.Prelude.{ℕ, suc, Bool, true, false, ◌&&◌, ◌||◌, List, [], ◌∷◌, Option, option_map, decimal}
use Rattle.std.specs.List.{list_any}
use Rattle.iodef_tree.specs.Text.{Bytes}
use Rattle.iodef_tree.specs.Tree.{Content, text, value, Forest, end, leaf, branch, Body, holds, says, Bodies, one, many}
use Rattle.marking.specs.Members.{spelled_in}
use Rattle.policy.specs.Inherited.{Inherited, enter_array, enter_class, is_seen}
use Rattle.policy.specs.declared.standing.Standing.{Standing}
use Rattle.policy.specs.declared.case.Case.{Case}
use Rattle.redact.specs.Told.{has_needle, is_named}
use Rattle.redact.specs.inner.Pass.{enter}
use Rattle.redact.specs.declared.search.Asked.{Asked}
use Rattle.redact.specs.declared.search.Asked.TheVariants.{Anything, Holding}

-- ---- texts that contain the needle

module _ (needle : Bytes) where
  -- whether a plain content is a text with the needle
  abbrev pub content_hits : Content → Bool
  content_hits (text t) = has_needle needle t
  content_hits (value t) = false

  -- whether one thing is a text with the needle; a class is none
  abbrev pub body_hits : Body → Bool
  body_hits (holds kids) = false
  body_hits (says content) = content_hits content

  -- whether a member holds a text with the needle directly, as the one thing or as an element of the array
  abbrev pub bodies_hit : Bodies → Bool
  bodies_hit (one b) = body_hits b
  bodies_hit (many bs) = list_any body_hits bs

  -- a class with these members directly holds a text with the needle
  abbrev pub members_hit : Forest → Bool
  members_hit end = false
  members_hit (leaf i rest) = content_hits i.content || members_hit rest
  members_hit (branch name place kids rest) = members_hit rest

-- a class of this name, if one is given, that directly holds a text with the needle
abbrev pub holds_text : Bytes → Option Bytes → Bytes → Forest → Bool
holds_text needle class name kids = is_named class name && members_hit needle kids

-- any class
abbrev pub any_class : Bytes → Forest → Bool
any_class name kids = true

-- what a search asks of a class's name and members
abbrev pub asked_of : Asked → Bytes → Forest → Bool
asked_of Anything = any_class
asked_of (Holding finder class) = holds_text finder (option_map (λ name. name.now) class)

-- ---- visible classes that are asked

module _ (c : Case) (s : Standing) (asked : Bytes → Forest → Bool) where
  -- the class of this name itself is visible and answers
  abbrev pub class_hits : Inherited → Bytes → Forest → Bool
  class_hits k name kids = is_seen s k && asked name kids

  -- some class among these members or below them does
  abbrev pub found : Inherited → Forest → Bool
  found h end = false
  found h (leaf i rest) = found h rest
  found h (branch name place kids rest) =
      let k = enter c s h name place (spelled_in kids) in class_hits k name kids || (found k kids || found h rest)

  -- some class in one thing, under this token of the class or array at d, in a member of this name
  abbrev pub found_at : Inherited → Bytes → Bytes → Body → Bool
  found_at d t name (says content) = false
  found_at d t name (holds kids) =
      let k = enter_class c s d t (spelled_in kids) in class_hits k name kids || found k kids

  -- some class in the elements of the array at d from place k on
  abbrev pub found_items : Inherited → Bytes → ℕ → List Body → Bool
  found_items d name k [] = false
  found_items d name k (b ∷ bs) = found_at d (decimal k) name b || found_items d name (suc k) bs

  -- some class in a member of the class at a
  abbrev pub found_member : Inherited → Bytes → Bodies → Bool
  found_member a name (one b) = found_at a name name b
  found_member a name (many bs) = found_items (enter_array c s a name) name 0 bs
