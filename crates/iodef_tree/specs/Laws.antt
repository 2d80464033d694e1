-- The laws of sound trees, on which later definitions rely.
use Rattle.std.specs.Prelude.{◌≡◌, ℕ, List, [], ◌∷◌, Ok, ◌++◌, map, true, false, ◌||◌, Option}
use Rattle.std.specs.List.{AllByRecursion, IsDistinct}
use Rattle.std.specs.Str.{is_utf8}
use Rattle.serde_json.specs.Data.{object}
use Rattle.serde_json.specs.Written.{compact_text}
use Rattle.iodef_tree.specs.Json.{data_of}
use Rattle.iodef_tree.specs.Reading.{reading}
use Rattle.iodef_tree.specs.declared.line.Line.{Line}
use Rattle.json_pointer.specs.Text.{Bytes, Tokens, same_path, is_root, is_prefix, is_under}
use Rattle.iodef_tree.specs.Tree.{Forest, end, leaf, branch, steps, lines}
use Rattle.iodef_tree.specs.Paths.{LocatedLine, located, classes_of, has_class}
use Rattle.iodef_tree.specs.Outline.{is_outline}
use Rattle.iodef_tree.specs.Sound.{IsSound}
use Rattle.iodef_tree.specs.TreeOf.{tree_of}
use Rattle.iodef_tree.specs.Walk.{walk, walked, IsBlock, AreBlocks}

-- a property holds of each sibling, by its name and its place
abbrev pub AllSiblings : (Bytes → Option ℕ → Type 0) → Forest → Type 0
AllSiblings P end = Unit {0}
AllSiblings P (leaf i rest) = P i.name i.place × AllSiblings P rest
AllSiblings P (branch name place kids rest) = P name place × AllSiblings P rest

-- Two siblings are apart: no path at or below one of them is at or below the other.
pub record AreApart (n : Bytes) (place : Option ℕ) (n' : Bytes) (place' : Option ℕ) : Type 0 where
  pub left : (z : Tokens) → is_prefix (steps n place) (steps n' place' ++ z) ≡ false
  pub right : (z : Tokens) → is_prefix (steps n' place') (steps n place ++ z) ≡ false

-- each sibling is apart from those behind it, in each class
abbrev pub HasApart : Forest → Type 0
HasApart end = Unit {0}
HasApart (leaf i rest) = AllSiblings (AreApart i.name i.place) rest × HasApart rest
HasApart (branch name place kids rest) = AllSiblings (AreApart name place) rest × HasApart kids × HasApart rest

-- At a path of a document with these lines there is a class, or the root, with these members: the lines below the path
-- are theirs. No two of the members have the same path.
pub record StandsAt (es : List LocatedLine) (p : Tokens) (f : Forest) : Type 0 where
  pub block : IsBlock p es f
  pub apart : HasApart f

-- The law that the located lines of a sound tree are those that a walk down the tree meets.
abbrev pub EntriesAreTheWalk : Type 0
EntriesAreTheWalk = (f : Forest) → IsSound f → located (lines 1 f) ≡ walk 1 [] f

-- The law that the tree of a sound tree's lines is that tree.
abbrev pub TreesComeBack : Type 0
TreesComeBack = (f : Forest) → IsSound f → tree_of (lines 1 f) ≡ f

-- The law that siblings of a sound tree are apart.
abbrev pub SiblingsStandApart : Type 0
SiblingsStandApart = (f : Forest) → IsSound f → HasApart f

-- The law that the lines below the path of each class are those of its members, and no others.
abbrev pub ClassesAreBlocks : Type 0
ClassesAreBlocks = (f : Forest) → IsSound f → AreBlocks (located (lines 1 f)) 1 [] f

-- The law that no two lines of a document have the same path.
abbrev pub PathsAreDistinct : Type 0
PathsAreDistinct = (f : Forest) → IsSound f → IsDistinct same_path (map (λ e. e.path) (located (lines 1 f)))

-- The law that no two classes of a document have the same path.
abbrev pub ClassPathsAreDistinct : Type 0
ClassPathsAreDistinct = (f : Forest) → IsSound f → IsDistinct same_path (classes_of (lines 1 f))

-- The law that two documents with the same lines are the same tree.
abbrev pub OutlineIsOneToOne : Type 0
OutlineIsOneToOne = (f g : Forest) → IsSound f → IsSound g → lines 1 f ≡ lines 1 g → f ≡ g

-- The law that the lines of a document are an outline.
abbrev pub LinesAreAnOutline : Type 0
LinesAreAnOutline = (f : Forest) → IsSound f → is_outline (lines 1 f) ≡ true

-- Of the classes among these lines whose paths are proper prefixes of p, q is the longest path, or the root's if there
-- is none (RFC 7970 section 3).
pub record IsNearestClass (es : List LocatedLine) (p q : Tokens) : Type 0 where
  pub stands : (is_root q || has_class es q) ≡ true
  pub proper : is_under q p ≡ true
  pub longest : (r : Tokens) → has_class es r ≡ true → is_under r p ≡ true → is_prefix r q ≡ true

-- The law that the parent of each line is the nearest class above its path.
abbrev pub ParentsAreNearestClasses : Type 0
ParentsAreNearestClasses = (f : Forest) → IsSound f → AllByRecursion (λ e. IsNearestClass (located (lines 1 f)) e.path e.parent) (located (lines 1 f))

-- The law that the text of each document that was read from a body is read as that one document, if the text is UTF-8.
-- Each text is UTF-8; the definitions of the kit do not say so of a text that was read.
abbrev pub TextsReadBack : Type 0
TextsReadBack =
    (bytes : Bytes) (ds : List (List Line)) → reading bytes ≡ Ok ds →
    AllByRecursion (λ d. is_utf8 (compact_text (object (data_of d))) ≡ true → reading (compact_text (object (data_of d))) ≡ Ok (d ∷ [])) ds

-- these are the lines of a sound tree
abbrev pub IsDocument : List Line → Type 0
IsDocument ls = (f : Forest) × IsSound f × (ls ≡ lines 1 f)

-- The law that the lines of each document of a body are those of a sound tree.
abbrev pub ReadingsAreDocuments : Type 0
ReadingsAreDocuments = (bytes : Bytes) (ds : List (List Line)) → reading bytes ≡ Ok ds → AllByRecursion IsDocument ds

-- The law that the located lines of a document are those that a walk down its tree meets.
abbrev pub PathsAreWalked : Type 0
PathsAreWalked = (ls : List Line) → IsDocument ls → located ls ≡ walked ls
