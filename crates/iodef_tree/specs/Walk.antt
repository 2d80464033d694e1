-- The located lines of a tree, by a walk down it.
use Rattle.std.specs.Prelude.{◌≡◌, ℕ, suc, List, [], ◌∷◌, ◌++◌, Option}
use Rattle.json_pointer.specs.Text.{Bytes, Tokens}
use Rattle.iodef_tree.specs.Tree.{Leaf, Forest, end, leaf, branch, steps, leaf_line, class_line}
use Rattle.iodef_tree.specs.TreeOf.{tree_of}
use Rattle.iodef_tree.specs.declared.line.Line.{Line}
use Rattle.iodef_tree.specs.Paths.{LocatedLine, entry_at, below}

-- the located line of a plain member of the class at p
abbrev pub leaf_entry : ℕ → Tokens → Leaf → LocatedLine
leaf_entry d p i = entry_at p i.place (leaf_line d i)

-- the located line of a class that is a member of the class at p
abbrev pub class_entry : ℕ → Tokens → Bytes → Option ℕ → LocatedLine
class_entry d p name place = entry_at p place (class_line d name place)

-- the located lines of the members of the class at p, and of all below them
abbrev pub walk : ℕ → Tokens → Forest → List LocatedLine
walk d p end = []
walk d p (leaf i rest) = leaf_entry d p i ∷ walk d p rest
walk d p (branch name place kids rest) = class_entry d p name place ∷ (walk (suc d) (p ++ steps name place) kids ++ walk d p rest)

-- the located lines of a document: those that a walk down its tree meets
abbrev pub walked : List Line → List LocatedLine
walked ls = walk 1 [] (tree_of ls)

-- the lines below p are those of these members
abbrev pub IsBlock : Tokens → List LocatedLine → Forest → Type 0
IsBlock p es f = (d : ℕ) × (below p es ≡ walk d p f)

-- for each class of a tree below p, the lines below its path are those of its members
abbrev pub AreBlocks : List LocatedLine → ℕ → Tokens → Forest → Type 0
AreBlocks es d p end = Unit {0}
AreBlocks es d p (leaf i rest) = AreBlocks es d p rest
AreBlocks es d p (branch name place kids rest) =
    let q = p ++ steps name place in
    (below q es ≡ walk (suc d) q kids) × AreBlocks es (suc d) q kids × AreBlocks es d p rest

-- the paths of the classes among the members of p and all below them, in stored order
abbrev pub classes_below : Tokens → Forest → List Tokens
classes_below p end = []
classes_below p (leaf i rest) = classes_below p rest
classes_below p (branch name place kids rest) =
    let q = p ++ steps name place in q ∷ (classes_below q kids ++ classes_below p rest)
