-- The tree of a document, from the flat list of its lines.
use Rattle.std.specs.Prelude.{ℕ, suc, List, [], ◌∷◌, nat_lt, ◌==◌, if◌then◌else◌, Option, Some, None}
use Rattle.std.specs.Str.{bytes_eq}
use Rattle.json_pointer.specs.Text.{Bytes}
use Rattle.iodef_tree.specs.Tree.{Forest, end, Body, holds, says, text, value, in_front, place_of}
use Rattle.iodef_tree.specs.Sound.{SiblingPlace}
use Rattle.iodef_tree.specs.declared.line.Line.{Line}
use Rattle.iodef_tree.specs.declared.line.Kind.{Kind}
use Rattle.iodef_tree.specs.declared.line.Kind.TheVariants as kind

-- a choice by the depth of a line: the first if it is less deep, the second if it is as deep, the third if it is
-- deeper
abbrev pub by_depth : {A : Type 0} → Line → ℕ → A → A → A → A
by_depth l depth ended own passed = if nat_lt l.depth depth then ended else (if l.depth == depth then own else passed)

-- the place of the element behind a sibling: the next one if the sibling is an element of the array of this name, else
-- the first
abbrev pub next_place : Option SiblingPlace → Bytes → ℕ
next_place None name = 0
next_place (Some (n, None)) name = 0
next_place (Some (n, Some k)) name = if bytes_eq n name then suc k else 0

-- what a line is: a class with these members, or a plain content
abbrev pub body_of_line : Kind → Bytes → Forest → Body
body_of_line kind.Class s kids = holds kids
body_of_line kind.Text s kids = says (text s)
body_of_line kind.Value s kids = says (value s)

-- The members at this depth, behind a sibling if one is given: the lines as deep as this, up to the first that is less
-- deep. Of a class, the members are the lines behind it that are one deeper.
abbrev pub tree_from : ℕ → Option SiblingPlace → List Line → Forest
tree_from depth before [] = end
tree_from depth before (l ∷ ls) = by_depth l depth
    end
    (let place = place_of l.in_array (next_place before l.name) in
    in_front l.name place (body_of_line l.kind l.text (tree_from (suc depth) None ls)) (tree_from depth (Some (l.name, place)) ls))
    (tree_from depth before ls)

-- the tree whose lines these are
abbrev pub tree_of : List Line → Forest
tree_of ls = tree_from 1 None ls
