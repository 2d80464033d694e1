-- The tree of an `Object` of the program.
use Rattle.std.specs.Prelude.{List, [], ◌∷◌, map}
use Rattle.json_pointer.specs.Text.{Bytes}
use Rattle.iodef_tree.specs.Tree.{Forest, end, Body, holds, says, Bodies, one, many, member_front, text, value}
use Rattle.json_pointer.specs.declared.text.Text.{Text}
use Rattle.iodef_tree.specs.declared.object.Object.{Object, fold-Object}
use Rattle.iodef_tree.specs.declared.object.Item.{Item, fold-Item}
use Rattle.iodef_tree.specs.declared.object.Member.{Member, fold-Member}
use Rattle.iodef_tree.specs.declared.object.Item.TheOpen.{Object-F, Member-F, Item-F}

-- the members one after another, each in front of those behind it
abbrev pub forest_of_members : List (Bytes × Bodies) → Forest
forest_of_members [] = end
forest_of_members (m ∷ ms) = member_front m.0 m.1 (forest_of_members ms)

-- one item, given the trees of what is inside it
abbrev pub item_step : Item-F Body Bodies Forest → Body
item_step (Item-F.Class kids) = holds kids
item_step (Item-F.Text s) = says (text s)
item_step (Item-F.Value s) = says (value s)

-- one member, given what its items hold
abbrev pub member_step : Member-F Body Bodies Forest → Bodies
member_step (Member-F.One b) = one b
member_step (Member-F.Many v) = many v.items

-- one object, given what its members hold
abbrev pub object_step : Object-F Body Bodies Forest → Forest
object_step o = forest_of_members o.members.items

-- the tree of the program's `Object`
abbrev pub forest : Object → Forest
forest = fold-Object Body Bodies Forest item_step member_step object_step

-- what the program's `Member` holds
abbrev pub bodies : Member → Bodies
bodies = fold-Member Body Bodies Forest item_step member_step object_step

-- what the program's `Item` is
abbrev pub body : Item → Body
body = fold-Item Body Bodies Forest item_step member_step object_step

-- a member's name, and what it holds
abbrev pub named : Text × Member → Bytes × Bodies
named m = (m.0, bodies m.1)

-- the tree of a list of members
abbrev pub members_forest : List (Text × Member) → Forest
members_forest ms = forest_of_members (map named ms)
