-- No array of a tree is empty, at any depth. It is a fold to a truth value, so that a walk down the tree finds it at
-- each member.
use Rattle.std.specs.Prelude.{◌≡◌, List, [], ◌∷◌, Bool, true, false, ◌&&◌}
use Rattle.std.specs.List.{list_all}
use Rattle.iodef_tree.specs.declared.object.Object.{Object, fold-Object}
use Rattle.iodef_tree.specs.declared.object.Item.{Item, fold-Item}
use Rattle.iodef_tree.specs.declared.object.Member.{Member, fold-Member}
use Rattle.iodef_tree.specs.declared.object.Item.TheOpen.{Object-F, Member-F, Item-F}

-- whether a list has an element
abbrev pub has_some : {X : Type 0} → List X → Bool
has_some [] = false
has_some (x ∷ xs) = true

-- whether no array in an item is empty, given the answers for what is inside it
abbrev pub item_filled : Item-F Bool Bool Bool → Bool
item_filled (Item-F.Class inside) = inside
item_filled (Item-F.Text s) = true
item_filled (Item-F.Value s) = true

-- whether a member's own array, if it has one, has an element, and no array inside it is empty, given the answers for
-- what is inside it
abbrev pub member_filled : Member-F Bool Bool Bool → Bool
member_filled (Member-F.One inside) = inside
member_filled (Member-F.Many v) = has_some v.items && list_all (λ inside. inside) v.items

-- whether no array in an object is empty, given the answers for its members
abbrev pub object_filled : Object-F Bool Bool Bool → Bool
object_filled o = list_all (λ m. m.1) o.members.items

-- whether no array in an object is empty, at any depth
abbrev pub is_object_filled : Object → Bool
is_object_filled = fold-Object Bool Bool Bool item_filled member_filled object_filled

-- whether no array in a member is empty, at any depth
abbrev pub is_member_filled : Member → Bool
is_member_filled = fold-Member Bool Bool Bool item_filled member_filled object_filled

-- whether no array in an item is empty, at any depth
abbrev pub is_item_filled : Item → Bool
is_item_filled = fold-Item Bool Bool Bool item_filled member_filled object_filled

-- no array in an object is empty, at any depth (RFC 8727 section 2)
abbrev pub IsFilled : Object → Type 0
IsFilled o = is_object_filled o ≡ true

-- no array in a member is empty, at any depth
abbrev pub IsMemberFilled : Member → Type 0
IsMemberFilled m = is_member_filled m ≡ true

-- no array in an item is empty, at any depth
abbrev pub IsItemFilled : Item → Type 0
IsItemFilled i = is_item_filled i ≡ true
