-- An object, level by level.
use Rattle.{std.proofs.Common.{◌≡◌, map, Vec, Global, rules}, json_pointer.specs.declared.text.Text.Text as Bytes, iodef_tree.specs.Tree.{text, value, holds}}
use Rattle.iodef_tree.specs.{Tree.{says, one, many}, View.{forest, bodies, body, members_forest}, declared.object.Item.{Item, TheVariants.{Class, Text, Value}}}
use Rattle.iodef_tree.specs.declared.object.{Member.{Member, TheVariants.{One, Many}}, Object.{Object, roll-Object, the_lemmas}}

pub body-Class : (o : Object) → body (Class o) ≡ holds (forest o)
body-Class o = search (rules, the_lemmas)

pub body-Text : (s : Bytes) → body (Text s) ≡ says (text s)
body-Text s = search (rules, the_lemmas)

pub body-Value : (s : Bytes) → body (Value s) ≡ says (value s)
body-Value s = search (rules, the_lemmas)

pub bodies-One : (i : Item) → bodies (One i) ≡ one (body i)
bodies-One i = search (rules, the_lemmas)

pub bodies-Many : (v : Vec Item Global) → bodies (Many v) ≡ many (map body v.items)
bodies-Many v = search (rules, the_lemmas)

pub forest-members : (o : Object) → forest o ≡ members_forest o.members.items
forest-members o = search (rules, the_lemmas)

pub forest-made : (v : Vec (Bytes × Member) Global) → forest (roll-Object (record { members = v })) ≡ members_forest v.items
forest-made v = search (rules, the_lemmas)
