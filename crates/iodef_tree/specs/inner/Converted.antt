-- What the conversion of a JSON value keeps, for clauses that no caller outside the crate reads: the tree is ordered,
-- has the texts that lines may have, and has no empty array.
use Rattle.std.specs.Prelude.{◌≡◌, List, map, true}
use Rattle.std.specs.List.{AllByRecursion}
use Rattle.serde_json.specs.Data.{Data}
use Rattle.iodef_tree.specs.Filled.{IsFilled, IsMemberFilled, IsItemFilled}
use Rattle.iodef_tree.specs.inner.FitValues.{IsBodyOrdered, AreBodiesOrdered, HasBodyTexts, HaveTexts}
use Rattle.iodef_tree.specs.Sound.{IsOrdered}
use Rattle.iodef_tree.specs.Texts.{HasTexts}
use Rattle.iodef_tree.specs.Values.{forest_of_data, bodies_of_data, body_of_data, items_of_data}
use Rattle.iodef_tree.specs.View.{forest, bodies, body}
use Rattle.iodef_tree.specs.declared.object.Object.{Object}
use Rattle.iodef_tree.specs.declared.object.Member.{Member}
use Rattle.iodef_tree.specs.declared.object.Item.{Item}
use Rattle.serde_json.specs.Data as json

-- the object is the members of this JSON object
pub record IsObjectOf (ms : json.Members) (o : Object) : Type 0 where
  pub made : forest o ≡ forest_of_data ms
  pub ordered : IsOrdered (forest o)
  pub texts : HasTexts (forest o)
  pub filled : IsFilled o

-- the member holds this value
pub record IsMemberOf (d : Data) (m : Member) : Type 0 where
  pub made : bodies m ≡ bodies_of_data d
  pub ordered : AreBodiesOrdered (bodies m)
  pub texts : HaveTexts (bodies m)
  pub filled : IsMemberFilled m

-- the item is this value, as an element of an array
pub record IsItemOf (d : Data) (i : Item) : Type 0 where
  pub made : body i ≡ body_of_data d
  pub ordered : IsBodyOrdered (body i)
  pub texts : HasBodyTexts true (body i)
  pub filled : IsItemFilled i

-- the items are the elements of this array
pub record AreItemsOf (ds : json.Items) (is : List Item) : Type 0 where
  pub made : map body is ≡ items_of_data ds
  pub ordered : AllByRecursion IsBodyOrdered (map body is)
  pub texts : AllByRecursion (HasBodyTexts true) (map body is)
  pub filled : AllByRecursion IsItemFilled is
