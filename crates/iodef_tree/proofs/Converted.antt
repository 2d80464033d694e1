-- The conversion of a JSON value, level by level.
use Rattle.std.{proofs.Common.{◌≡◌, ◌==◌, List, [], ◌++◌, length, map, false, None, Vec, Global, string_cmp, sym, ◌∙◌, subst}, specs.List.AllByRecursion}
use Rattle.{std.specs.{List.Sorted.IsStrictlySortedBy, Map.keys_of}, serde_json.specs.{View.{items_view, members_view}, declared.value.Value.Value}}
use Rattle.{json_pointer.specs.declared.text.Text.Text as Bytes, iodef_tree.proofs.{AscendingNames.{Ascend, ascend_given, ordered_members}, Filled.made-filled}}
use Rattle.iodef_tree.proofs.{Filled.many-filled, FromValues.{MapEntry, given_members, all_given, members_done, many_done, some_given}}
use Rattle.iodef_tree.{proofs.{ValueTexts.texts-members, Views.{bodies-Many, forest-made}}, specs.{Filled.IsMemberFilled, Sound.IsOrdered, Texts.HasTexts}}
use Rattle.iodef_tree.specs.{View.{body, named}, declared.object.{Item.Item, Member.{Member, TheVariants.Many}, Object.roll-Object}, inner.Converted.IsObjectOf}
use Rattle.iodef_tree.specs.inner.{Converted.{IsMemberOf, AreItemsOf}, FitValues.{AreBodiesOrdered, HaveTexts}}
use Rattle.serde_json.specs.Data as json

pub many_member : (v : Vec Item Global) (vs : List Value) → (length vs == 0) ≡ false → AreItemsOf (items_view vs) v.items → IsMemberOf (json.array (items_view vs)) (Many v)
many_member v vs some h = record {
  made = bodies-Many v ∙ many_done vs (map body v.items) h.made some;
  ordered = subst AreBodiesOrdered (sym (bodies-Many v)) h.ordered;
  texts = subst HaveTexts (sym (bodies-Many v)) h.texts;
  filled = many-filled v (some_given vs v.items h.made some) h.filled;
}

-- all members are made when none is left
pub object_done : (v : Vec (Bytes × Member) Global) (es rest : List MapEntry) → rest ≡ [] → map named v.items ++ given_members rest ≡ given_members es →
    IsStrictlySortedBy string_cmp (keys_of es) → AllByRecursion (λ m. AreBodiesOrdered m.1) (map named v.items) → AllByRecursion (λ m. HaveTexts m.1) (map named v.items) →
    AllByRecursion (λ m. IsMemberFilled m.1) v.items → IsObjectOf (members_view es) (roll-Object (record { members = v }))
object_done v es rest none is ascend ordered texts filled =
    let all = all_given (map named v.items) es rest none is in
    record {
      made = forest-made v ∙ members_done (map named v.items) es rest none is;
      ordered = subst IsOrdered (sym (forest-made v)) (ordered_members (map named v.items) None tt (subst Ascend (sym all) (ascend_given es ascend)) ordered);
      texts = subst HasTexts (sym (forest-made v)) (texts-members (map named v.items) texts);
      filled = made-filled v filled;
    }
