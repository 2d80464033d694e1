use Rattle.{std.{proofs.Common.{List, sym, subst}, specs.List.AllByRecursion}, iodef_tree.{proofs.Filled.many-kept, specs.Filled.IsMemberFilled}}
use Rattle.iodef_tree.specs.{Filled.IsItemFilled, declared.object.Item.Item}
use Rattle.iodef_tree.proofs.lookup.part_of.Goals as goal

pub element_at-requires : goal.element_at-requires
element_at-requires c =
    subst (λ (xs : List Item). AllByRecursion IsItemFilled xs) (sym c.deref.ensures.value) (many-kept c.in-Many.items (subst IsMemberFilled c.in-Many.is c.requires)).1
