use Rattle.std.{proofs.{Common.{arith, ◌≡◌, ◌&&◌, List, [], ◌∷◌, map, refl, sym, ◌∙◌, ap}, lemmas.Grind.common_steps}, specs.List.list_all}
use Rattle.{json_pointer.specs.declared.text.Text.Text as Bytes, iodef_tree.{proofs.Filled.{asked, filled-made, filled-members}, specs.Filled.is_member_filled}}
use Rattle.iodef_tree.specs.declared.object.Member.{Member}
use Rattle.iodef_tree.proofs.copy.+copy.Goals as goal

all-asked : (xs : List (Bytes × Member)) → list_all (λ m. m.1) (map asked xs) ≡ list_all (λ b. b) (map (λ (m : Bytes × Member). is_member_filled m.1) xs)
all-asked [] = refl
all-asked (x ∷ xs) = ap (λ b. is_member_filled x.1 && b) (all-asked xs)

pub copy_object-returns-clause-filled : goal.copy_object-returns-clause-filled
copy_object-returns-clause-filled t c =
    let made = c.in_ok-copy_members.field-0 in
    filled-made made ∙ all-asked made.items ∙ ap (list_all (λ b. b)) c.in_ok-copy_members.ensures.filled
    ∙ sym (all-asked c.args.object.now.members.items) ∙ sym (filled-members c.args.object.now)

pub copy_items-loop-item-preserved : goal.copy_items-loop-item-preserved
copy_items-loop-item-preserved t c = grind (arith, common_steps)

pub copy_items-returns-clause-same : goal.copy_items-returns-clause-same
copy_items-returns-clause-same t c = grind (arith, common_steps)

pub copy_items-returns-clause-filled : goal.copy_items-returns-clause-filled
copy_items-returns-clause-filled t c = grind (arith, common_steps)

pub copy_members-loop-name-preserved : goal.copy_members-loop-name-preserved
copy_members-loop-name-preserved t c = grind (arith, common_steps)

pub copy_members-returns-clause-same : goal.copy_members-returns-clause-same
copy_members-returns-clause-same t c = grind (arith, common_steps)

pub copy_members-returns-clause-filled : goal.copy_members-returns-clause-filled
copy_members-returns-clause-filled t c = grind (arith, common_steps)
