use Rattle.{std.proofs.Common.{◌≡◌, ◌≤◌, List, [], ◌∷◌, length, false, refl, arith}, serde_json.specs.{View.items_view, declared.value.Value.Value}}
use Rattle.iodef_tree.specs.Texts.{is_empty}
use Rattle.iodef_tree.proofs.value_text.is_empty.Goals as goal

some_items : (vs ws : List Value) → ws ≡ vs → 1 ≤ length ws → false ≡ is_empty (items_view vs)
some_items [] [] e h = absurd (omega (arith, h))
some_items [] (w ∷ ws) e h = cc
some_items (v ∷ vs) ws e h = refl

pub returns-in-len1-up : goal.returns-in-len1-up
returns-in-len1-up c = some_items c.args.items.now.items c.as_slice.result.now c.as_slice.ensures.value c.in-len1-up.len_at_least
