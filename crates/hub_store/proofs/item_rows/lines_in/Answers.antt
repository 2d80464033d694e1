use Rattle.{std.proofs.{Common.{◌≡◌, ◌++◌, [], ◌∷◌, ◌∙◌, take, sym, ap, subst₂, rules}, lemmas.List.take_more}, hub_store.proofs.LookUps.AtPlaces.placed_more}
use Rattle.hub_store.specs.{Items.placed_from, inner.Shown.{ShowsAll, ShowsPlaced}}
use Rattle.hub_store.proofs.item_rows.lines_in.Goals as goal

pub loop-row-preserved : goal.loop-row-preserved
loop-row-preserved c =
    let items : c.push.new.self.items ≡ c.loop-row.lines.items ++ c.in_ok-line_at.field-0 ∷ [] = search rules in
    let rows = take_more c.args.rows.now c.loop-row.row-index c.row-item.result c.loop-row-test.true ∙ ap (λ r. take c.loop-row.row-index c.args.rows.now ++ r ∷ []) (sym c.row-item.is) in
    subst₂ (λ rows lines. ShowsAll ShowsPlaced rows (placed_from 1 lines)) (sym rows) (sym items)
    (placed_more _ c.loop-row.lines.items _ c.row-item.result c.in_ok-line_at.field-0 (search rules) c.loop-row.invariant c.in_ok-line_at.ensures)
