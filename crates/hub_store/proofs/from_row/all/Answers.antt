use Rattle.{std.proofs.{Common.{◌≡◌, ◌++◌, [], ◌∷◌, ◌∙◌, take, sym, ap, subst₂, rules}, lemmas.List.take_more}, hub_store.proofs.LookUps.Finding.shows_more}
use Rattle.hub_store.specs.inner.Shown.{ShowsAll}
use Rattle.hub_store.proofs.from_row.all.Goals as goal

pub loop-row-preserved : goal.loop-row-preserved
loop-row-preserved g c =
    let items : c.push.new.self.items ≡ c.loop-row.found.items ++ c.in_ok-from_row.field-0 ∷ [] = search rules in
    let rows = take_more c.args.rows.now c.loop-row.row-index c.row-item.result c.loop-row-test.true ∙ ap (λ r. take c.loop-row.row-index c.args.rows.now ++ r ∷ []) (sym c.row-item.is) in
    subst₂ (ShowsAll g.T.FromRow.shows) (sym rows) (sym items) (shows_more g.T.FromRow.shows _ _ c.row-item.result c.in_ok-from_row.field-0 c.loop-row.invariant c.in_ok-from_row.ensures)
