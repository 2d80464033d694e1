use Rattle.{std.proofs.{Common.{◌≡◌, [], ◌∷◌, ◌++◌, pos, take, sym, ap, ◌∙◌, arith, rules}, lemmas.Grind.common_steps}, sqlite_value.specs.Order.Row}
use Rattle.{sqlite_value.specs.declared.value.Value.TheVariants.Int, hub_store.{proofs.Rows.LineParams.placed_more, specs.Items.placed_lines}}
use Rattle.hub_store.proofs.put_lines.params_of.Goals as goal

pub loop-line-preserved : goal.loop-line-preserved
loop-line-preserved c = record {
  at = search rules;
  given =
      c.in_ok-push_line.ensures ∙ ap (λ (row : Row). row ++ placed_lines c.loop-line.at (c.line-item.result ∷ [])) c.loop-line.invariant.given
      ∙ ap (λ (row : Row). Int (pos c.args.incident) ∷ row) (sym (placed_more c.args.place c.loop-line.at c.loop-line.line-index c.args.lines.now c.line-item.result c.loop-line-test.true c.line-item.is c.loop-line.invariant.at));
}

pub returns : goal.returns
returns c =
    let all : take c.loop-line.line-index c.args.lines.now ≡ c.args.lines.now = grind (arith, common_steps) in
    rw all at c.loop-line.invariant.given
