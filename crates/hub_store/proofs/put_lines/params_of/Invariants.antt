use Rattle.{std.proofs.Common.{◌≡◌, ◌+◌, ◌∷◌, pos, take}, sqlite_value.specs.declared.value.Value.TheVariants.Int, sqlite.specs.Values.bound}
use Rattle.hub_store.specs.Items.{placed_lines}
use Rattle.hub_store.proofs.put_lines.params_of.Given as goal

abbrev pub invariant-loop-line : goal.invariant-loop-line
invariant-loop-line l = record {
  at : l.at ≡ l.place + l.line-index;
  given : bound l.params.items ≡ Int (pos l.incident) ∷ placed_lines l.place (take l.line-index l.lines);
}
