use Rattle.{std.proofs.{Common.{[], ◌∷◌, w64, refl}, lemmas.Int.to_z_pos}, hub_store.{proofs.Rows.LineParams.appended, specs.Items.placed_lines}}
use Rattle.hub_store.proofs.put_lines.push_line.Goals as goal

pub returns : goal.returns
returns c =
    appended c.extend_from_slice.result _ _ _ (placed_lines c.args.place (c.args.line.now ∷ [])) c.extend_from_slice.ensures.items
    (rw (c.params-to_sql.ensures, c.params-to_sql-2.ensures, c.params-to_sql-3.ensures, c.params-to_sql-4.ensures, c.params-to_sql-5.ensures, c.params-to_sql-6.ensures, c.as_str.ensures, c.as_str-2.ensures, c.kind_number.ensures, to_z_pos w64 c.args.place c.requires) refl)
