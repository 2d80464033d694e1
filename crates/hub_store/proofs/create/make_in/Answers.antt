use Rattle.{std.proofs.Common.{drop, refl}, sqlite.specs.Held.state, hub_state.specs.State.empty, hub_store.proofs.Edits.Steps.{on_ok, creates_then}}
use Rattle.hub_store.{proofs.{Edits.Steps.creates_not, Rows.Empty.newest_empty}, specs.{Layout.{newest, parts_by, bare_by}, Means.Holds, Parts.HoldsParts}}
use Rattle.hub_store.specs.inner.Makes.{Creates}
use Rattle.hub_store.proofs.create.make_in.Goals as goal

pub returns-in_err-make_tables-clause-made : goal.returns-in_err-make_tables-clause-made
returns-in_err-make_tables-clause-made g c = creates_not c.from_residual.ensures.1 c.in_err-make_tables.ensures.made

pub returns-in_err-make_tables_2-clause-made : goal.returns-in_err-make_tables_2-clause-made
returns-in_err-make_tables_2-clause-made g c = creates_not c.from_residual-in_err-make_tables_2.ensures.1 (creates_then c.in_ok-make_tables.ensures.made c.in_err-make_tables_2.ensures.made)

pub returns-in_err-make_newest-clause-made : goal.returns-in_err-make_newest-clause-made
returns-in_err-make_newest-clause-made g c =
    creates_not c.from_residual-in_err-make_newest.ensures.1 (creates_then c.in_ok-make_tables.ensures.made (creates_then c.in_ok-make_tables_2.ensures.made c.in_err-make_newest.ensures.made))

pub returns-clause-made : goal.returns-clause-made
returns-clause-made g c =
    let put = c.put_version.ensures.made (drop 1 (parts_by newest empty)) refl in
    let last : Creates (state g.S.Store c.make_newest.new.tx.conn.now) (state g.S.Store c.put_version.new.tx.conn.now) (HoldsParts (bare_by newest)) (λ db. Holds db empty) c.put_version.result = record {
      makes = record { goes = put.goes; made = λ clean inside before. on_ok c.put_version.result _ _ (newest_empty _) (put.made clean inside before) };
      cause = (c.put_version.ensures.cause (drop 1 (parts_by newest empty)) refl).cause;
    } in
    creates_then c.in_ok-make_tables.ensures.made (creates_then c.in_ok-make_tables_2.ensures.made (creates_then c.in_ok-make_newest.ensures.made last))
