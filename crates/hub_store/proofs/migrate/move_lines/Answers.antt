use Rattle.{std.proofs.Common.{[], map, Ok}, sqlite.specs.Held.state, hub_state.specs.State.empty, hub_store.proofs.Edits.Inside.goes_then}
use Rattle.hub_store.{proofs.Edits.Steps.{clean_before, fails_then, fails_passed, goes_passed}, specs.{Items.{items_of, item_row}, Layout.parts_1}}
use Rattle.hub_store.specs.{Parts.HoldsParts, inner.{Beside.HoldsBeside, Makes.Makes}}
use Rattle.hub_store.proofs.migrate.move_lines.Goals as goal

pub returns-in_err-create_item-clause-goes : goal.returns-in_err-create_item-clause-goes
returns-in_err-create_item-clause-goes g c = goes_passed c.from_residual.ensures.1 (c.in_err-create_item.ensures.made empty).goes

pub returns-in_err-kept-clause-goes : goal.returns-in_err-kept-clause-goes
returns-in_err-kept-clause-goes g c = goes_passed c.from_residual-in_err-kept.ensures.1 (goes_then _ _ _ _ _ (c.in_ok-create_item.ensures.made empty).goes c.in_err-kept.ensures.goes)

pub returns-in_err-drop_incident-clause-goes : goal.returns-in_err-drop_incident-clause-goes
returns-in_err-drop_incident-clause-goes g c =
    let first = goes_then _ _ _ _ _ (c.in_ok-create_item.ensures.made empty).goes c.in_ok-kept.ensures.goes in
    goes_passed c.from_residual-in_err-drop_incident.ensures.1 (goes_then _ _ _ _ _ first (c.in_err-drop_incident.ensures.made empty []).goes)

pub returns-clause-goes : goal.returns-clause-goes
returns-clause-goes g c =
    let first = goes_then _ _ _ _ _ (c.in_ok-create_item.ensures.made empty).goes c.in_ok-kept.ensures.goes in
    let whole = goes_then _ _ _ _ _ first (c.in_ok-drop_incident.ensures.made empty []).goes in
    record { kept = whole.kept; inside = whole.inside; survives = whole.survives }

pub returns-clause-moved : goal.returns-clause-moved
returns-clause-moved g c clean inside s has before =
    let create = c.in_ok-create_item.ensures.made s in
    let move = c.in_ok-kept.ensures in
    let drop = c.in_ok-drop_incident.ensures.made s (map item_row (items_of s)) in
    let late = clean_before _ _ drop.goes.survives clean in
    let early = clean_before _ _ move.goes.survives late in
    let first = create.goes.inside early inside in
    let moved = move.moved late first.0 s has (create.made early inside before) in
    (drop.made clean (move.goes.inside late first.0).0 moved.0, moved.1)

pub returns-in_err-create_item-clause-cause : goal.returns-in_err-create_item-clause-cause
returns-in_err-create_item-clause-cause g c s has taken = fails_passed c.from_residual.ensures.1 (c.in_err-create_item.ensures.cause s)

pub returns-in_err-kept-clause-cause : goal.returns-in_err-kept-clause-cause
returns-in_err-kept-clause-cause g c s has taken =
    fails_passed c.from_residual-in_err-kept.ensures.1 (fails_then (c.in_ok-create_item.ensures.made s) c.in_err-kept.ensures.goes (c.in_err-kept.ensures.cause s has taken))

pub returns-in_err-drop_incident-clause-cause : goal.returns-in_err-drop_incident-clause-cause
returns-in_err-drop_incident-clause-cause g c s has taken =
    let create = c.in_ok-create_item.ensures.made s in
    let move = c.in_ok-kept.ensures in
    let items = map item_row (items_of s) in
    let one : Makes {T = Unit {0}} (state g.S.Store c.args.tx.now.conn.now) (state g.S.Store c.move_documents.new.tx.conn.now) (HoldsParts (parts_1 s)) (HoldsBeside items s) (Ok tt) = record {
      goes = (goes_then {U = Unit {0}} _ _ _ _ (Ok tt) create.goes (record { kept = move.goes.kept; inside = move.goes.inside; survives = move.goes.survives }));
      made = λ clean inside before.
          let early = clean_before _ _ move.goes.survives clean in
          (move.moved clean (create.goes.inside early inside).0 s has (create.made early inside before)).0;
    } in
    fails_passed c.from_residual-in_err-drop_incident.ensures.1 (fails_then one (c.in_err-drop_incident.ensures.made s items).goes (c.in_err-drop_incident.ensures.cause s items))
