use Rattle.{std.proofs.Common.{List, [], map, drop, Ok, refl, sym, subst, ◌∙◌}, sqlite_value.specs.Order.Row, sqlite.specs.Held.state}
use Rattle.{hub_state.specs.State.State, hub_store.proofs.Edits.{Inside.goes_then, Steps.{on_ok, clean_before, fails_then, fails_passed, goes_passed}}}
use Rattle.hub_store.proofs.{Edits.Steps.makes_passed, Versions.{Movable.names_stand, MovedOn.{tables_of_1, texts_of_1, held_as_2, rows_of_namings}}}
use Rattle.hub_store.specs.{Items.{items_of, item_row}, Layout.{tables_2, without_incidents}, Means.HoldsAs, Parts.{Part, HoldsParts}, Rows.named_row_2}
use Rattle.hub_store.specs.{Rows.naming_row_2, inner.{Beside.CanName, Makes.Makes}}
use Rattle.hub_store.proofs.migrate.to_version_2.Goals as goal

-- the tables of version 2 after that of the version
abbrev behind : List Row → State → List Part
behind items s = drop 1 (tables_2 1 items (map named_row_2 s.incidents) s)

pub returns-in_err-kept-clause-goes : goal.returns-in_err-kept-clause-goes
returns-in_err-kept-clause-goes g c =
    goes_passed c.from_residual.ensures.1 c.in_err-kept.ensures.goes

pub returns-in_err-kept-clause-made : goal.returns-in_err-kept-clause-made
returns-in_err-kept-clause-made g c s sound =
    makes_passed c.from_residual.ensures.1 c.in_err-kept.ensures.goes

pub returns-in_err-move_incidents-clause-goes : goal.returns-in_err-move_incidents-clause-goes
returns-in_err-move_incidents-clause-goes g c =
    goes_passed c.from_residual-in_err-move_incidents.ensures.1 (goes_then _ _ _ _ _ c.in_ok-kept.ensures.goes c.in_err-move_incidents.ensures.goes)

pub returns-in_err-move_incidents-clause-made : goal.returns-in_err-move_incidents-clause-made
returns-in_err-move_incidents-clause-made g c s sound =
    makes_passed c.from_residual-in_err-move_incidents.ensures.1 (goes_then _ _ _ _ _ c.in_ok-kept.ensures.goes c.in_err-move_incidents.ensures.goes)

pub returns-clause-goes : goal.returns-clause-goes
returns-clause-goes g c = goes_then _ _ _ _ _ (goes_then _ _ _ _ _ c.in_ok-kept.ensures.goes c.in_ok-move_incidents.ensures.goes) (c.set_version.ensures.made 1 [] refl).goes

pub returns-clause-made : goal.returns-clause-made
returns-clause-made g c s sound = record {
  goes = goes_then _ _ _ _ _ (goes_then _ _ _ _ _ c.in_ok-kept.ensures.goes c.in_ok-move_incidents.ensures.goes) (c.set_version.ensures.made 1 [] refl).goes;
  made = λ clean inside before.
      let items = map item_row (items_of s) in
      let move = c.in_ok-kept.ensures in
      let put = c.in_ok-move_incidents.ensures in
      let set = c.set_version.ensures.made 1 (behind items s) refl in
      let late = clean_before _ _ set.goes.survives clean in
      let early = clean_before _ _ put.goes.survives late in
      let moved = move.moved early inside s (texts_of_1 _ s sound before) (tables_of_1 _ s before) in
      let mid = move.goes.inside early inside in
      let made = (put.made s items).made late mid.0 moved.0 in
      on_ok c.set_version.result _ _ (λ tables. held_as_2 _ s before.fit.0 tables)
      (set.made clean (put.goes.inside late mid.0).0 (subst (λ rows. HoldsParts (tables_2 1 items rows s) (state g.S.Store c.move_incidents.new.tx.conn.now).now) (rows_of_namings _ s.incidents (c.deref.ensures.value ∙ moved.1)) made));
}

pub returns-in_err-kept-clause-cause : goal.returns-in_err-kept-clause-cause
returns-in_err-kept-clause-cause g c s sound taken =
    fails_passed {T = Unit {0}} {P = λ db. HoldsAs 1 db s} c.from_residual.ensures.1 (record { cause = λ clean inside before. (c.in_err-kept.ensures.cause s (texts_of_1 _ s sound before) taken).cause clean inside (tables_of_1 _ s before) })

pub returns-in_err-move_incidents-clause-cause : goal.returns-in_err-move_incidents-clause-cause
returns-in_err-move_incidents-clause-cause g c s sound taken =
    let items = map item_row (items_of s) in
    let move = c.in_ok-kept.ensures in
    let put = c.in_err-move_incidents.ensures in
    let one : Makes {T = Unit {0}} (state g.S.Store c.args.tx.now.conn.now) (state g.S.Store c.move_lines.new.tx.conn.now) (λ db. HoldsAs 1 db s) (HoldsParts (without_incidents items s)) (Ok tt) = record {
      goes = record { kept = move.goes.kept; inside = move.goes.inside; survives = move.goes.survives };
      made = λ clean inside before. (move.moved clean inside s (texts_of_1 _ s sound before) (tables_of_1 _ s before)).0;
    } in
    fails_passed {T = Unit {0}} {P = λ db. HoldsAs 1 db s} c.from_residual-in_err-move_incidents.ensures.1 (record {
      cause = λ clean inside before.
          let early = clean_before _ _ put.goes.survives clean in
          let moved = move.moved early inside s (texts_of_1 _ s sound before) (tables_of_1 _ s before) in
          let can = subst (λ ks. CanName naming_row_2 (map naming_row_2 ks)) (sym (c.deref.ensures.value ∙ moved.1)) (names_stand s sound taken) in
          (fails_then one put.goes (put.cause s items can)).cause clean inside before;
    })

pub returns-clause-cause : goal.returns-clause-cause
returns-clause-cause g c s sound taken =
    let items = map item_row (items_of s) in
    let move = c.in_ok-kept.ensures in
    let put = c.in_ok-move_incidents.ensures in
    let set = c.set_version.ensures in
    let two : Makes {T = Unit {0}} (state g.S.Store c.args.tx.now.conn.now) (state g.S.Store c.move_incidents.new.tx.conn.now) (λ db. HoldsAs 1 db s) (HoldsParts (tables_2 1 items (map named_row_2 s.incidents) s)) (Ok tt) = record {
      goes = goes_then {U = Unit {0}} _ _ _ _ (Ok tt) move.goes (record { kept = put.goes.kept; inside = put.goes.inside; survives = put.goes.survives });
      made = λ clean inside before.
          let early = clean_before _ _ put.goes.survives clean in
          let moved = move.moved early inside s (texts_of_1 _ s sound before) (tables_of_1 _ s before) in
          subst (λ rows. HoldsParts (tables_2 1 items rows s) (state g.S.Store c.move_incidents.new.tx.conn.now).now) (rows_of_namings _ s.incidents (c.deref.ensures.value ∙ moved.1)) ((put.made s items).made clean (move.goes.inside early inside).0 moved.0);
    } in
    fails_then two (set.made 1 [] refl).goes (set.cause 1 (behind items s) refl)
