use Rattle.{std.proofs.Common.{◌≡◌, ◌++◌, ◌∷◌, [], None, Some, Ok, map, rules, sym, subst, ◌∙◌}, sqlite.specs.Held.state, hub_state.specs.Documents.Lines}
use Rattle.hub_store.proofs.{Edits.{Inside.goes_then, Steps.{clean_before, fails_then, fails_passed, goes_passed}}, Versions.Movable.lines_stand}
use Rattle.hub_store.{proofs.Versions.{Moved.next_more, MovedOn.{one_moved, none_left}}, specs.{Items.{items_in, item_row}, inner.Moving.HoldsMoved}}
use Rattle.hub_store.specs.inner.{Moving.{HoldsNext, incidents_up_to}, PutsLines.{PutsLines, HasMore}}
use Rattle.hub_store.proofs.migrate.move_next.Goals as goal

pub returns-in_default-clause-moved : goal.returns-in_default-clause-moved
returns-in_default-clause-moved g c clean inside s has before =
    let read = c.in_ok-incident.ensures in
    let none : c.in_ok-incident.field-0 ≡ None = search rules in
    none_left _ c.args.number _ s has.sound (sym none ∙ read.read clean s _ has before.moved) (record { moved = (read.same s _).made clean inside before.moved; are_kept = before.are_kept })

pub returns-in_err-lines-clause-goes : goal.returns-in_err-lines-clause-goes
returns-in_err-lines-clause-goes g c =
    let one = c.in_ok-incident.ensures.goes in
    record { kept = one.kept; inside = λ _ _. search rules; survives = one.survives }

pub returns-in_err-put_lines-clause-goes : goal.returns-in_err-put_lines-clause-goes
returns-in_err-put_lines-clause-goes g c = goes_passed c.from_residual-in_err-put_lines.ensures.1 (goes_then _ _ _ _ _ c.in_ok-incident.ensures.goes c.in_err-put_lines.ensures.puts.goes)

pub returns-in_err-push-clause-goes : goal.returns-in_err-push-clause-goes
returns-in_err-push-clause-goes g c =
    let whole = goes_then _ _ _ _ _ c.in_ok-incident.ensures.goes c.in_ok-put_lines.ensures.puts.goes in
    record { kept = whole.kept; inside = λ _ _. search rules; survives = whole.survives }

pub returns-clause-goes : goal.returns-clause-goes
returns-clause-goes g c =
    let whole = goes_then _ _ _ _ _ c.in_ok-incident.ensures.goes c.in_ok-put_lines.ensures.puts.goes in
    record { kept = whole.kept; inside = whole.inside; survives = whole.survives }

pub returns-clause-moved : goal.returns-clause-moved
returns-clause-moved g c clean inside s has before =
    let mid = state g.S.Store c.read_next.new.tx.conn.now in
    let new = state g.S.Store c.put_lines.new.tx.conn.now in
    let incident = c.in-Some.incident in
    let read = c.in_ok-incident.ensures in
    let puts = c.in_ok-put_lines.ensures.puts in
    let lines : c.deref.result.now ≡ incident.document = search rules in
    let pushed : c.push.new.self.items ≡ c.args.kept.now.items ++ incident.naming ∷ [] = search rules in
    let early = clean_before mid new puts.goes.survives clean in
    let found = sym c.in-Some.is ∙ read.read early s _ has before.moved in
    let still : HoldsMoved c.args.number c.args.kept.now.items mid.now s = record { moved = (read.same s _).made early inside before.moved; are_kept = before.are_kept } in
    subst (λ kept. HoldsNext c.args.number kept (Some incident.naming.number) new.now s) (sym pushed)
    (one_moved mid new c.args.number c.args.kept.now.items s incident has found still (subst (λ ls. PutsLines {T = Unit {0}} incident.naming.number 1 ls mid new (Ok tt)) lines puts) clean (read.goes.inside early inside).0)

pub returns-in_err-incident-clause-cause : goal.returns-in_err-incident-clause-cause
returns-in_err-incident-clause-cause g c s has taken = fails_passed {T = Unit {0}} {P = λ db. HoldsMoved c.args.number c.args.kept.now.items db s} c.from_residual.ensures.1 (record { cause = λ clean inside before. (c.in_err-incident.ensures.cause s _ has taken).cause clean inside before.moved })

pub returns-in_err-put_lines-clause-cause : goal.returns-in_err-put_lines-clause-cause
returns-in_err-put_lines-clause-cause g c s has taken =
    let mid = state g.S.Store c.read_next.new.tx.conn.now in
    let new = state g.S.Store c.put_lines.new.tx.conn.now in
    let incident = c.in-Some.incident in
    let read = c.in_ok-incident.ensures in
    let puts = c.in_err-put_lines.ensures.puts in
    let lines : c.deref.result.now ≡ incident.document = search rules in
    fails_passed {T = Unit {0}} {P = λ db. HoldsMoved c.args.number c.args.kept.now.items db s} c.from_residual-in_err-put_lines.ensures.1 (record {
      cause = λ clean inside before.
          let early = clean_before mid new puts.goes.survives clean in
          let found = sym c.in-Some.is ∙ read.read early s _ has before.moved in
          let items = map item_row (items_in (incidents_up_to c.args.number s)) in
          let more = map item_row (items_in (incidents_up_to incident.naming.number s)) in
          let same : HasMore incident.naming.number 1 c.deref.result.now items more = subst (λ (ls : Lines). HasMore incident.naming.number 1 ls items more) (sym lines) (next_more s c.args.number incident has.sound (sym found)) in
          let cause = puts.cause s items more same (lines_stand s incident.naming.number has.sound taken) in
          (fails_then (read.same s _) puts.goes cause).cause clean inside before.moved;
    })
