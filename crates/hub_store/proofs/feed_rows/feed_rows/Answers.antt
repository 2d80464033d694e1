use Rattle.{std.proofs.Common.{◌≡◌, suc, length, Ok, refl, sym, ap, subst, ◌∙◌, rules}, sqlite.specs.Held.state, redact.specs.Feeding.Progress}
use Rattle.hub_store.{proofs.LookUps.{AtPlaces.next_place, Streaming.{starts, goes_on, ends, not_begun}}, specs.inner.FeedsRows.lines_of}
use Rattle.hub_store.specs.inner.Queries.{IsReadOutside}
use Rattle.hub_store.proofs.feed_rows.feed_rows.Goals as goal

pub returns-in_err-rows-clause-answers : goal.returns-in_err-rows-clause-answers
returns-in_err-rows-clause-answers g c = not_begun _ c.from_residual.result _ c.from_residual.ensures.1 g.S.Store _ c.args.conn.now c.query.follows.lender-at-none c.query.result _ c.in_err-rows.was c.requires.settled c.query.follows.holds-at-none

pub rows-init : goal.rows-init
rows-init g c =
    let made = c.in_ok-rows.ensures in
    let unfed = c.requires.unfed in (
      refl,
      made.mode c.requires.idle,
      starts g.S.Store c.args.incident c.args.conn.now c.in_ok-rows.rows.conn.now c.args.pass.now.fed.lines (ap (λ (p : Progress). p.lines) unfed) (λ clean. rw c.params-to_sql.ensures at (made.begun clean)) (rw c.params-to_sql.ensures at made.survives),
      record { case = refl; standing = refl; unfaulted = ap (λ (p : Progress). p.fault) unfed },
      ap (λ (p : Progress). suc (length p.lines)) (sym unfed),
    )

pub returns-in_default-clause-answers : goal.returns-in_default-clause-answers
returns-in_default-clause-answers g c =
    let moved = c.next.follows.holds-at-none in
    let now = c.next.follows.lender-at-none.conn.now in
    let same : now ≡ c.conn-in_default-1.given.0 = search rules in
    subst (λ h. IsReadOutside (state g.S.Store c.args.conn.now) (state g.S.Store h) (λ s _. c.rows.pass.fed.lines ≡ lines_of c.args.incident s) (Ok (tt {0}))) same
    (ends g.S.Store c.args.incident c.args.conn.now c.rows.rows.conn.now now c.rows.pass.fed.lines c.rows.invariant.2 c.requires.settled moved.survives (λ clean. rw (c.in_ok-row.was, c.in_default.is) at (moved.ok clean)) (λ clean. rw c.in_ok-row.was at (moved.same clean)))

pub rows-preserved : goal.rows-preserved
rows-preserved g c =
    let moved = c.next.follows.holds-at-none in
    let now = c.next.follows.lender-at-none.conn.now in
    let takes = c.in_ok-feed_row.ensures in
    let taken = c.rows.invariant.3 in (
      moved.same_reference ∙ c.rows.invariant.0,
      moved.mode c.rows.invariant.1,
      goes_on g.S.Store c.args.incident c.args.conn.now c.rows.rows.conn.now now c.rows.pass.fed.lines c.feed_row.new.pass.fed.lines c.rows.place c.in-Some.row.now takes.line c.rows.invariant.4 c.rows.invariant.2 moved.survives (λ clean. rw (c.in_ok-row.was, c.in-Some.is) at (moved.ok clean)) (λ clean. rw c.in_ok-row.was at (moved.same clean)) takes.shown takes.lines,
      record { case = takes.takes.case ∙ taken.case; standing = takes.takes.standing ∙ taken.standing; unfaulted = takes.takes.unfaulted },
      next_place c.rows.place c.rows.pass.fed.lines c.feed_row.new.pass.fed.lines takes.line c.rows.invariant.4 takes.lines,
    )
