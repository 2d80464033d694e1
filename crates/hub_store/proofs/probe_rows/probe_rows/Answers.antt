use Rattle.{std.proofs.{Common.{◌≡◌, suc, length, Ok, refl, sym, ap, subst, ◌∙◌, rules}, lemmas.Bool.true≢false}, sqlite.specs.Held.state}
use Rattle.{redact.specs.Feeding.Progress, hub_store.proofs.LookUps.{AtPlaces.next_place, Probing.{probed_on, all_came, first_came}, Streaming.starts}}
use Rattle.hub_store.{proofs.LookUps.Streaming.{goes_on, ends, stops, not_begun}, specs.inner.{ProbesRows.AreFirst, Queries.IsReadOutside}}
use Rattle.hub_store.proofs.probe_rows.probe_rows.Goals as goal

pub returns-in_err-rows-clause-answers : goal.returns-in_err-rows-clause-answers
returns-in_err-rows-clause-answers g c = not_begun _ c.from_residual.result _ c.from_residual.ensures.1 g.S.Store _ c.args.conn.now c.query.follows.lender-at-none c.query.result _ c.in_err-rows.was c.requires.settled c.query.follows.holds-at-none

pub rows-init : goal.rows-init
rows-init g c =
    let made = c.in_ok-rows.ensures in
    let unfed = c.requires.unprobed.fed in (
      refl,
      made.mode c.requires.idle,
      starts g.S.Store c.args.incident c.args.conn.now c.in_ok-rows.rows.conn.now c.args.probe.now.fed.lines (ap (λ (p : Progress). p.lines) unfed) (λ clean. rw c.params-to_sql.ensures at (made.begun clean)) (rw c.params-to_sql.ensures at made.survives),
      record { case = refl; standing = refl; want = refl; unfaulted = ap (λ (p : Progress). p.fault) unfed; sure = λ met. absurd (true≢false (sym met ∙ c.requires.unprobed.met)) },
      ap (λ (p : Progress). suc (length p.lines)) (sym unfed),
    )

pub returns-in_default-clause-answers : goal.returns-in_default-clause-answers
returns-in_default-clause-answers g c =
    let moved = c.next.follows.holds-at-none in
    let now = c.next.follows.lender-at-none.conn.now in
    let same : now ≡ c.conn-in_default-1.given.0 = search rules in
    subst (λ h. IsReadOutside (state g.S.Store c.args.conn.now) (state g.S.Store h) (λ s _. AreFirst c.args.incident s c.rows.probe) (Ok (tt {0}))) same
    (all_came c.args.incident (state g.S.Store c.args.conn.now) (state g.S.Store now) c.rows.probe
    (ends g.S.Store c.args.incident c.args.conn.now c.rows.rows.conn.now now c.rows.probe.fed.lines c.rows.invariant.2 c.requires.settled moved.survives (λ clean. rw (c.in_ok-row.was, c.in_default.is) at (moved.ok clean)) (λ clean. rw c.in_ok-row.was at (moved.same clean))))

pub rows-preserved : goal.rows-preserved
rows-preserved g c =
    let moved = c.next.follows.holds-at-none in
    let now = c.next.follows.lender-at-none.conn.now in
    let probes = c.in_ok-probe_row.ensures in (
      moved.same_reference ∙ c.rows.invariant.0,
      moved.mode c.rows.invariant.1,
      goes_on g.S.Store c.args.incident c.args.conn.now c.rows.rows.conn.now now c.rows.probe.fed.lines c.probe_row.new.probe.fed.lines c.rows.place c.in-Some.row.now probes.line c.rows.invariant.4 c.rows.invariant.2 moved.survives (λ clean. rw (c.in_ok-row.was, c.in-Some.is) at (moved.ok clean)) (λ clean. rw c.in_ok-row.was at (moved.same clean)) probes.shown probes.lines,
      probed_on _ _ _ c.rows.invariant.3 probes.probes,
      next_place c.rows.place c.rows.probe.fed.lines c.probe_row.new.probe.fed.lines probes.line c.rows.invariant.4 probes.lines,
    )

pub returns-then-branch-clause-answers : goal.returns-then-branch-clause-answers
returns-then-branch-clause-answers g c =
    let moved = c.next.follows.holds-at-none in
    let now = c.next.follows.lender-at-none.conn.now in
    let probes = c.in_ok-probe_row.ensures in
    let same : now ≡ c.conn-then-branch-1.given.0 = search rules in
    let fed = goes_on g.S.Store c.args.incident c.args.conn.now c.rows.rows.conn.now now c.rows.probe.fed.lines c.probe_row.new.probe.fed.lines c.rows.place c.in-Some.row.now probes.line c.rows.invariant.4 c.rows.invariant.2 moved.survives (λ clean. rw (c.in_ok-row.was, c.in-Some.is) at (moved.ok clean)) (λ clean. rw c.in_ok-row.was at (moved.same clean)) probes.shown probes.lines in
    subst (λ h. IsReadOutside (state g.S.Store c.args.conn.now) (state g.S.Store h) (λ s _. AreFirst c.args.incident s c.probe_row.new.probe) (Ok (tt {0}))) same
    (first_came c.args.incident (state g.S.Store c.args.conn.now) (state g.S.Store now) c.probe_row.new.probe (sym probes.answers ∙ c.if-branch.true)
    (stops g.S.Store c.args.incident c.args.conn.now now c.probe_row.new.probe.fed.lines fed c.requires.settled))
