use Rattle.{std.proofs.Common.{◌≡◌, pos, ◌∷◌, OnOk, IfErr, IsTrue, ap, subst, ◌∙◌, rules}, sqlite_value.specs.{Order.Row, declared.value.Value.TheVariants.Int}}
use Rattle.{sqlite.specs.{Held.state, State.HasCleanDisk, Values.bound}, hub_store.proofs.{Edits.Steps.{made_by, fails_by}, Versions.TwentyLines.put_twenty}}
use Rattle.hub_store.{proofs.Versions.TwentyLines.{puts_twenty, moves_twenty, twenty_fail}, specs.{Items.placed_lines, Keeps.{HasRun, HasFailed}}}
use Rattle.hub_store.specs.{Means.HoldsBetween, inner.Beside.HoldsBeside}
use Rattle.hub_store.proofs.put_lines.put_twenty.Goals as goal

pub returns-clause-puts : goal.returns-clause-puts
returns-clause-puts g c =
    let row = Int (pos c.args.incident) ∷ placed_lines c.args.place c.args.lines.now in
    let slice : c.as_slice.result.now ≡ c.in_ok-params.params.items = search rules in
    let given : bound c.as_slice.result.now ≡ row = ap bound slice ∙ c.in_ok-params.ensures in
    let old = c.args.tx.now.conn.now in
    let new = c.run.new.tx.conn.now in
    let ran : HasCleanDisk (state g.S.Store new) → IsTrue (state g.S.Store old).in_transaction → OnOk c.run.result (HasRun g.S.Store put_twenty row old new) =
    λ clean inside. subst (λ (params : Row). OnOk c.run.result (HasRun g.S.Store put_twenty params old new)) given (c.run.ensures.ran clean inside) in
    let failed : HasCleanDisk (state g.S.Store new) → IsTrue (state g.S.Store old).in_transaction → IfErr c.run.result (HasFailed g.S.Store put_twenty row old new) =
    λ clean inside. subst (λ (params : Row). IfErr c.run.result (HasFailed g.S.Store put_twenty params old new)) given (c.run.ensures.failed clean inside) in
    record {
      goes = c.run.ensures.goes;
      edited = λ s incidents items more same.
          made_by g.S.Store put_twenty row _ _ (λ db. HoldsBetween items incidents db s) (λ db. HoldsBetween more incidents db s) _ c.run.ensures.goes ran (λ mid count h held. puts_twenty c.args.incident c.args.place c.args.lines.now c.requires.many mid _ count h s items more same incidents held);
      cause = λ s items more same can.
          fails_by g.S.Store put_twenty row _ _ (HoldsBeside items s) _ failed (λ mid e h held other. twenty_fail c.args.incident c.args.place c.args.lines.now c.requires.many s items more same can mid _ e h held other);
      moved = λ s items more same.
          made_by g.S.Store put_twenty row _ _ (HoldsBeside items s) (HoldsBeside more s) _ c.run.ensures.goes ran (λ mid count h held. moves_twenty c.args.incident c.args.place c.args.lines.now c.requires.many mid _ count h s items more same held);
    }
