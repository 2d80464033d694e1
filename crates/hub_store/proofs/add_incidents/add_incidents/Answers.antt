use Rattle.{std.proofs.Common.◌++◌, hub_store.{proofs.LookUps.Adding.{adds_then, adds_fail}, specs.inner.Adds.{naming_edits, gate_edits, recipient_edits}}}
use Rattle.hub_store.specs.inner.Adds.{permission_edits, incident_edits}
use Rattle.hub_store.proofs.add_incidents.add_incidents.Goals as goal

pub returns-in_err-rows-2-clause-read : goal.returns-in_err-rows-2-clause-read
returns-in_err-rows-2-clause-read g c =
    let from_namings = adds_then _ _ _ naming_edits gate_edits c.args.rows c.in_ok-rows.rows _ c.in_ok-rows.ensures.read c.in_err-rows-2.ensures.read in
    adds_fail _ _ (λ s. naming_edits s ++ gate_edits s) incident_edits c.args.rows c.from_residual-in_err-rows-2.result _ from_namings c.from_residual-in_err-rows-2.ensures.1

pub returns-in_err-rows-3-clause-read : goal.returns-in_err-rows-3-clause-read
returns-in_err-rows-3-clause-read g c =
    let from_gates = adds_then _ _ _ gate_edits recipient_edits c.in_ok-rows.rows c.in_ok-rows-2.rows _ c.in_ok-rows-2.ensures.read c.in_err-rows-3.ensures.read in
    let from_namings = adds_then _ _ _ naming_edits (λ s. gate_edits s ++ recipient_edits s) c.args.rows c.in_ok-rows.rows _ c.in_ok-rows.ensures.read from_gates in
    adds_fail _ _ (λ s. naming_edits s ++ (gate_edits s ++ recipient_edits s)) incident_edits c.args.rows c.from_residual-in_err-rows-3.result _ from_namings c.from_residual-in_err-rows-3.ensures.1

pub returns-clause-read : goal.returns-clause-read
returns-clause-read g c =
    let from_recipients = adds_then _ _ _ recipient_edits permission_edits c.in_ok-rows-2.rows c.in_ok-rows-3.rows c.add_permissions.result c.in_ok-rows-3.ensures.read c.add_permissions.ensures.read in
    let from_gates = adds_then _ _ _ gate_edits (λ s. recipient_edits s ++ permission_edits s) c.in_ok-rows.rows c.in_ok-rows-2.rows c.add_permissions.result c.in_ok-rows-2.ensures.read from_recipients in
    adds_then _ _ _ naming_edits (λ s. gate_edits s ++ (recipient_edits s ++ permission_edits s)) c.args.rows c.in_ok-rows.rows c.add_permissions.result c.in_ok-rows.ensures.read from_gates
