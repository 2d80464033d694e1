use Rattle.{std.proofs.Common.{◌≡◌, ◌++◌, ap, ◌∙◌}, hub_state.specs.{Bare.bare, Edits.with_edits}, hub_store.proofs.LookUps.Adding.adds_then}
use Rattle.hub_store.{proofs.LookUps.{Reading.read_turned, WholeRows.whole_rows}, specs.inner.Adds.{Adds, numbered_edits, pair_edits, incident_edits}}
use Rattle.hub_store.specs.inner.Adds.{all_edits}
use Rattle.hub_store.proofs.find_rows.read_rows.Goals as goal

pub returns-clause-read : goal.returns-clause-read
returns-clause-read g c =
    let more = adds_then _ _ _ pair_edits incident_edits c.in_ok-rows.rows c.in_ok-rows-2.rows c.add_incidents.result c.in_ok-rows-2.ensures.read c.add_incidents.ensures.read in
    let all = adds_then _ _ _ numbered_edits (λ s. pair_edits s ++ incident_edits s) c.new.result c.in_ok-rows.rows c.add_incidents.result c.in_ok-rows.ensures.read more in
    read_turned _ _ (Adds all_edits c.new.result) (λ s rows. rows ≡ bare s) c.add_incidents.result all (λ s rows sound is. is ∙ (ap (with_edits (all_edits s)) c.new.ensures ∙ whole_rows s sound))
