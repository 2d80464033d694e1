use Rattle.{std.{proofs.Common.{◌∙◌, ℕ, List, ap, sym, subst}, specs.Prelude.option_map}, circle.specs.Sound.Differ, hub_state.specs.State.State}
use Rattle.hub_state.specs.{State.{incident_named, incident_number}, declared.state.Incident.Incident}
use Rattle.hub_state.proofs.state_rows.StateRows.number_under.Goals as goal

pub returns : goal.returns
returns c = λ apart.
    c.number_of.ensures c.self.inside.directory (subst (λ (s : State). Differ {K = ℕ × List ℕ} (λ (i : Incident). (i.naming.source, i.naming.ident)) s.incidents) (sym c.self.view_is) apart)
    ∙ ap (λ (s : State). option_map incident_number (incident_named c.args.name.now.source c.args.name.now.ident s)) c.self.view_is
