use Rattle.{std.{proofs.Common.{ℕ, List, ◌∙◌, ap, sym, subst, refl}, specs.Prelude.option_map}, circle.specs.Sound.Differ, hub_state.proofs.Bare.number_bare}
use Rattle.hub_state.{proofs.Bare.differ_bare, specs.{State.{State, incident_named, incident_number}, declared.state.Incident.Incident}}
use Rattle.kept_rows.proofs.Reading.{answered}
use Rattle.kept_rows.proofs.look_ups.KeptRowsLookUps.number_of.Goals as goal

pub returns : goal.returns
returns g c = answered _ _ _ _ c.args.self.now _ _ c.in_ok-may_ask.ensures.asked (λ s has.
    c.in_ok-number_of.ensures (subst (λ (r : State). Differ {K = ℕ × List ℕ} (λ (i : Incident). (i.naming.source, i.naming.ident)) r.incidents) (sym has.1.same)
    (differ_bare {K = ℕ × List ℕ} (λ (i : Incident). (i.naming.source, i.naming.ident)) s.incidents (λ i. refl) has.1.sound.incidents.idents))
    ∙ (ap (λ (r : State). option_map incident_number (incident_named c.args.source c.args.ident.now r)) has.1.same ∙ number_bare c.args.source c.args.ident.now s))
