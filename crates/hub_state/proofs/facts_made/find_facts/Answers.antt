use Rattle.std.{proofs.Common.{rules, ◌≡◌, ◌∙◌, ℕ, Option, Some, None, is_some, refl, ap, arith}, specs.Prelude.option_map}
use Rattle.{circle.specs.declared.{command.CircleFacts.CircleFacts, directory.Person.Person}, hub_state.specs.{Documents.Lines, Facts.circle_facts_of}}
use Rattle.hub_state.specs.{Facts.{facts_of, posted_of}, Requests.{incident_asked, incident_facts, known_of, looked_up}, State.State}
use Rattle.hub_state.specs.declared.{counts_then.Counts.Counts, facts.IncidentFacts.IncidentFacts, request.Request.Request, state.Incident.Incident}
use Rattle.hub_state.specs.inner.Shared.{counts_in}
use Rattle.hub_state.proofs.facts_made.find_facts.Goals as goal

is_there : (o : Option Incident) → is_some (option_map incident_facts o) ≡ is_some o
is_there None = refl
is_there (Some i) = refl

told : (s : State) (a : Person) (r : Request) (circle : CircleFacts) (incident : Option IncidentFacts) (document : Option Lines) (posted : Option ℕ) (counts : Counts) →
    circle ≡ circle_facts_of s a r → incident ≡ known_of s r → document ≡ option_map (λ (i : Incident). i.document) (looked_up s (incident_asked r)) → posted ≡ posted_of s a r → counts ≡ counts_in s a r →
    record { circle = circle; incident = incident; document = document; posted = posted; gates = counts.gates; recipients = counts.recipients; permissions = counts.permissions } ≡ facts_of s a r
told s a r circle incident document posted counts e f h i j = cc

pub returns : goal.returns
returns g c = record {
  value = λ clean s has shared.
      let shelf = g.L.LookUps in
      let third : shelf.doubts c.document_asked.new.shelf ≡ 0 = omega (arith, clean, c.in_ok-posted.ensures.kept.doubt) in
      let second : shelf.doubts c.known_asked.new.shelf ≡ 0 = omega (arith, third, c.in_ok-document.ensures.kept.doubt) in
      let first : shelf.doubts c.find_circle_facts.new.shelf ≡ 0 = omega (arith, second, c.in_ok-incident.ensures.kept.doubt) in
      let has-1 = c.in_ok-circle.ensures.kept.content first s has in
      let has-2 = c.in_ok-incident.ensures.kept.content second s has-1 in
      let has-3 = c.in_ok-document.ensures.kept.content third s has-2 in
      let asked = c.incident_asked-asked.ensures in
      let incident = c.in_ok-incident.ensures.value second s has-1 ∙ ap (λ n. option_map incident_facts (looked_up s n)) asked in
      let there = c.is_some.ensures ∙ (ap is_some incident ∙ is_there _) in
      told s c.args.actor.now c.args.request.now _ _ _ _ _ (c.in_ok-circle.ensures.value first s has shared) incident
      (c.in_ok-document.ensures.value third s has-2 ∙ ap (λ n. option_map (λ (i : Incident). i.document) (looked_up s n)) asked)
      (c.in_ok-posted.ensures.value clean s has-3)
      (c.counts_then-counts.ensures s (g.met.L.LookUps.sound c.args.shelf.now s has) shared there c.args.actor.now);
  kept = search rules;
  cause = search rules;
  counted = search rules;
}
