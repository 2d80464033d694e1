use Rattle.{std.{proofs.Common.{rules, ◌≡◌, Option, Some, IfOk, sym, ap, subst, ◌∙◌, arith}, specs.Prelude.option_map}, iodef_tree.specs.Text.Bytes}
use Rattle.{circle.specs.Reads.person_of, hub_core.specs.State.incident_of, hub_state.{proofs.Marked.marked, specs.declared.facts.Facts.Facts}}
use Rattle.{hub_state.specs.declared.state.Incident.Incident, hub.{proofs.Explained.text_there, specs.inner.Explaining.text_of}}
use Rattle.hub.proofs.explanations.find_text.Goals as goal

pub returns : goal.returns
returns g c = record {
  value = λ clean s has sound told.
      let first = c.in_ok-standing.ensures in
      let next = c.in_ok-case.ensures in
      let before : g.Sh.Shelf.doubts c.standing_of_person.new.shelf ≡ 0 = omega (arith, next.kept.doubt) in
      let person = person_of c.args.asked.now.person s.directory in
      let incident = incident_of c.args.asked.now.incident s in
      let stands = sym c.in-Some.is ∙ first.value before s has in
      let case = sym c.in-Some-2.is ∙ next.value clean s (first.kept.content before s has) in
      let document : Some c.in-Some-document.document ≡ option_map (λ (i : Incident). i.document) incident = sym c.in-Some-document.is ∙ ap (λ (f : Facts). f.document) told in
      let P : Option Bytes → Type 0 = λ due. IfOk c.text_of.result (λ text. text ≡ due) in
      subst P
      (text_there s c.args.asker.now person incident c.in-Some-3.path c.in-Some.standing c.in-Some-2.case c.in-Some-document.document stands case document
      ∙ ap (λ path. text_of s c.args.asker.now person incident path) (sym c.in-Some-3.is ∙ c.in_ok-path.ensures.value))
      (c.text_of.ensures.told (marked s c.args.asked.now.incident c.in-Some-document.document sound document));
  kept = search rules;
  cause = search rules;
  counted = search rules;
}
