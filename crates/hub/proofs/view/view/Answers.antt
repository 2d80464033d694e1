use Rattle.{std.{proofs.Common.{rules, ◌≡◌, Option, Some, sym, ap, subst, ◌∙◌, arith}, specs.Prelude.option_map}, redact.specs.Excerpts.told_by}
use Rattle.{redact.specs.declared.excerpts.Excerpt.Excerpt, hub_core.specs.{Reads.served_of_incident, State.incident_of}, hub_state.proofs.Marked.marked_found}
use Rattle.hub.proofs.Seeing.{nothing_seen, shut_unseen, is_seen}
use Rattle.hub.proofs.view.view.Goals as goal

pub returns-then-is_shut : goal.returns-then-is_shut
returns-then-is_shut g c = record {
  value = λ clean s has sound there.
      let first = c.in_ok-standing.ensures in
      let next = c.in_ok-case.ensures in
      let before : g.Sh.Shelf.doubts c.standing.new.shelf ≡ 0 = omega (arith, next.kept.doubt) in
      shut_unseen s c.args.asker.now c.args.asker.person.now (incident_of c.args.incident s) c.in-Some.standing c.in-Some-2.case (sym c.is_shut.ensures ∙ c.if-is_shut.true)
      (sym c.in-Some.is ∙ first.value before s has there) (sym c.in-Some-2.is ∙ next.value clean s (first.kept.content before s has));
  kept = search rules;
  cause = search rules;
  counted = search rules;
}

pub returns-in_default-3 : goal.returns-in_default-3
returns-in_default-3 g c = record {
  value = λ clean s has sound there.
      let first = c.in_ok-standing.ensures in
      let next = c.in_ok-case.ensures in
      let last = c.in_ok-excerpt.ensures in
      let mid : g.Sh.Shelf.doubts c.case_of.new.shelf ≡ 0 = omega (arith, last.kept.doubt) in
      let before : g.Sh.Shelf.doubts c.standing.new.shelf ≡ 0 = omega (arith, mid, next.kept.doubt) in
      let here = first.kept.content before s has in
      let found = incident_of c.args.incident s in
      let P : Option Excerpt → Type 0 = λ r. option_map told_by r ≡ served_of_incident c.args.incident c.in-Some-2.case c.in-Some.standing s in
      nothing_seen s c.args.asker.now c.args.asker.person.now found c.in-Some.standing c.in-Some-2.case (marked_found s c.args.incident sound)
      (sym c.in-Some.is ∙ first.value before s has there) (sym c.in-Some-2.is ∙ next.value mid s here)
      (subst P c.in_default-3.is (last.value clean s (next.kept.content mid s here)));
  kept = search rules;
  cause = search rules;
  counted = search rules;
}

pub returns : goal.returns
returns g c = record {
  value = λ clean s has sound there.
      let first = c.in_ok-standing.ensures in
      let next = c.in_ok-case.ensures in
      let third = c.in_ok-excerpt.ensures in
      let last = c.in_ok-entry.ensures in
      let late : g.Sh.Shelf.doubts c.excerpt_of.new.shelf ≡ 0 = omega (arith, last.kept.doubt) in
      let mid : g.Sh.Shelf.doubts c.case_of.new.shelf ≡ 0 = omega (arith, late, third.kept.doubt) in
      let before : g.Sh.Shelf.doubts c.standing.new.shelf ≡ 0 = omega (arith, mid, next.kept.doubt) in
      let here = first.kept.content before s has in
      let there-too = next.kept.content mid s here in
      let found = incident_of c.args.incident s in
      let P : Option Excerpt → Type 0 = λ r. option_map told_by r ≡ served_of_incident c.args.incident c.in-Some-2.case c.in-Some.standing s in
      ap Some c.view_by.ensures
      ∙ is_seen s c.args.asker.now c.args.asker.person.now found c.in-Some.standing c.in-Some-2.case c.in-Some-4.entry (told_by c.in-Some-3.excerpt) (marked_found s c.args.incident sound)
      (sym c.in-Some.is ∙ first.value before s has there) (sym c.in-Some-2.is ∙ next.value mid s here)
      (sym c.in-Some-4.is ∙ last.value clean s (third.kept.content late s there-too) sound)
      (subst P c.in-Some-3.is (third.value late s there-too));
  kept = search rules;
  cause = search rules;
  counted = search rules;
}
