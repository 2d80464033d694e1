use Rattle.{std.proofs.Common.{rules, ◌≡◌, Bool, IfOk, sym, subst, ◌∙◌, arith}, hub_core.specs.{Reads.case_for, State.incident_of}}
use Rattle.{hub_state.specs.declared.state.Incident.Incident, hub.proofs.Paging.{ruled_out, none_told, shut_told, told_there}}
use Rattle.hub.specs.inner.PageFilter.{passes_filter}
use Rattle.hub.proofs.pages.is_wanted_by.Goals as goal

pub returns-then-is_ruled_out : goal.returns-then-is_ruled_out
returns-then-is_ruled_out g c = record {
  value = λ clean s has sound.
      none_told (λ (i : Incident). passes_filter c.args.wanted i.document (case_for s i) c.args.standing) (incident_of c.args.incident s)
      (λ i. ruled_out c.args.wanted i.document (case_for s i) c.args.standing (sym c.is_ruled_out.ensures ∙ c.if-is_ruled_out.true));
  kept = search rules;
  cause = search rules;
  counted = search rules;
}

pub returns-then-is_shut : goal.returns-then-is_shut
returns-then-is_shut g c = record {
  value = λ clean s has sound.
      shut_told s c.args.wanted c.args.standing (incident_of c.args.incident s) c.in-Some.case (sym c.is_shut.ensures ∙ c.if-is_shut.true) (sym c.in-Some.is ∙ c.in_ok-case.ensures.value clean s has);
  kept = search rules;
  cause = search rules;
  counted = search rules;
}

pub returns : goal.returns
returns g c = record {
  value = λ clean s has sound.
      let first = c.in_ok-case.ensures in
      let mid : g.Sh.Shelf.doubts c.case_of.new.shelf ≡ 0 = omega (arith, c.is_met.ensures.kept.doubt) in
      let P : Bool → Type 0 = λ due. IfOk c.is_met.result (λ b. b ≡ due) in
      subst P
      (told_there s c.args.wanted c.in_ok-want.want c.args.standing (incident_of c.args.incident s) c.in-Some.case (sym c.is_ruled_out.ensures ∙ c.if-is_ruled_out.false)
      (sym c.in-Some.is ∙ first.value mid s has) (rw c.in_ok-want.ensures.value at c.clone.ensures.cases))
      (c.is_met.ensures.value clean s (first.kept.content mid s has) sound);
  kept = search rules;
  cause = search rules;
  counted = search rules;
}
