use Rattle.{std.proofs.Common.{◌≡◌, sym, ◌∙◌, ◌++◌, ap, refl}, redact.{proofs.Filling.object-end, specs.{Withheld.{at_place, with_rule}, inner.Tokens.path_of}}}
use Rattle.redact.proofs.pass.leave_hidden.Goals as goal

pub returns-in_ok-tell-clause-left : goal.returns-in_ok-tell-clause-left
returns-in_ok-tell-clause-left c = rw (object-end c.args.kept c.requires ∙ sym c.is_empty.ensures ∙ c.if-is_empty.false) refl

pub returns-in_ok-tell-clause-leaves : goal.returns-in_ok-tell-clause-leaves
returns-in_ok-tell-clause-leaves c =
    let st = c.args.state.now in
    let told = c.in_ok-tell.ensures in
    let rules : c.as_slice.result.now ≡ with_rule st.rules_met.items c.args.rule = cc (c.as_slice.ensures.value, c.in_ok-add-2.ensures, c.replace-gone.ensures.value) in
    rw (object-end c.args.kept c.requires ∙ sym c.is_empty.ensures ∙ c.if-is_empty.false) (record {
      withheld = told.withheld ∙ ap (λ gs. st.withheld.items ++ at_place (path_of st.place.items) gs) rules;
      gone = cc (told.gone, c.replace-gone.ensures.after);
      path = told.path;
      place = told.place;
      classes = told.classes;
    })
