use Rattle.{std.proofs.Common.{rules, ◌∙◌, ap, sym, SFits, w64, to_z-of_z}, circle.specs.Reads.person_of, policy.specs.Reach.reach_of}
use Rattle.hub_state.{proofs.Bare.naming_bare, specs.{Reads.{its_gates, its_permissions, naming_of, standing_for}, State.State}}
use Rattle.kept_rows.proofs.Reading.{nameless, unmet_by}
use Rattle.kept_rows.proofs.kept_rows.may_meet_by.Goals as goal

pub returns-in_default-clause-unmet : goal.returns-in_default-clause-unmet
returns-in_default-clause-unmet c = λ s same drawn sound is told.
    nameless c.args.seen.now.number c.args.incident c.args.now c.args.want.now s
    (sym (c.in_default.ensures ∙ (ap (naming_of c.args.incident) same ∙ naming_bare c.args.incident s)))

pub returns-in-Unmet-clause-unmet : goal.returns-in-Unmet-clause-unmet
returns-in-Unmet-clause-unmet c = λ s same drawn sound is told.
    let n = c.args.incident in
    let number = c.args.seen.now.number in
    let k = c.in-Some.naming.now in
    let fits : SFits w64 c.args.now = search rules in
    unmet_by number n c.args.now c.args.want.now s is.person k c.standing-2.result.now
    (sym (ap (λ (r : State). person_of number r.directory) same) ∙ is.is)
    (sym (c.in-Some.ensures ∙ (ap (naming_of n) same ∙ naming_bare n s)))
    (λ i there. c.standing-2.ensures ∙ (c.set_for.ensures.stands is.person i is is.is there
    ∙ (λ j. standing_for (same j) (to_z-of_z fits j) is.person i)))
    (λ d gates permissions. c.judge.ensures.unmet s d drawn sound
    (c.reach-reach.ensures ∙ (λ j. reach_of ((ap (λ (r : State). its_gates k.number r.gates) same ∙ sym gates) j)
    ((ap (λ (r : State). its_permissions k.number r.permissions) same ∙ sym permissions) j)
    ((c.standing.ensures ∙ sym c.standing-2.ensures) j)))
    c.in-Unmet.is)
