use Rattle.{std.{proofs.Common.{◌∙◌, ◌∷◌, [], sym, ap}, specs.{Option.option_map_or, Prelude.min}}, hub_state.proofs.Bounded.{gates_told, gates_told_with}}
use Rattle.hub_state.specs.{Aftermath.put_gate, Edits.with_edits, State.class_gates}
use Rattle.hub_state.specs.declared.edit.Edit.TheVariants as edit
use Rattle.hub_state.proofs.counts_then.gates_with.Goals as goal

pub returns-in-None : goal.returns-in-None
returns-in-None c = λ s sound is.
    let r = c.args.asked.now in
    c.capped.ensures
    ∙ (ap (λ m. min m 4294967295) c.count_class_gates.ensures
    ∙ (gates_told s r.incident _ sound is
    ∙ ap (λ o. class_gates r.incident (with_edits (option_map_or (λ p. edit.TakeGate (record { incident = r.incident; path = p }) ∷ put_gate r.incident r.level r.group p) o []) s).gates) (sym c.in-None.is ∙ c.requires)))

pub returns-in-Some : goal.returns-in-Some
returns-in-Some c = λ s sound is.
    let r = c.args.asked.now in
    c.capped-in-Some.ensures
    ∙ (ap (λ m. min m 4294967295) c.count_class_gates_with.ensures
    ∙ (gates_told_with s r.incident c.in-Some.path r.level r.group _ sound is
    ∙ ap (λ o. class_gates r.incident (with_edits (option_map_or (λ p. edit.TakeGate (record { incident = r.incident; path = p }) ∷ put_gate r.incident r.level r.group p) o []) s).gates) (sym c.in-Some.is ∙ c.requires)))
