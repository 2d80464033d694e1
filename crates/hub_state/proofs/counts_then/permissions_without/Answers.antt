use Rattle.{std.{proofs.Common.{◌∙◌, ◌∷◌, [], sym, ap}, specs.{Option.option_map_or, Prelude.min}}, hub_state.proofs.Bounded.permissions_told}
use Rattle.hub_state.{proofs.Bounded.permissions_told_left, specs.{Edits.with_edits, State.permissions_of}}
use Rattle.hub_state.specs.declared.edit.Edit.TheVariants as edit
use Rattle.hub_state.proofs.counts_then.permissions_without.Goals as goal

pub returns-in-None : goal.returns-in-None
returns-in-None c = λ s sound is.
    let r = c.args.asked.now in
    c.capped.ensures
    ∙ (permissions_told s r.incident _ sound is
    ∙ ap (λ o. permissions_of r.incident (with_edits (option_map_or (λ p. edit.TakePermission (record { incident = r.incident; path = p; grantee = r.grantee }) ∷ []) o []) s).permissions) (sym c.in-None.is ∙ c.requires))

pub returns-in-Some : goal.returns-in-Some
returns-in-Some c = λ s sound is.
    let r = c.args.asked.now in
    c.capped-in-Some.ensures
    ∙ (ap (λ m. min m 4294967295) c.count_permissions_beside-beside.ensures
    ∙ (permissions_told_left s (record { incident = r.incident; path = c.in-Some.path; grantee = r.grantee }) _ sound is
    ∙ ap (λ o. permissions_of r.incident (with_edits (option_map_or (λ p. edit.TakePermission (record { incident = r.incident; path = p; grantee = r.grantee }) ∷ []) o []) s).permissions) (sym c.in-Some.is ∙ c.requires)))
