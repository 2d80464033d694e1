use Rattle.{std.{proofs.Common.{◌+◌, ◌-◌, ◌^◌, ◌∙◌, [], sym, ap}, specs.{Option.option_map_or, Prelude.min}}, hub_state.proofs.Bounded.permissions_told}
use Rattle.hub_state.{proofs.Bounded.permissions_told_with, specs.{Aftermath.put_permission, Edits.with_edits, State.permissions_of}}
use Rattle.hub_state.proofs.counts_then.permissions_with.Goals as goal

pub returns-in-None : goal.returns-in-None
returns-in-None c = λ s sound is.
    let r = c.args.asked.now in
    c.capped.ensures
    ∙ (permissions_told s r.incident _ sound is
    ∙ ap (λ o. permissions_of r.incident (with_edits (option_map_or (λ p. put_permission (record { incident = r.incident; path = p; grantee = r.grantee }) r.until) o []) s).permissions) (sym c.in-None.is ∙ c.requires))

pub returns-in-Some : goal.returns-in-Some
returns-in-Some c = λ s sound is.
    let r = c.args.asked.now in
    let capped = c.capped-in-Some.ensures ∙ ap (λ m. min m 4294967295) c.count_permissions_beside-beside.ensures in
    permissions_told_with s (record { incident = r.incident; path = c.in-Some.path; grantee = r.grantee }) r.until _ _ sound is (c.saturating_add.ensures ∙ ap (λ m. min (m + 1) (2 ^ 32 - 1)) capped)
    ∙ ap (λ o. permissions_of r.incident (with_edits (option_map_or (λ p. put_permission (record { incident = r.incident; path = p; grantee = r.grantee }) r.until) o []) s).permissions) (sym c.in-Some.is ∙ c.requires)
