use Rattle.{std.{proofs.Common.{◌∙◌, ap}, specs.Prelude.min}, hub_state.proofs.Bounded.{gates_told, recipients_told, permissions_told}}
use Rattle.hub_state.specs.declared.sharing.Sharing.{Sharing}
use Rattle.hub_state.proofs.counts_then.standing_counts.Goals as goal

pub returns : goal.returns
returns c = λ s n sound is.
    let gates = c.capped.ensures ∙ (ap (λ m. min m 4294967295) c.count_class_gates.ensures ∙ gates_told s n _ sound (c.as_slice.ensures ∙ ap (λ (x : Sharing). x.gates) is)) in
    let recipients = c.capped-2.ensures ∙ recipients_told s n _ sound (c.as_slice-2.ensures ∙ ap (λ (x : Sharing). x.recipients) is) in
    let permissions = c.capped-3.ensures ∙ permissions_told s n _ sound (c.as_slice-3.ensures ∙ ap (λ (x : Sharing). x.permissions) is) in
    cc
