use Rattle.std.{proofs.Common.{◌≡◌, List, ◌∙◌, length, ◌+◌, ◌-◌, ◌^◌, true, sym, ap, subst}, specs.Prelude.{is_some, min}}
use Rattle.hub_state.proofs.{Bounded.{recipients_told_left, recipients_told_with}, Then.{replace_edits, counts_are, exchanged_permissions}}
use Rattle.hub_state.{proofs.Then.{exchanged_recipients, none_left}, specs.{Documents.documents_in, Edits.with_edits, Requests.{incident_asked, known_of}}}
use Rattle.hub_state.specs.{Requests.looked_up, State.{State, permissions_of, recipients_of}, declared.{counts_then.Counts.Counts, edit.Edit.Edit}}
use Rattle.hub_state.specs.{declared.{request.Request.Request, sharing.Sharing.Sharing}, inner.Shared.{counts_in, sharing_asked}}
use Rattle.hub_state.specs.declared.request.Request.TheVariants as ask
use Rattle.hub_state.proofs.counts_then.counts_there.Goals as goal

pub returns-in-Replace : goal.returns-in-Replace
returns-in-Replace c = λ s sound is there actor.
    let r = c.in-Replace.asked in
    let counts : Counts = record { gates = c.capped.result; recipients = c.standing_counts-counts.result.recipients; permissions = 0 } in
    let P : Request → Type 0 = λ r. c.args.sharing.now ≡ sharing_asked (incident_asked r) s → is_some (looked_up s (incident_asked r)) ≡ true → counts ≡ counts_in s actor r in
    let known = known_of s (ask.Replace r) in
    subst P (sym c.in-Replace.is)
    (λ same here.
    let e = c.standing_counts-counts.ensures s r.incident sound same in
    let edits = ap (λ (es : List Edit). with_edits es s) (replace_edits s actor r) in
    counts_are counts _ _ _ _ here (c.capped.ensures ∙ ap (λ l. min (length l) 4294967295) c.as_slice.ensures)
    (ap (λ (k : Counts). k.recipients) e ∙ ap (recipients_of r.incident) (sym (ap (λ (t : State). t.recipients) edits ∙ exchanged_recipients known (documents_in r.document) r.incident r.distribution s)))
    (sym (ap (permissions_of r.incident) (ap (λ (t : State). t.permissions) edits ∙ exchanged_permissions known (documents_in r.document) r.incident r.distribution s) ∙ none_left r.incident s.permissions)))
    is there

pub returns-in-Address : goal.returns-in-Address
returns-in-Address c = λ s sound is there actor.
    let r = c.in-Address.asked in
    let counts : Counts = record { gates = c.standing_counts-counts.result.gates; recipients = c.saturating_add.result; permissions = c.standing_counts-counts.result.permissions } in
    let P : Request → Type 0 = λ r. c.args.sharing.now ≡ sharing_asked (incident_asked r) s → is_some (looked_up s (incident_asked r)) ≡ true → counts ≡ counts_in s actor r in
    let capped = c.capped-in-Address.ensures ∙ ap (λ m. min m 4294967295) c.count_targets_beside.ensures in
    subst P (sym c.in-Address.is)
    (λ same here.
    let e = c.standing_counts-counts.ensures s r.incident sound same in
    counts_are counts _ _ _ _ here (ap (λ (k : Counts). k.gates) e)
    (recipients_told_with s r.incident r.target _ _ sound (c.as_slice-targets.ensures ∙ ap (λ (x : Sharing). x.recipients) same) (c.saturating_add.ensures ∙ ap (λ m. min (m + 1) (2 ^ 32 - 1)) capped))
    (ap (λ (k : Counts). k.permissions) e))
    is there

pub returns-in-Unaddress : goal.returns-in-Unaddress
returns-in-Unaddress c = λ s sound is there actor.
    let r = c.in-Unaddress.asked in
    let counts : Counts = record { gates = c.standing_counts-counts.result.gates; recipients = c.capped-in-Unaddress.result; permissions = c.standing_counts-counts.result.permissions } in
    let P : Request → Type 0 = λ r. c.args.sharing.now ≡ sharing_asked (incident_asked r) s → is_some (looked_up s (incident_asked r)) ≡ true → counts ≡ counts_in s actor r in
    let capped = c.capped-in-Unaddress.ensures ∙ ap (λ m. min m 4294967295) c.count_targets_beside-in-Unaddress.ensures in
    subst P (sym c.in-Unaddress.is)
    (λ same here.
    let e = c.standing_counts-counts.ensures s r.incident sound same in
    counts_are counts _ _ _ _ here (ap (λ (k : Counts). k.gates) e)
    (capped ∙ recipients_told_left s r.incident r.target _ sound (c.as_slice-targets.ensures ∙ ap (λ (x : Sharing). x.recipients) same))
    (ap (λ (k : Counts). k.permissions) e))
    is there
