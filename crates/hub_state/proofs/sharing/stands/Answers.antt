use Rattle.{std.proofs.Common.{◌≡◌, ◌∙◌, sym, ap, subst}, hub_state.proofs.Counted.{gate_stands, granted_stands, permission_stands, target_among}}
use Rattle.hub_state.specs.{Facts.stands_in, Requests.incident_asked, declared.{request.Request.Request, sharing.Sharing.Sharing}}
use Rattle.hub_state.specs.inner.{Questions.is_target_among, Shared.sharing_asked}
use Rattle.hub_state.proofs.sharing.stands.Goals as goal

pub returns-in-Redistribute : goal.returns-in-Redistribute
returns-in-Redistribute c = λ s is.
    let P : Request → Type 0 = λ r. c.args.sharing.now ≡ sharing_asked (incident_asked r) s → c.stands_gate.result ≡ stands_in s r in
    subst P (sym c.in-Redistribute.is) (λ same. c.stands_gate.ensures ∙ gate_stands s c.in-Redistribute.asked _ (c.as_slice.ensures ∙ ap (λ (x : Sharing). x.gates) same)) is

pub returns-in-Address : goal.returns-in-Address
returns-in-Address c = λ s is.
    let r = c.in-Address.asked in
    let P : Request → Type 0 = λ r. c.args.sharing.now ≡ sharing_asked (incident_asked r) s → c.is_target_among.result ≡ stands_in s r in
    subst P (sym c.in-Address.is) (λ same. c.is_target_among.ensures ∙ (ap (is_target_among r.target) (c.as_slice-targets.ensures ∙ ap (λ (x : Sharing). x.recipients) same) ∙ target_among r.incident r.target s)) is

pub returns-in-Unaddress : goal.returns-in-Unaddress
returns-in-Unaddress c = λ s is.
    let r = c.in-Unaddress.asked in
    let P : Request → Type 0 = λ r. c.args.sharing.now ≡ sharing_asked (incident_asked r) s → c.is_target_among-in-Unaddress.result ≡ stands_in s r in
    subst P (sym c.in-Unaddress.is) (λ same. c.is_target_among-in-Unaddress.ensures ∙ (ap (is_target_among r.target) (c.as_slice-targets.ensures ∙ ap (λ (x : Sharing). x.recipients) same) ∙ target_among r.incident r.target s)) is

pub returns-in-Grant : goal.returns-in-Grant
returns-in-Grant c = λ s is.
    let P : Request → Type 0 = λ r. c.args.sharing.now ≡ sharing_asked (incident_asked r) s → c.stands_granted.result ≡ stands_in s r in
    subst P (sym c.in-Grant.is) (λ same. c.stands_granted.ensures ∙ granted_stands s c.in-Grant.asked _ (c.as_slice-permissions.ensures ∙ ap (λ (x : Sharing). x.permissions) same)) is

pub returns-in-Withdraw : goal.returns-in-Withdraw
returns-in-Withdraw c = λ s is.
    let P : Request → Type 0 = λ r. c.args.sharing.now ≡ sharing_asked (incident_asked r) s → c.stands_permission.result ≡ stands_in s r in
    subst P (sym c.in-Withdraw.is) (λ same. c.stands_permission.ensures ∙ permission_stands s c.in-Withdraw.asked _ (c.as_slice-permissions.ensures ∙ ap (λ (x : Sharing). x.permissions) same)) is
