-- Putting or taking a recipient leaves a sound state.
use Rattle.{std.proofs.{Common.{◌≡◌, ◌≤◌, ◌==◌, not, List, None, filter, subst, ◌∙◌}, lemmas.Bool.{ltb-false, not-false}}, circle.proofs.Judged.passed}
use Rattle.circle.{proofs.Keeping.{each_put, each_left, each_weaker, pairs_left, order_put, none_of}, specs.{Ordered.put_by, declared.directory.Person.Person}}
use Rattle.hub_state.{proofs.{Keeping.{count_left, at_most, none_taken}, Keys.apart_recipient}, specs.{Aftermath.changed, Facts.{facts_of, recipients_then}}}
use Rattle.hub_state.specs.{Orders.recipient_total, Requests.is_target, Sound.{IsSound, SoundRecipients}, State.{State, recipient_cmp, recipients_of}}
use Rattle.hub_state.specs.{State.is_recipient_being, declared.{TheConstants.RECIPIENT_LIMIT, request.{Address.Address, Unaddress.Unaddress}}}
use Rattle.{hub_state.specs.declared.state.Recipient.Recipient, hub_core.proofs.{Agrees.agrees, Limits.limit_put, Named.{own, is_incident, counted_is}}}
use Rattle.hub_core.{proofs.Named.target_is, specs.{Judgement.grounds_by, Refusals.refusal_of}}
use Rattle.hub_state.specs.declared.request.Request.TheVariants as ask

with_recipients : (s : State) (rows : List Recipient) → IsSound s → SoundRecipients s.directory s.incidents rows → IsSound (record s { recipients = rows })
with_recipients s rows h new = record { directory = h.directory; incidents = h.incidents; gates = h.gates; recipients = new; permissions = h.permissions }

pub address_kept : (s : State) (a : Person) (r : Address) → IsSound s → refusal_of s a (ask.Address r) ≡ None → IsSound (changed s a (ask.Address r))
address_kept s a r h fine =
    let n = r.incident in
    let target = r.target in
    let p = passed (grounds_by (facts_of s a (ask.Address r)) a (ask.Address r)) (agrees s a (ask.Address r) ∙ fine) in
    let row : Recipient = record { incident = n; target = target } in
    let it = own s a n p.1.0 in
    let few : recipients_then s a (ask.Address r) ≤ RECIPIENT_LIMIT = ltb-false RECIPIENT_LIMIT _ p.1.1.1.1.0 in
    let rest = filter (λ (r : Recipient). not (is_recipient_being n target r)) s.recipients in
    let whole : rest ≡ s.recipients = none_taken (is_recipient_being n target) s.recipients p.1.1.1.0 in
    let here : recipients_of n (put_by recipient_cmp row s.recipients) ≤ RECIPIENT_LIMIT =
    subst (λ rows. recipients_of n (put_by recipient_cmp row rows) ≤ RECIPIENT_LIMIT) whole (subst (λ m. m ≤ RECIPIENT_LIMIT) (counted_is s n it.incident (λ m. recipients_of m (put_by recipient_cmp row rest)) it.found) few) in
    with_recipients s _ h (record {
      rising = order_put recipient_cmp row s.recipients recipient_total (each_weaker _ _ s.recipients (λ r e. apart_recipient row r e) (none_of (is_recipient_being n target) s.recipients p.1.1.1.0)) h.recipients.rising;
      ends = each_put _ recipient_cmp row s.recipients (is_incident s n it.incident it.found) h.recipients.ends;
      targets = each_put _ recipient_cmp row s.recipients (target_is s.directory target (not-false (is_target s.directory target) p.1.1.0)) h.recipients.targets;
      limit = limit_put (λ (r : Recipient). r.incident) recipient_cmp RECIPIENT_LIMIT row s.recipients s.incidents here h.recipients.limit;
    })

pub unaddress_kept : (s : State) (a : Person) (r : Unaddress) → IsSound s → IsSound (changed s a (ask.Unaddress r))
unaddress_kept s a r h = with_recipients s _ h (record {
  rising = pairs_left _ _ s.recipients h.recipients.rising;
  ends = each_left _ _ s.recipients h.recipients.ends;
  targets = each_left _ _ s.recipients h.recipients.targets;
  limit = each_weaker _ _ s.incidents (λ i e. at_most _ _ RECIPIENT_LIMIT (count_left (λ (x : Recipient). x.incident == i.naming.number) (λ (x : Recipient). not (is_recipient_being r.incident r.target x)) s.recipients) e) h.recipients.limit;
})
