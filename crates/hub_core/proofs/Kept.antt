-- A request that nothing refuses leaves a sound state.
use Rattle.std.proofs.Common.{◌≡◌, ℕ, ◌+◌, ◌≤◌, ◌&&◌, true, false, List, [], ◌∷◌, ◌++◌, length, Option, Some, None, refl, sym, ap, ◌∙◌, subst, arith}
use Rattle.std.{proofs.lemmas.Bool.{false≢true, ltb-false, not-false, or_parts, Decides.nat_tests}, specs.{List.list_all, Prelude.{suc, nat_lt, Ok}}}
use Rattle.{std.specs.{Prelude.option_map, Str.bytes_eq}, iodef_tree.{proofs.{Identified.{has_one, reported}, Order.bytes_eq-true}, specs.Reading.reading}}
use Rattle.circle.{proofs.Judged.{passed, next_number}, specs.{Sound.{Each, IsOrg}, declared.{directory.Person.Person, refusal.Refusal.Refusal}}}
use Rattle.hub_state.{proofs.Keeping.all_each, specs.{Aftermath.{changed, next_incident, put_gates, put_next, put_revision}, Documents.{Lines, documents_in}}}
use Rattle.hub_state.specs.{Documents.ident_of, Edits.with_edits, Facts.{facts_of, length_as_u32}, Requests.{incident_facts, has_joined_all}, Sound.IsSound}
use Rattle.hub_state.specs.{State.{State, incident_number, incident_of}, declared.{TheConstants.{INCIDENT_LIMIT, REVISION_LIMIT, GATE_LIMIT}, edit.Edit.Edit}}
use Rattle.hub_state.specs.declared.{edit.Edit.TheVariants.TakePolicy, request.{Distribution.Distribution, Post.Post, Replace.Replace, Request.Request}}
use Rattle.{hub_state.specs.declared.state.Incident.Incident, hub_core.proofs.{Addressed.{address_kept, unaddress_kept}, Agrees.agrees, Bodies.body_read}}
use Rattle.hub_core.proofs.{Bodies.{fit, not_posted, wishes}, ByRows.replace_edits, Exchanged.{with_document, exchanged}, Gated.after_gates, Granted.grant_kept}
use Rattle.hub_core.proofs.{Granted.withdraw_kept, Grown.directory_kept, Named.{own, counted_is}, Posted.{IsFit, posted}, Redistributed.redistribute_kept}
use Rattle.hub_core.specs.{Judgement.{grounds_by, keep_ident, next_revision}, Laws.StaysSound, Refusals.{refusal_of, are_bad_gates, has_several, has_some}}
use Rattle.hub_core.specs.Refusals.{stand_at_classes, unless_refused}
use Rattle.hub_state.specs.declared.request.Request.TheVariants as ask

post_kept : (s : State) (a : Person) (r : Post) → IsSound s → IsOrg s.directory.orgs a.org → refusal_of s a (ask.Post r) ≡ None → IsSound (changed s a (ask.Post r))
post_kept s a r h known fine =
    let d = r.distribution in
    let docs = documents_in r.document in
    let p = passed (grounds_by (facts_of s a (ask.Post r)) a (ask.Post r)) (agrees s a (ask.Post r) ∙ fine) in
    let next : next_incident s ≡ length s.incidents + 1 = next_number incident_number INCIDENT_LIMIT s.incidents h.incidents.numbered in
    let room : length s.incidents + length docs ≤ INCIDENT_LIMIT = ltb-false INCIDENT_LIMIT _ p.1.1.1.1.1.1.1.1.1.1.0 in
    let classes : stand_at_classes d.gates docs ≡ true = not-false (stand_at_classes d.gates docs) p.1.1.1.1.1.1.1.1.0 in
    let own : has_joined_all s a d ≡ true = not-false (has_joined_all s a d) p.1.1.1.1.1.1.1.0 in
    let good : are_bad_gates d.gates ≡ false = (or_parts (are_bad_gates d.gates) (has_several docs && has_some d.gates) p.1.1.1.0).0 in
    posted docs s a.org (next_incident s) d h next room known
    (fit r.document docs d.gates (body_read r.document p.1.1.1.1.0) p.1.1.1.1.1.1.0 classes) p.1.1.1.1.1.0 (not_posted s a.org docs p.1.1.1.1.1.1.1.1.1.0)
    (wishes s a d h.directory good own (ltb-false GATE_LIMIT _ p.1.1.1.1.1.1.1.1.1.1.1.0))

-- ---- another document

one_of : (docs : List Lines) → has_several docs ≡ false → has_one docs ≡ true → (doc : Lines) × (docs ≡ doc ∷ [])
one_of [] h k = absurd (false≢true k)
one_of (doc ∷ []) h k = (doc, refl)
one_of (doc ∷ other ∷ docs) h k = absurd (false≢true (sym h ∙ two (length docs)))
  where
    two : (n : ℕ) → nat_lt 1 (suc (suc n)) ≡ true
    two n = grind (arith, nat_tests)

-- the state after the edits of the incident, of its gates and of its permissions
after_replace : (s : State) (i : Incident) (n : ℕ) (d : Distribution) (docs : List Lines) (doc : Lines) → i.naming.number ≡ n → incident_of n s ≡ Some i → docs ≡ doc ∷ [] →
    with_edits (put_next n (option_map incident_facts (incident_of n s)) d.community docs ++ TakePolicy n ∷ put_gates n d) s ≡ with_document s i d doc
after_replace s i n d docs doc same found one =
    subst (λ m. with_edits (put_next m (option_map incident_facts (incident_of n s)) d.community docs ++ TakePolicy m ∷ put_gates m d) s ≡ with_document s i d doc) same
    (ap (λ o. with_edits (put_next i.naming.number (option_map incident_facts o) d.community docs ++ TakePolicy i.naming.number ∷ put_gates i.naming.number d) s) found
    ∙ (ap (λ ds. with_edits (put_revision i.naming.number (incident_facts i) d.community ds ++ TakePolicy i.naming.number ∷ put_gates i.naming.number d) s) one
    ∙ after_gates i.naming.number d (with_edits (put_revision i.naming.number (incident_facts i) d.community (doc ∷ []) ++ TakePolicy i.naming.number ∷ []) s)))

replace_kept : (s : State) (a : Person) (r : Replace) → IsSound s → refusal_of s a (ask.Replace r) ≡ None → IsSound (changed s a (ask.Replace r))
replace_kept s a r h fine =
    let n = r.incident in
    let d = r.distribution in
    let docs = documents_in r.document in
    let p = passed (grounds_by (facts_of s a (ask.Replace r)) a (ask.Replace r)) (agrees s a (ask.Replace r) ∙ fine) in
    let it = own s a n p.1.1.1.1.1.1.1.0 in
    let i = it.incident in
    let found : incident_of n s ≡ Some i = it.found in
    let read : reading r.document ≡ Ok docs = body_read r.document p.1.1.1.1.0 in
    let one = one_of docs p.1.1.1.1.1.0 (reported r.document docs read).some in
    let classes : stand_at_classes d.gates docs ≡ true = not-false (stand_at_classes d.gates docs) p.1.1.1.1.1.1.1.1.1.0 in
    let own : has_joined_all s a d ≡ true = not-false (has_joined_all s a d) p.1.1.1.1.1.1.1.1.0 in
    let kept : keep_ident (option_map incident_facts (incident_of n s)) docs ≡ true = not-false (keep_ident (option_map incident_facts (incident_of n s)) docs) p.1.1.1.1.1.1.1.1.1.1.0 in
    let few : length_as_u32 d.gates ≤ GATE_LIMIT = subst (λ m. m ≤ GATE_LIMIT) (counted_is s n i (λ m. length_as_u32 d.gates) found) (ltb-false GATE_LIMIT _ p.1.1.1.1.1.1.1.1.1.1.1.1.1.0) in
    let room : next_revision (option_map incident_facts (incident_of n s)) ≤ REVISION_LIMIT = ltb-false REVISION_LIMIT _ p.1.1.1.1.1.1.1.1.1.1.1.1.0 in
    let fits : IsFit d.gates one.0 = (subst (Each (IsFit d.gates)) one.1 (fit r.document docs d.gates read p.1.1.1.1.1.1.0 classes)).0 in
    let same : list_all (λ (doc : Lines). bytes_eq (ident_of doc) i.naming.ident) (one.0 ∷ []) ≡ true =
    ap (list_all (λ (doc : Lines). bytes_eq (ident_of doc) i.naming.ident)) (sym one.1) ∙ (sym (ap (λ o. keep_ident (option_map incident_facts o) docs) found) ∙ kept) in
    let ident : ident_of one.0 ≡ i.naming.ident = bytes_eq-true (ident_of one.0) i.naming.ident (all_each (λ (doc : Lines). bytes_eq (ident_of doc) i.naming.ident) (one.0 ∷ []) same).0 in
    subst IsSound (sym (ap (λ (edits : List Edit). with_edits edits s) (replace_edits s a r) ∙ after_replace s i n d docs one.0 it.number found one.1))
    (exchanged s i d one.0 h (subst (λ m. incident_of m s ≡ Some i) (sym it.number) found)
    (record { accepted = fits.accepted; named = fits.named ∙ ap Some ident; room = subst (λ o. next_revision (option_map incident_facts o) ≤ REVISION_LIMIT) found room })
    fits.classes (wishes s a d h.directory p.1.1.1.0 own few))

-- ---- every request

pub kept : (s : State) (a : Person) (r : Request) → IsSound s → IsOrg s.directory.orgs a.org → refusal_of s a r ≡ None → IsSound (changed s a r)
kept s a (ask.Circle command) h known fine = directory_kept s a command h known fine
kept s a (ask.Post r) h known fine = post_kept s a r h known fine
kept s a (ask.Replace r) h known fine = replace_kept s a r h fine
kept s a (ask.Redistribute r) h known fine = redistribute_kept s a r h fine
kept s a (ask.Address r) h known fine = address_kept s a r h fine
kept s a (ask.Unaddress r) h known fine = unaddress_kept s a r h
kept s a (ask.Grant r) h known fine = grant_kept s a r h fine
kept s a (ask.Withdraw r) h known fine = withdraw_kept s a r h
kept s a (ask.View n) h known fine = h
kept s a (ask.Sharing n) h known fine = h
kept s a (ask.Explain r) h known fine = h
kept s a (ask.List after) h known fine = h
kept s a (ask.Search r) h known fine = h
kept s a (ask.Addressed after) h known fine = h
kept s a ask.MyGroups h known fine = h
kept s a ask.MyCommunities h known fine = h
kept s a ask.WhoAmI h known fine = h

pub stays_sound : StaysSound
stays_sound s a r h known = split (refusal_of s a r) refl
  where
    split : (o : Option Refusal) → refusal_of s a r ≡ o → IsSound (unless_refused o s (changed s a r))
    split None is = kept s a r h known is
    split (Some why) is = h
