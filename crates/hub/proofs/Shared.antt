-- How an own report is shared, in two worlds: its rows are the same, or it is nobody's own.
use Rattle.std.proofs.{Common.{◌≡◌, ℕ, Bool, true, false, not, List, [], ◌∷◌, refl, sym, ◌∙◌, ap, subst, ◌==◌}, lemmas.Bool.{eqb-true, eq-eqb}}
use Rattle.{std.specs.{Option.option_map_or, Prelude.{ℤ, Option, Some, None, option_map}}, policy.specs.declared.gate.Gate.Gate as CaseGate}
use Rattle.{policy.specs.declared.permission.Permission.Permission as CasePermission, circle.specs.{Refusals.first_answer, declared.directory.Person.Person}}
use Rattle.hub_core.specs.{Reads.{its_gates, its_recipients, its_permissions, sharing_for, incident_sharing}, Refusals.not_for_you, State.{State, incident_of}}
use Rattle.hub_state.{proofs.Keeping.found_is, specs.declared.{look_ups.IncidentSharing.IncidentSharing, reply.Reply.{Reply, TheVariants.Sharing}}}
use Rattle.{hub_state.specs.declared.{request.Target.Target, state.Incident.Incident}, hub.specs.Laws.{is_own_report, OnlySourcesAreToldSharing}}
use Rattle.hub.specs.{Replies.{sharing_or_nothing, answer_to, refused_or}, Serving.due_to, Told.{sharing_made, shared_at}}
use Rattle.hub_state.specs.declared.request.Request.TheVariants as ask

-- the reply, by whether the report is own, and by what it is if it is
abbrev if_own : Bool → Reply → Reply
if_own own reply = refused_or (first_answer (not_for_you (not own) ∷ [])) reply

pub only-sources : OnlySourcesAreToldSharing
only-sources s now p n h = ap (λ own. if_own own (answer_to s now p (ask.Sharing n))) h

-- the incident of a number and all that it is shared by are the same
pub record HasSameRows (n : ℕ) (s t : State) : Type 0 where
  pub incident : incident_of n s ≡ incident_of n t
  pub gates : its_gates n s.gates ≡ its_gates n t.gates
  pub recipients : its_recipients n s.recipients ≡ its_recipients n t.recipients
  pub permissions : its_permissions n s.permissions ≡ its_permissions n t.permissions

module _ (now : ℤ) (p : Person) (s t : State) where
  abbrev is_ours : Incident → Bool
  is_ours i = i.naming.source == p.org

  abbrev due_at : State → Option Incident → Reply
  due_at st o = if_own (option_map_or is_ours o false) (sharing_or_nothing (option_map (shared_at st now) o))

  abbrev due_by : Incident → List CaseGate → List Target → List CasePermission → Reply
  due_by i gates recipients permissions =
      if_own (is_ours i) (Sharing (sharing_made now (record { naming = i.naming; gates = gates; recipients = recipients; permissions = permissions })))

  -- the same rows are told alike
  pub rows-shared : (n : ℕ) → HasSameRows n s t → due_to s now p (ask.Sharing n) ≡ due_to t now p (ask.Sharing n)
  rows-shared n h = by_found (incident_of n s) refl
    where
      same : (i : Incident) → i.naming.number ≡ n → due_at s (Some i) ≡ due_at t (Some i)
      same i at =
          let m = i.naming.number in
          ap (λ gs. due_by i gs (its_recipients m s.recipients) (its_permissions m s.permissions))
          (subst (λ k. its_gates k s.gates ≡ its_gates k t.gates) (sym at) h.gates)
          ∙ ap (λ rs. due_by i (its_gates m t.gates) rs (its_permissions m s.permissions))
          (subst (λ k. its_recipients k s.recipients ≡ its_recipients k t.recipients) (sym at) h.recipients)
          ∙ ap (due_by i (its_gates m t.gates) (its_recipients m t.recipients))
          (subst (λ k. its_permissions k s.permissions ≡ its_permissions k t.permissions) (sym at) h.permissions)

      by_found : (o : Option Incident) → incident_of n s ≡ o → due_at s (incident_of n s) ≡ due_at t (incident_of n t)
      by_found None e = ap (due_at s) e ∙ sym (ap (due_at t) (sym h.incident ∙ e))
      by_found (Some i) e =
          let at : i.naming.number ≡ n = eqb-true i.naming.number n (found_is (λ (x : Incident). x.naming.number == n) s.incidents i e) in
          ap (due_at s) e ∙ same i at ∙ sym (ap (due_at t) (sym h.incident ∙ e))

  -- what isn't own in either is told in neither
  pub foreign-shared : (n : ℕ) → is_own_report s p n ≡ false → is_own_report t p n ≡ false →
      due_to s now p (ask.Sharing n) ≡ due_to t now p (ask.Sharing n)
  foreign-shared n first second = only-sources s now p n first ∙ sym (only-sources t now p n second)

  -- an own report has the same rows, and another has the same source in both
  pub own-shared : (n : ℕ) → is_own_report t p n ≡ is_own_report s p n → (is_own_report s p n ≡ true → HasSameRows n s t) →
      due_to s now p (ask.Sharing n) ≡ due_to t now p (ask.Sharing n)
  own-shared n same rows = by_own (is_own_report s p n) refl
    where
      by_own : (b : Bool) → is_own_report s p n ≡ b → due_to s now p (ask.Sharing n) ≡ due_to t now p (ask.Sharing n)
      by_own true own = rows-shared n (rows own)
      by_own false own = foreign-shared n own (same ∙ own)

-- what is found of an own report is told
pub found-due : (now : ℤ) (p : Person) (s : State) (n : ℕ) (k : IncidentSharing) → Some k ≡ incident_sharing n s → k.naming.source ≡ p.org →
    Sharing (sharing_made now k) ≡ due_to s now p (ask.Sharing n)
found-due now p s n k is own = by_found (incident_of n s) is
  where
    by_found : (o : Option Incident) → Some k ≡ option_map (sharing_for s) o →
        Sharing (sharing_made now k)
        ≡ if_own (option_map_or (λ (i : Incident). i.naming.source == p.org) o false) (sharing_or_nothing (option_map (shared_at s now) o))
    by_found None e = cc
    by_found (Some i) e =
        let same : k ≡ sharing_for s i = cc in
        let ours : (i.naming.source == p.org) ≡ true = eq-eqb i.naming.source p.org (ap (λ (x : IncidentSharing). x.naming.source) (sym same) ∙ own) in
        ap (λ x. Sharing (sharing_made now x)) same ∙ sym (ap (λ b. if_own b (Sharing (shared_at s now i))) ours)
