-- The caller is there, and what a request is answered and leaves.
use Rattle.std.proofs.Common.{◌≡◌, inl, inr, ℕ, Bool, true, false, not, ◌&&◌, ◌==◌, List, [], ◌∷◌, cond, Option, Some, None, refl, sym, ◌∙◌, ap, subst, find}
use Rattle.std.{proofs.lemmas.Bool.true≢false, specs.{List.{list_all, AllByRecursion}, Prelude.{ℤ, Result, Ok, Err, option_map, option_and_then}, Str.bytes_eq}}
use Rattle.circle.specs.{Directory.account_number, Outcomes.bare, Reads.person_in, Refusals.{Ground, first_answer}, Sound.IsOrg}
use Rattle.circle.specs.declared.command.CircleCommand.{CircleCommand, TheVariants.{AddOrg, AddPerson, SuspendPerson, AddClient, RemoveClient, AddCommunity}}
use Rattle.circle.specs.declared.command.CircleCommand.TheVariants.{Join, Leave, Link, Unlink, NewGroup, GroupAdd, GroupRemove, GroupActive, Arrange}
use Rattle.circle.specs.declared.{command.CircleCommand.TheVariants.{CancelArrange, Nominate, Unnominate, NewKey}, directory.{Account.Account, Person.Person}}
use Rattle.{circle.specs.declared.refusal.{Code.TheVariants.{F1, F2}, Refusal.Refusal}, hub_core.specs.{Aftermath.changed, Laws.is_reading, Refusals.grounds}}
use Rattle.hub_core.specs.{Refusals.{refusal_of, state_after, unless_refused}, Shelves.IsKept, Sound.IsSound, State.{State, incident_of}}
use Rattle.hub_state.{proofs.Keeping.found_each, specs.declared.reply.{Reply.{Reply, TheVariants.Refused}, Sharing.Sharing as SharingOf, View.View as ViewOf}}
use Rattle.hub_state.specs.declared.{request.Request.Request, shelf.ShelfFault.{ShelfFault, TheVariants.{NoMemory, Failed}}, state.Incident.Incident}
use Rattle.hub.{proofs.Numbered.all_found, specs.{Faults.{code_told, is_failure, tells_failure}, Machine.{Asked, IsGivenUp, IsStep, left_by}}}
use Rattle.hub.specs.Replies.{if_active, caller_of, view_or_nothing, sharing_or_nothing, viewed, circle_reply, refused_or, answer_to, reply_by, reply_of}
use Rattle.hub.specs.{Serving.{due_to, read_by, is_made, IsDoneAsDue}, Told.{shared_at, view_of}, declared.key.Key.{Key, TheVariants.{Absent, Digest}}}
use Rattle.hub.specs.inner.Asking.{IsThere}
use Rattle.circle.specs.Refusals as circle
use Rattle.hub_state.specs.declared.request.Request.TheVariants as ask

-- ---- the caller

pub same_person : (a : Account) (p : Person) → if_active (Some a.person) ≡ Some p → a.person ≡ p
same_person a p h = by_case a.person.active h
  where
    by_case : (b : Bool) → cond b (Some a.person) None ≡ Some p → a.person ≡ p
    by_case true k = cc
    by_case false k = cc

called : (P : Person → Type 0) (s : State) (key : Key) (p : Person) → caller_of s key ≡ Some p → AllByRecursion (λ (a : Account). P a.person) s.directory.accounts → P p
called P s Absent p h all = cc
called P s (Digest key) p h all = by_case (find (λ (a : Account). bytes_eq a.key key) s.directory.accounts) refl h
  where
    by_case : (o : Option Account) → find (λ (a : Account). bytes_eq a.key key) s.directory.accounts ≡ o → if_active (option_map person_in o) ≡ Some p → P p
    by_case None is k = cc
    by_case (Some a) is k = subst P (same_person a p k) (found_each (λ (a : Account). P a.person) (λ (a : Account). bytes_eq a.key key) s.directory.accounts a is all)

-- each person is the one found by its number
all_there : (s : State) (rows : List Account) → AllByRecursion (λ (a : Account). find (λ (b : Account). b.person.number == a.person.number) s.directory.accounts ≡ Some a) rows → AllByRecursion (λ (a : Account). IsThere s a.person) rows
all_there s [] h = tt
all_there s (a ∷ rows) h = (ap (option_map person_in) h.0, all_there s rows h.1)

pub caller_there : (s : State) (key : Key) (p : Person) → IsSound s → caller_of s key ≡ Some p → IsThere s p
caller_there s key p sound h = called (IsThere s) s key p h (all_there s s.directory.accounts (all_found account_number 0 s.directory.accounts sound.directory.accounts.numbered.0))

pub caller_org : (s : State) (key : Key) (p : Person) → IsSound s → caller_of s key ≡ Some p → IsOrg s.directory.orgs p.org
caller_org s key p sound h = called (λ (p : Person). IsOrg s.directory.orgs p.org) s key p h sound.directory.accounts.ends

-- ---- reading

unless_same : (o : Option Refusal) (s : State) → unless_refused o s s ≡ s
unless_same None s = refl
unless_same (Some refusal) s = refl

reads_leave : (s : State) (p : Person) (r : Request) → is_reading r ≡ true → state_after s p r ≡ s
reads_leave s p (ask.View n) h = refl
reads_leave s p (ask.Sharing n) h = unless_same (refusal_of s p (ask.Sharing n)) s
reads_leave s p (ask.Explain r) h = unless_same (refusal_of s p (ask.Explain r)) s
reads_leave s p (ask.List after) h = refl
reads_leave s p (ask.Search r) h = unless_same (refusal_of s p (ask.Search r)) s
reads_leave s p (ask.Addressed after) h = refl
reads_leave s p ask.MyGroups h = refl
reads_leave s p ask.MyCommunities h = refl
reads_leave s p ask.WhoAmI h = refl
reads_leave s p (ask.Circle command) h = absurd (true≢false (sym h))
reads_leave s p (ask.Post r) h = absurd (true≢false (sym h))
reads_leave s p (ask.Replace r) h = absurd (true≢false (sym h))
reads_leave s p (ask.Redistribute r) h = absurd (true≢false (sym h))
reads_leave s p (ask.Address r) h = absurd (true≢false (sym h))
reads_leave s p (ask.Unaddress r) h = absurd (true≢false (sym h))
reads_leave s p (ask.Grant r) h = absurd (true≢false (sym h))
reads_leave s p (ask.Withdraw r) h = absurd (true≢false (sym h))

view_unmade : (s : State) (now : ℤ) (p : Person) (o : Option Incident) → is_made (viewed s now p o) ≡ false
view_unmade s now p o = by_case (option_and_then (view_of s now p) o)
  where
    by_case : (v : Option ViewOf) → is_made (view_or_nothing v) ≡ false
    by_case None = refl
    by_case (Some v) = refl

sharing_unmade : (o : Option SharingOf) → is_made (sharing_or_nothing o) ≡ false
sharing_unmade None = refl
sharing_unmade (Some sharing) = refl

search_unmade : (o : Option Refusal) (r : Reply) → is_made r ≡ false → is_made (refused_or o r) ≡ false
search_unmade None r h = h
search_unmade (Some refusal) r h = refl

reads_unmade : (s : State) (now : ℤ) (p : Person) (r : Request) → is_reading r ≡ true → is_made (due_to s now p r) ≡ false
reads_unmade s now p (ask.View n) h = view_unmade s now p (incident_of n s)
reads_unmade s now p (ask.Sharing n) h = search_unmade (refusal_of s p (ask.Sharing n)) _ (sharing_unmade (option_map (shared_at s now) (incident_of n s)))
reads_unmade s now p (ask.Explain r) h = search_unmade (refusal_of s p (ask.Explain r)) _ refl
reads_unmade s now p (ask.List after) h = refl
reads_unmade s now p (ask.Search r) h = search_unmade (refusal_of s p (ask.Search r)) _ refl
reads_unmade s now p (ask.Addressed after) h = refl
reads_unmade s now p ask.MyGroups h = refl
reads_unmade s now p ask.MyCommunities h = refl
reads_unmade s now p ask.WhoAmI h = refl
reads_unmade s now p (ask.Circle command) h = absurd (true≢false (sym h))
reads_unmade s now p (ask.Post r) h = absurd (true≢false (sym h))
reads_unmade s now p (ask.Replace r) h = absurd (true≢false (sym h))
reads_unmade s now p (ask.Redistribute r) h = absurd (true≢false (sym h))
reads_unmade s now p (ask.Address r) h = absurd (true≢false (sym h))
reads_unmade s now p (ask.Unaddress r) h = absurd (true≢false (sym h))
reads_unmade s now p (ask.Grant r) h = absurd (true≢false (sym h))
reads_unmade s now p (ask.Withdraw r) h = absurd (true≢false (sym h))

read_is : (s : State) (now : ℤ) (p : Person) (r : Request) (reply : Reply) → Some reply ≡ read_by s now p r → (is_reading r ≡ true) × (reply ≡ due_to s now p r)
read_is s now p r reply h = by_case (is_reading r) refl h
  where
    by_case : (b : Bool) → is_reading r ≡ b → Some reply ≡ cond b (Some (due_to s now p r)) None → (is_reading r ≡ true) × (reply ≡ due_to s now p r)
    by_case true is k = let same : reply ≡ due_to s now p r = cc in (is, same)
    by_case false is k = cc

-- ---- what is served

module _ {D : Type 0} {has : D → State → Type 0} {doubts failed : D → ℕ} {may_remain : D → Option State → Type 0} {old new : D} where
  pub served_reading : IsKept has doubts failed may_remain old new → doubts new ≡ 0 → (s : State) (now : ℤ) (p : Person) (r : Request) (reply : Reply) → has old s → Some reply ≡ read_by s now p r →
      IsDoneAsDue has may_remain old new s (due_to s now p r) (state_after s p r) (Ok reply)
  served_reading kept clean s now p r reply here is =
      let told = read_is s now p r reply is in
      record {
        settled = (told.1, subst (has new) (sym (reads_leave s p r told.0)) (kept.content clean s here));
        durable = λ made. absurd (true≢false (sym made ∙ ap is_made told.1 ∙ reads_unmade s now p r told.0));
        crash = λ left leaves. inl (kept.crash clean left leaves);
      }

  -- no reply, and nothing done
  pub served_none : IsKept has doubts failed may_remain old new → doubts new ≡ 0 → (s : State) (due : Reply) (after : State) (fault : ShelfFault) → has old s → IsDoneAsDue has may_remain old new s due after (Err fault)
  served_none kept clean s due after fault here = record {
    settled = kept.content clean s here;
    durable = tt;
    crash = λ left leaves. inl (kept.crash clean left leaves);
  }

  -- a refusal
  pub served_refusal : IsKept has doubts failed may_remain old new → doubts new ≡ 0 → (s : State) (due : Reply) (after : State) (refusal : Refusal) → has old s → Refused refusal ≡ due → s ≡ after → IsDoneAsDue has may_remain old new s due after (Ok (Refused refusal))
  served_refusal kept clean s due after refusal here is same = record {
    settled = (is, subst (has new) same (kept.content clean s here));
    durable = λ made. absurd (true≢false (sym made));
    crash = λ left leaves. inl (kept.crash clean left leaves);
  }

-- after what was read before
pub served_on : {D : Type 0} {has : D → State → Type 0} {doubts failed : D → ℕ} {may_remain : D → Option State → Type 0} {old mid new : D} → IsKept has doubts failed may_remain old mid → doubts mid ≡ 0 →
    (s : State) (due : Reply) (after : State) (result : Result Reply ShelfFault) →
    IsDoneAsDue has may_remain mid new s due after result → IsDoneAsDue has may_remain old new s due after result
served_on kept clean s due after result served = record {
  settled = served.settled;
  durable = served.durable;
  crash = λ left leaves. elim (served.crash left leaves) [ inl before ↦ inl (kept.crash clean left before) | inr made ↦ inr made ];
}

-- ---- no reply that is due says that the store failed

abbrev tells_none : List Ground → Bool
tells_none gs = list_all (λ (g : Ground). not (is_failure g.answer.code)) gs

first_untold : (gs : List Ground) (reply : Reply) → tells_none gs ≡ true → tells_failure reply ≡ false → tells_failure (refused_or (first_answer gs) reply) ≡ false
first_untold [] reply h k = k
first_untold (g ∷ gs) reply h k = by_case g.holds (is_failure g.answer.code) refl h (first_untold gs reply)
  where
    by_case : (b t : Bool) → is_failure g.answer.code ≡ t → (not t && tells_none gs) ≡ true → (tells_none gs ≡ true → tells_failure reply ≡ false → tells_failure (refused_or (first_answer gs) reply) ≡ false) →
        tells_failure (refused_or (cond b (Some g.answer) (first_answer gs)) reply) ≡ false
    by_case b true is all later = absurd (true≢false (sym all))
    by_case true false is all later = is
    by_case false false is all later = later all k

circle_tells : (s : State) (a : Person) (c : CircleCommand) → tells_none (circle.grounds s.directory a c) ≡ true
circle_tells s a (AddOrg name) = refl
circle_tells s a (AddPerson org name role key) = refl
circle_tells s a (SuspendPerson person) = refl
circle_tells s a (AddClient org client) = refl
circle_tells s a (RemoveClient org client) = refl
circle_tells s a (AddCommunity name) = refl
circle_tells s a (Join community org) = refl
circle_tells s a (Leave community org) = refl
circle_tells s a (Link community other) = refl
circle_tells s a (Unlink community other) = refl
circle_tells s a (NewGroup name releasability) = refl
circle_tells s a (GroupAdd group org extend) = refl
circle_tells s a (GroupRemove group org) = refl
circle_tells s a (GroupActive group active) = refl
circle_tells s a (Arrange org handling) = refl
circle_tells s a (CancelArrange org) = refl
circle_tells s a (Nominate person) = refl
circle_tells s a (Unnominate person) = refl
circle_tells s a (NewKey key) = refl

grounds_tell : (s : State) (a : Person) (r : Request) → tells_none (grounds s a r) ≡ true
grounds_tell s a (ask.Circle command) = circle_tells s a command
grounds_tell s a (ask.Post r) = refl
grounds_tell s a (ask.Replace r) = refl
grounds_tell s a (ask.Redistribute r) = refl
grounds_tell s a (ask.Address r) = refl
grounds_tell s a (ask.Unaddress r) = refl
grounds_tell s a (ask.Grant r) = refl
grounds_tell s a (ask.Withdraw r) = refl
grounds_tell s a (ask.View n) = refl
grounds_tell s a (ask.Sharing n) = refl
grounds_tell s a (ask.Explain r) = refl
grounds_tell s a (ask.List after) = refl
grounds_tell s a (ask.Search r) = refl
grounds_tell s a (ask.Addressed after) = refl
grounds_tell s a ask.MyGroups = refl
grounds_tell s a ask.MyCommunities = refl
grounds_tell s a ask.WhoAmI = refl

view_untold : (s : State) (now : ℤ) (p : Person) (o : Option Incident) → tells_failure (viewed s now p o) ≡ false
view_untold s now p o = by_case (option_and_then (view_of s now p) o)
  where
    by_case : (v : Option ViewOf) → tells_failure (view_or_nothing v) ≡ false
    by_case None = refl
    by_case (Some v) = refl

sharing_untold : (o : Option SharingOf) → tells_failure (sharing_or_nothing o) ≡ false
sharing_untold None = refl
sharing_untold (Some sharing) = refl

command_untold : (s : State) (c : CircleCommand) → tells_failure (circle_reply s.directory c) ≡ false
command_untold s (AddOrg name) = refl
command_untold s (AddPerson org name role key) = refl
command_untold s (SuspendPerson person) = refl
command_untold s (AddClient org client) = refl
command_untold s (RemoveClient org client) = refl
command_untold s (AddCommunity name) = refl
command_untold s (Join community org) = refl
command_untold s (Leave community org) = refl
command_untold s (Link community other) = refl
command_untold s (Unlink community other) = refl
command_untold s (NewGroup name releasability) = refl
command_untold s (GroupAdd group org extend) = refl
command_untold s (GroupRemove group org) = refl
command_untold s (GroupActive group active) = refl
command_untold s (Arrange org handling) = refl
command_untold s (CancelArrange org) = refl
command_untold s (Nominate person) = refl
command_untold s (Unnominate person) = refl
command_untold s (NewKey key) = refl

answer_untold : (s : State) (now : ℤ) (p : Person) (r : Request) → tells_failure (answer_to s now p r) ≡ false
answer_untold s now p (ask.Circle command) = command_untold s command
answer_untold s now p (ask.Post r) = refl
answer_untold s now p (ask.Replace r) = refl
answer_untold s now p (ask.Redistribute r) = refl
answer_untold s now p (ask.Address r) = refl
answer_untold s now p (ask.Unaddress r) = refl
answer_untold s now p (ask.Grant r) = refl
answer_untold s now p (ask.Withdraw r) = refl
answer_untold s now p (ask.View n) = view_untold s now p (incident_of n s)
answer_untold s now p (ask.Sharing n) = sharing_untold (option_map (shared_at s now) (incident_of n s))
answer_untold s now p (ask.Explain r) = refl
answer_untold s now p (ask.List after) = refl
answer_untold s now p (ask.Search r) = refl
answer_untold s now p (ask.Addressed after) = refl
answer_untold s now p ask.MyGroups = refl
answer_untold s now p ask.MyCommunities = refl
answer_untold s now p ask.WhoAmI = refl

pub due_untold : (s : State) (now : ℤ) (key : Key) (r : Request) → tells_failure (reply_of s now key r) ≡ false
due_untold s now key r = by_caller (caller_of s key)
  where
    by_caller : (o : Option Person) → tells_failure (reply_by s now o r) ≡ false
    by_caller None = refl
    by_caller (Some p) = first_untold (grounds s p r) (answer_to s now p r) (grounds_tell s p r) (answer_untold s now p r)

pub due_tells : (s : State) (now : ℤ) (key : Key) (r : Request) → reply_of s now key r ≡ Refused (bare F1) → ⊥
due_tells s now key r h = true≢false (sym (ap tells_failure h) ∙ due_untold s now key r)

memory_tells : Refused (bare F2) ≡ Refused (bare F1) → ⊥
memory_tells h = true≢false (sym (ap tells_failure h))

-- ---- what leaves the state as it was

command_made : (s : State) (c : CircleCommand) → is_made (circle_reply s.directory c) ≡ true
command_made s (AddOrg name) = refl
command_made s (AddPerson org name role key) = refl
command_made s (SuspendPerson person) = refl
command_made s (AddClient org client) = refl
command_made s (RemoveClient org client) = refl
command_made s (AddCommunity name) = refl
command_made s (Join community org) = refl
command_made s (Leave community org) = refl
command_made s (Link community other) = refl
command_made s (Unlink community other) = refl
command_made s (NewGroup name releasability) = refl
command_made s (GroupAdd group org extend) = refl
command_made s (GroupRemove group org) = refl
command_made s (GroupActive group active) = refl
command_made s (Arrange org handling) = refl
command_made s (CancelArrange org) = refl
command_made s (Nominate person) = refl
command_made s (Unnominate person) = refl
command_made s (NewKey key) = refl

unmade_reads : (s : State) (now : ℤ) (p : Person) (r : Request) → is_made (answer_to s now p r) ≡ false → is_reading r ≡ true
unmade_reads s now p (ask.Circle command) h = absurd (true≢false (sym (command_made s command) ∙ h))
unmade_reads s now p (ask.Post r) h = absurd (true≢false h)
unmade_reads s now p (ask.Replace r) h = absurd (true≢false h)
unmade_reads s now p (ask.Redistribute r) h = absurd (true≢false h)
unmade_reads s now p (ask.Address r) h = absurd (true≢false h)
unmade_reads s now p (ask.Unaddress r) h = absurd (true≢false h)
unmade_reads s now p (ask.Grant r) h = absurd (true≢false h)
unmade_reads s now p (ask.Withdraw r) h = absurd (true≢false h)
unmade_reads s now p (ask.View n) h = refl
unmade_reads s now p (ask.Sharing n) h = refl
unmade_reads s now p (ask.Explain r) h = refl
unmade_reads s now p (ask.List after) h = refl
unmade_reads s now p (ask.Search r) h = refl
unmade_reads s now p (ask.Addressed after) h = refl
unmade_reads s now p ask.MyGroups h = refl
unmade_reads s now p ask.MyCommunities h = refl
unmade_reads s now p ask.WhoAmI h = refl

pub left_unmade : (s left : State) (asked : Asked) (reply : Reply) → IsStep s asked reply left → is_made reply ≡ false → left ≡ s
left_unmade s left asked reply (inr up) h = up.1
left_unmade s left asked reply (inl answered) h = answered.aftermath ∙ by_caller (caller_of s asked.1) (sym (ap is_made answered.due) ∙ h)
  where
    by_refusal : (p : Person) (o : Option Refusal) → refusal_of s p asked.2 ≡ o → is_made (refused_or o (answer_to s asked.0 p asked.2)) ≡ false → state_after s p asked.2 ≡ s
    by_refusal p None is k = reads_leave s p asked.2 (unmade_reads s asked.0 p asked.2 k)
    by_refusal p (Some refusal) is k = ap (λ o. unless_refused o s (changed s p asked.2)) is

    by_caller : (o : Option Person) → is_made (reply_by s asked.0 o asked.2) ≡ false → left_by s o asked.2 ≡ s
    by_caller None k = refl
    by_caller (Some p) k = by_refusal p (refusal_of s p asked.2) refl k

-- ---- steps

pub given_up : (fault : ShelfFault) (reply : Reply) → reply ≡ Refused (bare (code_told fault)) → IsGivenUp reply
given_up NoMemory reply is = inr is
given_up Failed reply is = inl is

-- the reply says that the store failed if it did
pub told_failed : (fault : ShelfFault) (result : Result Reply ShelfFault) → result ≡ Err fault → result ≡ Err Failed → Refused (bare (code_told fault)) ≡ Refused (bare F1)
told_failed NoMemory result is failed = absurd cc
told_failed Failed result is failed = refl

-- the reply says that the store failed only if it did
pub failure_told : (cause : Type 0) (fault : ShelfFault) → (Failed ≡ fault → cause) → Refused (bare (code_told fault)) ≡ Refused (bare F1) → cause
failure_told cause NoMemory had is = absurd (memory_tells is)
failure_told cause Failed had is = had refl
