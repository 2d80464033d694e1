-- What a person learns in two worlds is the same, and so are the replies.
use Rattle.std.{proofs.{Common.{◌≡◌, ℕ, Bool, true, false, List, [], ◌∷◌, refl, sym, ◌∙◌, ap, ◌&&◌, if◌then◌else◌}, lemmas.Bool.false≢true}, specs.Prelude.ℤ}
use Rattle.{std.specs.Prelude.{Option, Some, None, Contains}, circle.specs.declared.directory.{Account.Account, Person.Person}, hub_core.specs.Reads.groups_of}
use Rattle.hub_core.specs.{Reads.joined_communities, Refusals.refusal_of, Sound.IsSound, State.{State, incident_of}}
use Rattle.hub_state.specs.declared.{reply.Reply.TheVariants.{Incidents, Groups, Communities}, request.Request.Request, state.Incident.Incident}
use Rattle.{iodef_tree.specs.Text.Bytes, hub.specs.{Alike.{is_told, is_answered_alike, IsAlikeStep, IsChain}, Replies.{caller_of, if_active, page_of, viewed}}}
use Rattle.hub.specs.{Replies.{refused_or, reply_by, reply_of}, Serving.due_to, Told.{is_served, is_found, is_addressed}, declared.key.Key.TheVariants.Digest}
use Rattle.hub_state.specs.declared.request.Request.TheVariants as ask

module _ (now : ℤ) (a : Account) where
  abbrev p : Person
  p = a.person

  -- the person is known in both, its groups are the same, and so is what it learns of incidents
  pub record TellsSame (s t : State) : Type 0 where
    pub first : caller_of s (Digest a.key) ≡ if_active (Some p)
    pub second : caller_of t (Digest a.key) ≡ if_active (Some p)
    pub groups : groups_of p s ≡ groups_of p t
    pub view : (n : ℕ) → viewed s now p (incident_of n s) ≡ viewed t now p (incident_of n t)
    pub listed : (n : ℕ) → page_of (is_served s now p) n s ≡ page_of (is_served t now p) n t
    pub found : (needle : Bytes) (class : Option Bytes) (n : ℕ) → page_of (λ (i : Incident). is_found s now p i needle class) n s ≡ page_of (λ (i : Incident). is_found t now p i needle class) n t
    pub addressed : (n : ℕ) → page_of (λ (i : Incident). is_addressed s now p i && is_served s now p i) n s ≡ page_of (λ (i : Incident). is_addressed t now p i && is_served t now p i) n t

  -- what the person learns beside that: its communities, and how each own report is shared
  pub record TellsShared (s t : State) : Type 0 where
    pub communities : joined_communities p s ≡ joined_communities p t
    pub sharing : (n : ℕ) → due_to s now p (ask.Sharing n) ≡ due_to t now p (ask.Sharing n)

  module _ (s t : State) (h : TellsSame s t) where
    due-same : (r : Request) → is_told r ≡ true → due_to s now p r ≡ due_to t now p r
    due-same (ask.View n) k = h.view n
    due-same (ask.List n) k = ap Incidents (h.listed n)
    due-same (ask.Search r) k = ap (λ es. refused_or (refusal_of t p (ask.Search r)) (Incidents es)) (h.found r.needle r.class r.after)
    due-same (ask.Addressed n) k = ap Incidents (h.addressed n)
    due-same ask.MyGroups k = ap Groups h.groups
    due-same ask.WhoAmI k = refl
    due-same (ask.Circle c) k = absurd (false≢true k)
    due-same (ask.Post r) k = absurd (false≢true k)
    due-same (ask.Replace r) k = absurd (false≢true k)
    due-same (ask.Redistribute r) k = absurd (false≢true k)
    due-same (ask.Address r) k = absurd (false≢true k)
    due-same (ask.Unaddress r) k = absurd (false≢true k)
    due-same (ask.Grant r) k = absurd (false≢true k)
    due-same (ask.Withdraw r) k = absurd (false≢true k)
    due-same (ask.Sharing n) k = absurd (false≢true k)
    due-same (ask.Explain r) k = absurd (false≢true k)
    due-same ask.MyCommunities k = absurd (false≢true k)

    reply-due : (r : Request) → due_to s now p r ≡ due_to t now p r → reply_of s now (Digest a.key) r ≡ reply_of t now (Digest a.key) r
    reply-due r due = ap (λ c. reply_by s now c r) h.first ∙ by_active p.active ∙ sym (ap (λ c. reply_by t now c r) h.second)
      where
        by_active : (b : Bool) → reply_by s now (if b then Some p else None) r ≡ reply_by t now (if b then Some p else None) r
        by_active true = due
        by_active false = refl

    pub reply-same : (r : Request) → is_told r ≡ true → reply_of s now (Digest a.key) r ≡ reply_of t now (Digest a.key) r
    reply-same r k = reply-due r (due-same r k)

    module _ (more : TellsShared s t) where
      due-alike : (r : Request) → is_answered_alike r ≡ true → due_to s now p r ≡ due_to t now p r
      due-alike (ask.Sharing n) k = more.sharing n
      due-alike ask.MyCommunities k = ap Communities more.communities
      due-alike (ask.View n) k = due-same (ask.View n) k
      due-alike (ask.List n) k = due-same (ask.List n) k
      due-alike (ask.Search r) k = due-same (ask.Search r) k
      due-alike (ask.Addressed n) k = due-same (ask.Addressed n) k
      due-alike ask.MyGroups k = due-same ask.MyGroups k
      due-alike ask.WhoAmI k = refl
      due-alike (ask.Circle c) k = absurd (false≢true k)
      due-alike (ask.Post r) k = absurd (false≢true k)
      due-alike (ask.Replace r) k = absurd (false≢true k)
      due-alike (ask.Redistribute r) k = absurd (false≢true k)
      due-alike (ask.Address r) k = absurd (false≢true k)
      due-alike (ask.Unaddress r) k = absurd (false≢true k)
      due-alike (ask.Grant r) k = absurd (false≢true k)
      due-alike (ask.Withdraw r) k = absurd (false≢true k)
      due-alike (ask.Explain r) k = absurd (false≢true k)

      pub reply-alike : (r : Request) → is_answered_alike r ≡ true → reply_of s now (Digest a.key) r ≡ reply_of t now (Digest a.key) r
      reply-alike r k = reply-due r (due-alike r k)

  -- a step between sound states changes nothing that the person learns, and keeps the person
  abbrev pub StepsTellSame : Type 0
  StepsTellSame = (s t : State) → IsSound s → IsSound t → Contains s.directory.accounts a → IsAlikeStep now a s t →
      TellsSame s t × TellsShared s t × Contains t.directory.accounts a

  -- the same over a chain
  pub chain-same : StepsTellSame → (r : Request) → is_answered_alike r ≡ true → (s : State) (between : List State) (t : State) →
      IsSound s → Contains s.directory.accounts a → IsChain now a s between t → reply_of s now (Digest a.key) r ≡ reply_of t now (Digest a.key) r
  chain-same step r k s [] t sound there c = ap (λ u. reply_of u now (Digest a.key) r) (sym c)
  chain-same step r k s (u ∷ us) t sound there c =
      let one = step s u sound c.1 there c.0 in
      reply-alike s u one.0 one.1 r k ∙ chain-same step r k u us t c.1 one.2 c.2
