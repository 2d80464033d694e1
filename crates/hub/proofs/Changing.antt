-- The reply to a change, by its edits.
use Rattle.std.proofs.Common.{◌≡◌, ℕ, ◌+◌, ◌<◌, ◌≤◌, ◌^◌, false, ◌==◌, List, [], ◌∷◌, ◌++◌, map, Option, Some, None, drop, get_or, length, refl, sym, ◌∙◌, ap}
use Rattle.std.{proofs.{Common.{subst, arith, append_assoc}, lemmas.{Bool.true≢false, List.{drop_more, Elements.filter_map-append}}}, specs.List.flat_map}
use Rattle.{std.specs.{List.cons_option, Option.option_map_or, Prelude.{ℤ, option_map}}, iodef_tree.specs.{Pointer.pointer_tokens, Text.Tokens}}
use Rattle.circle.specs.{Aftermath.{next_in, edit_of, rows_of}, Directory.Directory, declared.command.CircleCommand.{CircleCommand, TheVariants.AddOrg}}
use Rattle.circle.specs.declared.command.CircleCommand.TheVariants.{AddPerson, SuspendPerson, AddClient, RemoveClient, AddCommunity, Join, Leave, Link, Unlink}
use Rattle.circle.specs.declared.command.CircleCommand.TheVariants.{NewGroup, GroupAdd, GroupRemove, GroupActive, Arrange, CancelArrange, Nominate, Unnominate}
use Rattle.{circle.specs.declared.{command.CircleCommand.TheVariants.NewKey, directory.Person.Person}, hub_state.proofs.Keeping.found_each}
use Rattle.hub_state.specs.declared.{TheConstants.REVISION_LIMIT, edit.Edit.{Edit, TheVariants.Directory as Row}, facts.Facts.Facts}
use Rattle.hub_state.specs.declared.{facts.IncidentFacts.IncidentFacts, reply.Reply.{Reply, TheVariants.{Numbers, Revision}}, request.Distribution.Distribution}
use Rattle.{hub_state.specs.declared.{request.{Request.Request, WantedGate.WantedGate}, state.Incident.Incident}, hub_core.proofs.Agrees.same_edits}
use Rattle.hub_core.specs.{Aftermath.{next_incident, put_gate, put_incident, put_incidents, edits_of, edits_by}, Documents.{Lines, documents_in, made_at}}
use Rattle.hub_core.specs.{Facts.facts_of, Judgement.next_revision, Laws.is_reading, Refusals.refusal_of, Requests.{looked_up, incident_facts, known_of}}
use Rattle.{hub_core.specs.{Requests.incident_asked, Sound.IsSound, State.{State, incident_of}}, hub.specs.Replies.{numbers_from, circle_reply, refused_or}}
use Rattle.hub.specs.{Replies.answer_to, Serving.{due_to, number_put, numbers_put, made_reply}}
use Rattle.hub_state.specs.declared.request.Request.TheVariants as ask

-- ---- numbers

no_number : (n level : ℕ) (group : Option ℕ) (o : Option Tokens) → numbers_put (option_map_or (put_gate n level group) o []) ≡ []
no_number n level group None = refl
no_number n level group (Some p) = refl

no_numbers : (n : ℕ) (gates : List WantedGate) → numbers_put (flat_map (λ (g : WantedGate). made_at (put_gate n g.level g.group) g.path) gates) ≡ []
no_numbers n [] = refl
no_numbers n (g ∷ gs) =
    let rest = flat_map (λ (g : WantedGate). made_at (put_gate n g.level g.group) g.path) gs in
    filter_map-append number_put (made_at (put_gate n g.level g.group) g.path) rest
    ∙ ap (λ ns. ns ++ numbers_put rest) (no_number n g.level g.group (pointer_tokens g.path))
    ∙ no_numbers n gs

numbers_of : (source n : ℕ) (d : Distribution) (docs : List Lines) → numbers_put (put_incidents source n d docs) ≡ numbers_from n docs
numbers_of source n d [] = refl
numbers_of source n d (doc ∷ docs) =
    let rest = put_incidents source (n + 1) d docs in
    filter_map-append number_put (put_incident source n d doc) rest
    ∙ ap (λ ns. (n ∷ ns) ++ numbers_put rest) (no_numbers n d.gates)
    ∙ ap (λ ns. n ∷ ns) (numbers_of source (n + 1) d docs)

circle_numbers : (d : Directory) (a : Person) (f : Facts) (c : CircleCommand) → made_reply f (ask.Circle c) (map Row (rows_of (edit_of (next_in d c) a c))) ≡ circle_reply d c
circle_numbers d a f (AddOrg name) = refl
circle_numbers d a f (AddPerson org name role key) = refl
circle_numbers d a f (SuspendPerson person) = refl
circle_numbers d a f (AddClient org client) = refl
circle_numbers d a f (RemoveClient org client) = refl
circle_numbers d a f (AddCommunity name) = refl
circle_numbers d a f (Join community org) = refl
circle_numbers d a f (Leave community org) = refl
circle_numbers d a f (Link community other) = refl
circle_numbers d a f (Unlink community other) = refl
circle_numbers d a f (NewGroup name releasability) = refl
circle_numbers d a f (GroupAdd group org extend) = refl
circle_numbers d a f (GroupRemove group org) = refl
circle_numbers d a f (GroupActive group active) = refl
circle_numbers d a f (Arrange org handling) = refl
circle_numbers d a f (CancelArrange org) = refl
circle_numbers d a f (Nominate person) = refl
circle_numbers d a f (Unnominate person) = refl
circle_numbers d a f (NewKey key) = refl

-- ---- revisions

pub revision_fits : (s : State) (a : Person) (r : Request) → IsSound s → next_revision (known_of s r) < 2 ^ 32
revision_fits s a r sound = small (looked_up s (incident_asked r)) (there (incident_asked r))
  where
    there : (n : Option ℕ) (i : Incident) → looked_up s n ≡ Some i → i.naming.revision ≤ REVISION_LIMIT
    there None i h = cc
    there (Some n) i h = found_each (λ (j : Incident). j.naming.revision ≤ REVISION_LIMIT) (λ (j : Incident). j.naming.number == n) s.incidents i h sound.incidents.revisions

    small : (o : Option Incident) → ((i : Incident) → o ≡ Some i → i.naming.revision ≤ REVISION_LIMIT) → next_revision (option_map incident_facts o) < 2 ^ 32
    small None h = omega arith
    small (Some i) h = let low = h i refl in omega (arith, low)

-- the revision that the facts tell is that of the row
told_revision : (o : Option Incident) → option_map_or (λ (k : IncidentFacts). k.revision) (option_map incident_facts o) 0 ≡ option_map_or (λ (i : Incident). i.naming.revision) o 0
told_revision None = refl
told_revision (Some i) = refl

-- ---- the reply

pub reply_is : (s : State) (now : ℤ) (a : Person) (r : Request) → is_reading r ≡ false → made_reply (facts_of s a r) r (edits_of s a r) ≡ answer_to s now a r
reply_is s now a (ask.Circle command) h = circle_numbers s.directory a (facts_of s a (ask.Circle command)) command
reply_is s now a (ask.Post r) h = ap Numbers (numbers_of a.org (next_incident s) r.distribution (documents_in r.document))
reply_is s now a (ask.Replace r) h = ap (λ n. Revision (n + 1)) (told_revision (incident_of r.incident s))
reply_is s now a (ask.Redistribute r) h = refl
reply_is s now a (ask.Address r) h = refl
reply_is s now a (ask.Unaddress r) h = refl
reply_is s now a (ask.Grant r) h = refl
reply_is s now a (ask.Withdraw r) h = refl
reply_is s now a (ask.View n) h = absurd (true≢false h)
reply_is s now a (ask.Sharing n) h = absurd (true≢false h)
reply_is s now a (ask.Explain r) h = absurd (true≢false h)
reply_is s now a (ask.List after) h = absurd (true≢false h)
reply_is s now a (ask.Search r) h = absurd (true≢false h)
reply_is s now a (ask.Addressed after) h = absurd (true≢false h)
reply_is s now a ask.MyGroups h = absurd (true≢false h)
reply_is s now a ask.MyCommunities h = absurd (true≢false h)
reply_is s now a ask.WhoAmI h = absurd (true≢false h)

-- ---- one edit more

module _ (edits : List Edit) (i : ℕ) (edit : Edit) (old new : List ℕ) where
  pub number_more : i < length edits → edit ≡ get_or edits i edit → old ++ numbers_put (drop i edits) ≡ numbers_put edits → (n : ℕ) → number_put edit ≡ Some n → new ≡ old ++ n ∷ [] →
      new ++ numbers_put (drop (i + 1) edits) ≡ numbers_put edits
  number_more low is left n told grown =
      let D = numbers_put (drop (i + 1) edits) in
      let front : drop i edits ≡ edit ∷ drop (i + 1) edits = drop_more edits i edit low ∙ ap (λ x. x ∷ drop (i + 1) edits) (sym is) in
      ap (λ xs. xs ++ D) grown ∙ append_assoc old (n ∷ []) D
      ∙ ap (λ o. old ++ cons_option o D) (sym told)
      ∙ ap (λ es. old ++ numbers_put es) (sym front) ∙ left

  pub number_none : i < length edits → edit ≡ get_or edits i edit → old ++ numbers_put (drop i edits) ≡ numbers_put edits → number_put edit ≡ None → new ≡ old →
      new ++ numbers_put (drop (i + 1) edits) ≡ numbers_put edits
  number_none low is left told same =
      let D = numbers_put (drop (i + 1) edits) in
      let front : drop i edits ≡ edit ∷ drop (i + 1) edits = drop_more edits i edit low ∙ ap (λ x. x ∷ drop (i + 1) edits) (sym is) in
      ap (λ xs. xs ++ D) same
      ∙ ap (λ o. old ++ cons_option o D) (sym told)
      ∙ ap (λ es. old ++ numbers_put es) (sym front) ∙ left

-- ---- what a change settles

pub changed_reply : (s : State) (now : ℤ) (p : Person) (r : Request) (f : Facts) (edits : List Edit) (reply : Reply) → IsSound s → is_reading r ≡ false → f ≡ facts_of s p r → edits ≡ edits_by f p r →
    refusal_of s p r ≡ None → (next_revision f.incident < 2 ^ 32 → reply ≡ made_reply f r edits) → reply ≡ due_to s now p r
changed_reply s now p r f edits reply sound changes told is free made =
    let fits : next_revision f.incident < 2 ^ 32 = subst (λ (g : Facts). next_revision g.incident < 2 ^ 32) (sym told) (revision_fits s p r sound) in
    let all : edits ≡ edits_of s p r = is ∙ ap (λ (g : Facts). edits_by g p r) told ∙ same_edits s p r sound in
    made fits
    ∙ ap (λ (g : Facts). made_reply g r edits) told
    ∙ ap (made_reply (facts_of s p r) r) all
    ∙ reply_is s now p r changes
    ∙ ap (λ refusal. refused_or refusal (answer_to s now p r)) (sym free)
