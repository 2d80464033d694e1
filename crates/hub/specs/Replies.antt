-- The reply to a request.
use Rattle.std.specs.Prelude.{ℕ, ◌+◌, ℤ, Bool, ◌&&◌, List, [], ◌∷◌, map, filter, take, Option, Some, None, option_map, option_and_then, if◌then◌else◌}
use Rattle.std.specs.Option.{option_map_or}
use Rattle.circle.specs.Outcomes.{bare}
use Rattle.circle.specs.Aftermath.{next_in}
use Rattle.circle.specs.Directory.{Directory}
use Rattle.circle.specs.Reads.{person_of}
use Rattle.circle.specs.declared.refusal.Code.TheVariants.{K1, N1}
use Rattle.circle.specs.declared.refusal.Refusal.{Refusal}
use Rattle.circle.specs.declared.directory.Person.{Person}
use Rattle.circle.specs.declared.command.CircleCommand.{CircleCommand}
use Rattle.circle.specs.declared.command.CircleCommand.TheVariants.{AddOrg, AddPerson, AddCommunity, NewGroup}
use Rattle.iodef_tree.specs.Pointer.{pointer_tokens}
use Rattle.hub_core.specs.Documents.{Lines, documents_in}
use Rattle.hub_core.specs.State.{State, incident_of}
use Rattle.hub_core.specs.Aftermath.{next_incident}
use Rattle.hub_core.specs.Refusals.{refusal_of}
use Rattle.hub_core.specs.Reads.{person_by_key, entry_of, incidents_above, groups_of, joined_communities}
use Rattle.hub_state.specs.declared.state.Incident.{Incident}
use Rattle.hub_state.specs.declared.reply.Entry.{Entry}
use Rattle.hub_state.specs.declared.reply.View.{View as ViewOf}
use Rattle.hub_state.specs.declared.reply.Sharing.{Sharing as SharingOf}
use Rattle.hub_state.specs.declared.reply.Reply.{Reply}
use Rattle.hub_state.specs.declared.reply.Reply.TheVariants.{Done, Numbers, Revision, View, Incidents, Groups, Communities, Sharing, Caller, Trace, Refused}
use Rattle.hub_state.specs.declared.request.Request.{Request}
use Rattle.hub.specs.declared.TheConstants.{PAGE_LIMIT}
use Rattle.hub.specs.Told.{is_served, is_found, is_addressed, view_of, shared_at, trace_of}
use Rattle.hub.specs.declared.key.Key.{Key}
use Rattle.hub.specs.declared.key.Key.TheVariants.{Absent, Digest}
use Rattle.hub_state.specs.declared.request.Request.TheVariants as ask

-- ---- the caller

-- the person if it is active
abbrev pub if_active : Option Person → Option Person
if_active None = None
if_active (Some p) = if p.active then Some p else None

-- the active person with this key; none if there is no key, no such person, or the person is suspended
abbrev pub caller_of : State → Key → Option Person
caller_of s Absent = None
caller_of s (Digest key) = if_active (person_by_key key s)

-- ---- pages

-- a page: the first PAGE_LIMIT incidents above a number that pass a test
abbrev pub page_of : (Incident → Bool) → ℕ → State → List Entry
page_of test after s = take PAGE_LIMIT (map entry_of (filter test (incidents_above after s)))

-- ---- a change that is made

-- the reply to a command of the directory: the number of the new row if it has one, and otherwise Done
abbrev pub circle_reply : Directory → CircleCommand → Reply
circle_reply d (AddOrg name) = Numbers (next_in d (AddOrg name) ∷ [])
circle_reply d (AddPerson org name role key) = Numbers (next_in d (AddPerson org name role key) ∷ [])
circle_reply d (AddCommunity name) = Numbers (next_in d (AddCommunity name) ∷ [])
circle_reply d (NewGroup name releasability) = Numbers (next_in d (NewGroup name releasability) ∷ [])
circle_reply d _ = Done

-- a number for each document, from n on
abbrev pub numbers_from : ℕ → List Lines → List ℕ
numbers_from n [] = []
numbers_from n (doc ∷ docs) = n ∷ numbers_from (n + 1) docs

-- ---- a view

-- the refusal N1, as for a missing incident
abbrev pub nothing_for_you : Reply
nothing_for_you = Refused (bare N1)

-- the view, or N1 if there is none
abbrev pub view_or_nothing : Option ViewOf → Reply
view_or_nothing None = nothing_for_you
view_or_nothing (Some view) = View view

-- the reply to a View: an incident of which no class is visible is refused like a missing one
abbrev pub viewed : State → ℤ → Person → Option Incident → Reply
viewed s now p i = view_or_nothing (option_and_then (view_of s now p) i)

-- ---- what is shared of an own report

-- how the incident is shared, or N1 if there is none
abbrev pub sharing_or_nothing : Option SharingOf → Reply
sharing_or_nothing None = nothing_for_you
sharing_or_nothing (Some sharing) = Sharing sharing

-- ---- replies

-- the revision in the row of an incident; 0 if the incident is missing
abbrev pub revision_in : State → ℕ → ℕ
revision_in s n = option_map_or (λ (i : Incident). i.naming.revision) (incident_of n s) 0

-- the reply to a person's request if nothing refuses it
abbrev pub answer_to : State → ℤ → Person → Request → Reply
answer_to s now p (ask.Circle command) = circle_reply s.directory command
answer_to s now p (ask.Post r) = Numbers (numbers_from (next_incident s) (documents_in r.document))
answer_to s now p (ask.Replace r) = Revision (revision_in s r.incident + 1)
answer_to s now p (ask.Redistribute r) = Done
answer_to s now p (ask.Address r) = Done
answer_to s now p (ask.Unaddress r) = Done
answer_to s now p (ask.Grant r) = Done
answer_to s now p (ask.Withdraw r) = Done
answer_to s now p (ask.View n) = viewed s now p (incident_of n s)
answer_to s now p (ask.Sharing n) = sharing_or_nothing (option_map (shared_at s now) (incident_of n s))
answer_to s now p (ask.Explain r) =
    Trace (trace_of s now (person_of r.person s.directory) (incident_of r.incident s) (pointer_tokens r.path))
answer_to s now p (ask.List after) = Incidents (page_of (is_served s now p) after s)
answer_to s now p (ask.Search r) = Incidents (page_of (λ (i : Incident). is_found s now p i r.needle r.class) r.after s)
answer_to s now p (ask.Addressed after) =
    Incidents (page_of (λ (i : Incident). is_addressed s now p i && is_served s now p i) after s)
answer_to s now p ask.MyGroups = Groups (groups_of p s)
answer_to s now p ask.MyCommunities = Communities (joined_communities p s)
answer_to s now p ask.WhoAmI = Caller p

-- the refusal if there is one, and otherwise the reply
abbrev pub refused_or : Option Refusal → Reply → Reply
refused_or (Some refusal) reply = Refused refusal
refused_or None reply = reply

-- the reply to a person's request, and K1 if there is no person
abbrev pub reply_by : State → ℤ → Option Person → Request → Reply
reply_by s now None request = Refused (bare K1)
reply_by s now (Some p) request = refused_or (refusal_of s p request) (answer_to s now p request)

-- the reply that is due to a request in a state, at a moment, with this key
abbrev pub reply_of : State → ℤ → Key → Request → Reply
reply_of s now key request = reply_by s now (caller_of s key) request
