-- How a person is served, in parts.
use Rattle.std.specs.Prelude.{◌≡◌, ◌⊎◌, ◌<◌, ◌≤◌, ◌↔◌, ℕ, ℤ, Bool, true, false, List, Option, Some, None, Result, Ok, Err, IsTrue, IfOk, IsErrOf, if◌then◌else◌}
use Rattle.std.specs.List.{filter_map}
use Rattle.circle.specs.declared.directory.Person.{Person}
use Rattle.circle.specs.declared.command.CircleCommand.TheVariants.{AddOrg, AddPerson, AddCommunity, NewGroup}
use Rattle.circle.specs.declared.command.RowEdit.TheVariants.{PutOrg, PutAccount, PutCommunity, PutGroup}
use Rattle.hub_core.specs.State.{State}
use Rattle.hub_core.specs.Refusals.{refusal_of}
use Rattle.hub_core.specs.Judgement.{next_revision}
use Rattle.hub_core.specs.Laws.{is_reading}
use Rattle.hub_state.specs.declared.edit.Edit.{Edit}
use Rattle.hub_state.specs.declared.edit.Edit.TheVariants.{Directory, PutIncident}
use Rattle.hub_state.specs.declared.facts.Facts.{Facts}
use Rattle.hub_state.specs.declared.reply.Reply.{Reply}
use Rattle.hub_state.specs.declared.reply.Reply.TheVariants.{Done, Numbers, Revision, Incidents}
use Rattle.hub_state.specs.declared.request.Request.{Request}
use Rattle.hub_state.specs.declared.request.Search.{Search}
use Rattle.hub_state.specs.declared.shelf.ShelfFault.{ShelfFault}
use Rattle.hub_state.specs.declared.shelf.ShelfFault.TheVariants.{Failed}
use Rattle.hub_core.specs.Shelves.{HasFailed}
use Rattle.circle.specs.declared.refusal.Refusal.{Refusal}
use Rattle.hub_state.specs.declared.state.Incident.{Incident}
use Rattle.hub.specs.Told.{is_found}
use Rattle.hub.specs.Replies.{page_of, refused_or, answer_to}
use Rattle.hub_state.specs.declared.request.Request.TheVariants as ask

-- the reply that is due to a person's request
abbrev pub due_to : State → ℤ → Person → Request → Reply
due_to s now p request = refused_or (refusal_of s p request) (answer_to s now p request)

-- the reply that is due to a person's request if it only reads, and none otherwise
abbrev pub read_by : State → ℤ → Person → Request → Option Reply
read_by s now p request = if◌then◌else◌ (is_reading request) (Some (due_to s now p request)) None

-- the page of a search, or its refusal
abbrev pub searched : Option Refusal → State → ℤ → Person → Search → Reply
searched refusal s now p r =
    refused_or refusal (Incidents (page_of (λ (i : Incident). is_found s now p i r.needle r.class) r.after s))

-- the number of the row that an edit puts, if the reply to its request has such numbers
abbrev pub number_put : Edit → Option ℕ
number_put (PutIncident i) = Some i.naming.number
number_put (Directory (PutOrg o)) = Some o.number
number_put (Directory (PutAccount a)) = Some a.person.number
number_put (Directory (PutCommunity c)) = Some c.number
number_put (Directory (PutGroup g)) = Some g.number
number_put _ = None

-- the numbers of the rows that the edits put
abbrev pub numbers_put : List Edit → List ℕ
numbers_put edits = filter_map number_put edits

-- the reply to the request has the numbers of the new rows
abbrev pub gives_numbers : Request → Bool
gives_numbers (ask.Post r) = true
gives_numbers (ask.Circle (AddOrg name)) = true
gives_numbers (ask.Circle (AddPerson org name role key)) = true
gives_numbers (ask.Circle (AddCommunity name)) = true
gives_numbers (ask.Circle (NewGroup name releasability)) = true
gives_numbers _ = false

-- the reply to a change that these edits make
abbrev pub made_reply : Facts → Request → List Edit → Reply
made_reply f (ask.Replace r) edits = Revision (next_revision f.incident)
made_reply f request edits = if◌then◌else◌ (gives_numbers request) (Numbers (numbers_put edits)) Done

-- the reply says that a change was made
abbrev pub is_made : Reply → Bool
is_made Done = true
is_made (Numbers numbers) = true
is_made (Revision revision) = true
is_made _ = false

-- the result is a reply that says that a change was made
abbrev pub is_made_by : Result Reply ShelfFault → Bool
is_made_by (Ok reply) = is_made reply
is_made_by (Err fault) = false

-- The call returns the reply that is due and leaves this content, or it fails and leaves the content as it was.
abbrev pub Settles : (State → Type 0) → State → Reply → State → Result Reply ShelfFault → Type 0
Settles has s due after (Ok reply) = (reply ≡ due) × has after
Settles has s due after (Err fault) = has s

-- what a call returns, what it leaves, and what a crash at that moment may leave
pub record IsDoneAsDue {D : Type 0} (has : D → State → Type 0) (may_remain : D → Option State → Type 0) (old new : D) (s : State) (due : Reply) (after : State) (result : Result Reply ShelfFault) : Type 0 where
  pub settled : Settles (has new) s due after result
  -- after a change that was made a crash may leave what the request leaves, and nothing else
  pub durable : IfOk result (λ reply. IsTrue (is_made reply) →
      (left : Option State) → may_remain new left ↔ (left ≡ Some after))
  -- a crash may leave what it could have left before, or, if a change is due, what the request leaves
  pub crash : (left : Option State) → may_remain new left →
      may_remain old left ⊎ (IsTrue (is_made due) × (left ≡ Some after))

-- Counts don't fall. A call that counts a failure returns Failed, which is returned only if one was counted.
pub record IsCounted {D T : Type 0} (doubts failed : D → ℕ) (old new : D) (result : Result T ShelfFault) : Type 0 where
  pub later : failed old ≤ failed new
  pub doubt : doubts old ≤ doubts new
  pub cause : IsErrOf result Failed → HasFailed (failed old) (failed new)
  pub counted : failed old < failed new → result ≡ Err Failed
