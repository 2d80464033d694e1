-- How an incident is shared, and how many rows of it there would be after a request.
use Rattle.std.specs.Prelude.{ℕ, [], Option, Some, None}
use Rattle.iodef_tree.specs.Text.{Tokens}
use Rattle.iodef_tree.specs.Pointer.{pointer_tokens}
use Rattle.circle.specs.declared.directory.Person.{Person}
use Rattle.hub_state.specs.Facts.{gates_then, recipients_then, permissions_then}
use Rattle.hub_state.specs.Reads.{its_gates, its_permissions, its_recipients}
use Rattle.hub_state.specs.State.{State, class_gates, recipients_of, permissions_of}
use Rattle.hub_state.specs.declared.counts_then.Counts.{Counts}
use Rattle.hub_state.specs.declared.request.Request.{Request}
use Rattle.hub_state.specs.declared.sharing.Sharing.{Sharing}
use Rattle.hub_state.specs.declared.request.Request.TheVariants as ask

-- how the incident of this number is shared
abbrev pub sharing_named : ℕ → State → Sharing
sharing_named n s = record { gates = its_gates n s.gates; recipients = its_recipients n s.recipients; permissions = its_permissions n s.permissions }

-- how the incident of an optional number is shared; nothing if there is none
abbrev pub sharing_asked : Option ℕ → State → Sharing
sharing_asked None s = record { gates = []; recipients = []; permissions = [] }
sharing_asked (Some n) s = sharing_named n s

-- the path of the gate or permission that the request would put or take out, if its text is a pointer
abbrev pub path_asked : Request → Option Tokens
path_asked (ask.Redistribute r) = pointer_tokens r.path
path_asked (ask.Grant r) = pointer_tokens r.path
path_asked (ask.Withdraw r) = pointer_tokens r.path
path_asked _ = None

-- ---- counts

-- how many class gates, recipients and permissions an incident has
abbrev pub counts_of : ℕ → State → Counts
counts_of n s = record { gates = class_gates n s.gates; recipients = recipients_of n s.recipients; permissions = permissions_of n s.permissions }

-- how many of each there would be after the request
abbrev pub counts_in : State → Person → Request → Counts
counts_in s a r = record { gates = gates_then s a r; recipients = recipients_then s a r; permissions = permissions_then s a r }
