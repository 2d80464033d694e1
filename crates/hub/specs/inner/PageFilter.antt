-- Which incidents a page lists.
use Rattle.std.specs.Prelude.{ℕ, ℤ, Bool, false, not, ◌&&◌, ◌||◌, ◌-◌, List, length, slice_get, Option, option_map, is_some}
use Rattle.std.specs.List.{list_any}
use Rattle.std.specs.Option.{option_map_or}
use Rattle.iodef_tree.specs.Text.{is_root}
use Rattle.policy.specs.Gates.{refusal_of_gate}
use Rattle.policy.specs.declared.gate.Gate.{Gate}
use Rattle.policy.specs.declared.standing.Standing.{Standing}
use Rattle.policy.specs.declared.case.Case.{Case}
use Rattle.redact.specs.Wants.{meets}
use Rattle.circle.specs.declared.directory.Person.{Person}
use Rattle.hub_core.specs.Documents.{Lines}
use Rattle.hub_core.specs.State.{State, incident_of}
use Rattle.hub_core.specs.Reads.{case_for}
use Rattle.hub_state.specs.declared.state.Incident.{Incident}
use Rattle.hub_state.specs.declared.reply.Entry.{Entry}
use Rattle.hub.specs.Told.{standing_at}
use Rattle.hub.specs.declared.page_filter.PageFilter.{PageFilter}

-- the standing doesn't keep the incident off the page
abbrev pub admits : PageFilter → Standing → Bool
admits w st = not w.addressed || (st.person || st.addressed)

-- the gate is at the root and refuses the reader
abbrev pub shuts_out : Standing → Gate → Bool
shuts_out st g = is_root g.path && is_some (refusal_of_gate st g)

-- a gate at the root refuses the reader, who isn't of the source
abbrev pub is_shut_out : Case → Standing → Bool
is_shut_out c st = not st.source && list_any (shuts_out st) c.gates

-- a page with this filter lists a report, for a reader of this standing
abbrev pub passes_filter : PageFilter → Lines → Case → Standing → Bool
passes_filter w doc c st = admits w st && meets w.want.now doc c st

-- the page lists the incident
abbrev pub is_wanted : State → ℤ → Person → PageFilter → Incident → Bool
is_wanted s now p w i = passes_filter w i.document (case_for s i) (standing_at s now p i)

-- the page lists the incident of this number, which is there
abbrev pub is_wanted_at : State → ℤ → Person → PageFilter → ℕ → Bool
is_wanted_at s now p w n = option_map_or (is_wanted s now p w) (incident_of n s) false

-- the number of the last entry
abbrev pub number_at_end : List Entry → Option ℕ
number_at_end es = option_map (λ (e : Entry). e.number) (slice_get es (length es - 1))
