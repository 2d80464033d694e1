use Rattle.{std.proofs.Common.{◌≡◌, map, take}, hub_state.specs.Reads.entry_of}
use Rattle.hub_state.proofs.of_incident.entries_of.Given as goal

abbrev pub invariant-loop-incident : goal.invariant-loop-incident
invariant-loop-incident l = l.entries.items ≡ map entry_of (take l.incident-index l.incidents)
