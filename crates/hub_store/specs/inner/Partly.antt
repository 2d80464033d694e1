-- A state between two statements of one edit.
use Rattle.std.specs.Prelude.{ℕ, not, ◌==◌, filter}
use Rattle.hub_state.specs.State.{State}
use Rattle.hub_state.specs.declared.state.Gate.{Gate}

-- the state without the gates of an incident
abbrev pub without_gates : ℕ → State → State
without_gates n s = record s { gates = filter (λ (g : Gate). not (g.incident == n)) s.gates }
