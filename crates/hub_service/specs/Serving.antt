-- What serving connections leaves, and what is printed for one that wasn't served to its end.
use Rattle.std.specs.Prelude.{ℕ, ◌≤◌, List, length, Option, codes}
use Rattle.iodef_tree.specs.Text.{Bytes}
use Rattle.hub_core.specs.State.{State}
use Rattle.hub_core.specs.Sound.{IsSound}
use Rattle.hub_state.specs.declared.reply.Reply.{Reply}
use Rattle.hub.specs.Machine.{Asked, IsRun}
use Rattle.hub.specs.Stops.{MayBeLeft}
use Rattle.hub_http.specs.declared.serve.ServeFault.{ServeFault}
use Rattle.hub_http.specs.declared.serve.ServeFault.TheVariants.{Truncated, ReadFailed, WriteFailed, NoMemory}

-- From whatever sound state the hub had, what was asked of it is a run of at most `most` requests. If everything stops
-- after it, what may be left is what may be left after that run.
abbrev pub HasRun : {D : Type 0} → (D → State → Type 0) → (D → Option State → Type 0) → D → D → ℕ → Type 0
HasRun has may_remain old new most = (s : State) → has old s → IsSound s
    → (asked : List Asked) × (replies : List Reply) × (end : State) × (length asked ≤ most) ×
    IsRun s asked replies end × has new end ×
    ((left : Option State) → may_remain new left → MayBeLeft (may_remain old) s asked replies left)

-- the name of the fault of a connection, as it is printed
abbrev pub fault_told : ServeFault → Bytes
fault_told Truncated = codes "Truncated"
fault_told ReadFailed = codes "ReadFailed"
fault_told WriteFailed = codes "WriteFailed"
fault_told NoMemory = codes "NoMemory"
