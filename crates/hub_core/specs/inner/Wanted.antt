-- A gate at a class, as the request asks for it and as the edit puts it.
use Rattle.std.specs.Prelude.{ℕ}
use Rattle.iodef_tree.specs.Pointer.{pointer_text}
use Rattle.policy.specs.declared.gate.Gate.{Gate}
use Rattle.hub_state.specs.declared.edit.Edit.{Edit}
use Rattle.hub_state.specs.declared.edit.Edit.TheVariants.{PutGate}
use Rattle.hub_state.specs.declared.request.WantedGate.{WantedGate}

-- the gate as a request asks for it, with its path as a pointer
abbrev pub asked_as : Gate → WantedGate
asked_as g = record { level = g.level; group = g.group; path = pointer_text g.path }

-- the edit that puts the gate at an incident
abbrev pub put_at : ℕ → Gate → Edit
put_at n g = PutGate (record { incident = n; gate = g })
