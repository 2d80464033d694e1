-- What an open finds of what a stop left.
use Rattle.std.specs.Prelude.{◌≡◌, Option, IfSome}
use Rattle.sqlite_trees.specs.Tree.{Trees}
use Rattle.sqlite.specs.Held.{Held, state}
use Rattle.sqlite.specs.State.{State, IsLive, Opens}
use Rattle.hub_store.specs.Content.{Has, IsMeaning, MayLeave}
use Rattle.sqlite_trees.specs.declared.store.Store as store
use Rattle.hub_state.specs.State as core

-- a connection that was just opened finds these trees
pub record FindsTrees (c : State) (db : Trees) : Type 0 where
  pub opens : Opens c
  pub live : IsLive c
  pub trees : c.committed.trees ≡ db

-- One connection finds what a stop of another one left. That is among what could be left there, and if it stands for a
-- state, the connection that finds it has that state.
abbrev pub WhatIsLeftIsFound : {S T : Type 0} → store.Ghosts S → store.Ghosts T → Type 0
WhatIsLeftIsFound {S} {T} g h =
    (old : Held S) (new : Held T) (db : Trees) (left : Option core.State) → (state g old).may_leave db →
    FindsTrees (state h new) db → IsMeaning db left
    → MayLeave (state g old) left × IfSome left (Has (state h new))
