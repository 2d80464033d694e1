-- Between two statements of an edit of an incident.
use Rattle.{std.proofs.Common.{map, Result}, sqlite.specs.{Effect.Database, State.State, declared.error.Error.Error}, hub_store.proofs.Edits.Steps.on_ok}
use Rattle.hub_store.specs.{Items.{items_of, item_row}, Means.{Holds, HoldsBetween}, Rows.named_row, inner.Makes.Makes}
use Rattle.hub_state.specs.State as core

-- the tables of a state are those with its own lines and incidents
pub as_between : (db : Database) (s : core.State) → Holds db s → HoldsBetween (map item_row (items_of s)) (map named_row s.incidents) db s
as_between db s held = record { known = held.known; whole = held.whole; means = held.means; fit = held.fit }

pub makes_from : {T : Type 0} {old new : State} {P Q R : Database → Type 0} {result : Result T Error} → ((db : Database) → P db → Q db) → Makes old new Q R result → Makes old new P R result
makes_from weaker one = record { goes = one.goes; made = λ clean inside before. one.made clean inside (weaker _ before) }

pub makes_to : {T : Type 0} {old new : State} {P Q R : Database → Type 0} {result : Result T Error} → ((db : Database) → Q db → R db) → Makes old new P Q result → Makes old new P R result
makes_to {new = new} {Q = Q} {R = R} {result = result} weaker one = record { goes = one.goes; made = λ clean inside before. on_ok result (Q new.now) (R new.now) (λ h. weaker new.now h) (one.made clean inside before) }
