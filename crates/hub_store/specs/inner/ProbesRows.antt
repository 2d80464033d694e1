-- A search that reads the lines of an incident from the rows of a query, one at a time, until its result is sure.
use Rattle.std.specs.Prelude.{◌≡◌, ℕ, Bool, true, false, [], ◌∷◌, ◌++◌, None}
use Rattle.sqlite_value.specs.Order.{Row}
use Rattle.iodef_tree.specs.declared.line.Line.{Line}
use Rattle.redact.specs.Probed.{ProbeState, IsSure}
use Rattle.hub_state.specs.Documents.{Lines}
use Rattle.hub_state.specs.State.{State}
use Rattle.hub_store.specs.inner.FeedsRows.{lines_of}
use Rattle.hub_store.specs.inner.Shown.{ShowsPlaced}

-- no line came yet, and nothing is sure
pub record IsUnprobed (probe : ProbeState) : Type 0 where
  pub fed : probe.fed ≡ record { lines = []; fault = None }
  pub met : probe.met ≡ false

-- More lines came, none with a fault. After true the result is sure.
pub record HasProbed (old new : ProbeState) : Type 0 where
  pub case : new.case ≡ old.case
  pub standing : new.standing ≡ old.standing
  pub want : new.want ≡ old.want
  pub unfaulted : new.fed.fault ≡ None
  pub sure : new.met ≡ true → IsSure new.want new.fed.lines new.case new.standing

-- one more line came, which the row shows at this place
pub record ProbesRow (old : ProbeState) (place : ℕ) (row : Row) (answer : Bool) (new : ProbeState) : Type 0 where
  pub probes : HasProbed old new
  pub answers : answer ≡ new.met
  pub line : Line
  pub shown : ShowsPlaced row (record { place = place; line = line })
  pub lines : new.fed.lines ≡ old.fed.lines ++ line ∷ []

-- the lines that came are the first of the document's, and all of them unless true was returned
pub record AreFirst (n : ℕ) (s : State) (probe : ProbeState) : Type 0 where
  pub others : Lines
  pub lines : lines_of n s ≡ probe.fed.lines ++ others
  pub all : probe.met ≡ false → others ≡ []
