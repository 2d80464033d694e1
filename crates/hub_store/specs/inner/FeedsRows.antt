-- A pass that reads the lines of an incident from the rows of a query, one at a time.
use Rattle.std.specs.Prelude.{◌≡◌, ℕ, [], ◌∷◌, ◌++◌, None, unwrap_or}
use Rattle.sqlite_value.specs.Order.{Row}
use Rattle.iodef_tree.specs.declared.line.Line.{Line}
use Rattle.redact.specs.Feeding.{PassState}
use Rattle.hub_state.specs.Documents.{Lines}
use Rattle.hub_state.specs.Reads.{document_of}
use Rattle.hub_state.specs.State.{State}
use Rattle.hub_store.specs.inner.Shown.{ShowsPlaced}

-- no line came yet
abbrev pub IsUnfed : PassState → Type 0
IsUnfed pass = pass.fed ≡ record { lines = []; fault = None }

-- more lines came, none with a fault
pub record HasTaken (old new : PassState) : Type 0 where
  pub case : new.case ≡ old.case
  pub standing : new.standing ≡ old.standing
  pub unfaulted : new.fed.fault ≡ None

-- one more line came, which the row shows at this place
pub record TakesRow (old : PassState) (place : ℕ) (row : Row) (new : PassState) : Type 0 where
  pub takes : HasTaken old new
  pub line : Line
  pub shown : ShowsPlaced row (record { place = place; line = line })
  pub lines : new.fed.lines ≡ old.fed.lines ++ line ∷ []

-- the lines of the incident's document; none if it is missing
abbrev pub lines_of : ℕ → State → Lines
lines_of n s = unwrap_or (document_of n s) []
