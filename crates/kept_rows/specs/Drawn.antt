-- The sketches that are kept of documents.
use Rattle.std.specs.Prelude.{◌≡◌, ◌⊎◌, ℕ, nat_eq, List, [], ◌∷◌, if◌then◌else◌, Option, Some, None, IfSome}
use Rattle.std.specs.HashMap.{get}
use Rattle.sketch.specs.Sketched.{IsSketchOf}
use Rattle.sketch.specs.declared.sketch.Sketch.{Sketch}
use Rattle.hub_state.specs.Documents.{Lines}
use Rattle.hub_state.specs.State.{State}
use Rattle.hub_state.specs.Sound.{IsSound}
use Rattle.hub_state.specs.Bare.{bare}
use Rattle.hub_state.specs.declared.state.Incident.{Incident}
use Rattle.kept_rows.specs.declared.seen.Seen.{Seen}
use Rattle.kept_rows.specs.declared.sketches.Sketches.{Sketches}
use Rattle.kept_rows.specs.Seen.{IsSeen}

-- the sketch that is kept of the document of the incident with this number
abbrev pub kept : Sketches → ℕ → Option Sketch
kept s n = get nat_eq s.drawn n

-- the sketch is of the document of one of these incidents, which has the number
abbrev pub IsDrawn : List Incident → ℕ → Sketch → Type 0
IsDrawn [] n k = ⊥
IsDrawn (i ∷ is) n k = ((i.naming.number ≡ n) × IsSketchOf k i.document) ⊎ IsDrawn is n k

-- each sketch is of an incident that is there
abbrev pub AreDrawn : Sketches → State → Type 0
AreDrawn sketches s = (n : ℕ) (k : Sketch) → kept sketches n ≡ Some k → IsDrawn s.incidents n k

-- the sketches are those of before, but perhaps that under this number, which is of this document if there is one
abbrev pub DrawsOnly : ℕ → Lines → Sketches → Sketches → Type 0
DrawsOnly m doc old new = (n : ℕ) →
    (kept new n ≡ kept old n) ⊎ ((m ≡ n) × IfSome (kept new n) (λ k. IsSketchOf k doc))

-- the sketches are those of before without the one under this number
abbrev pub LetsGo : ℕ → Sketches → Sketches → Type 0
LetsGo m old new = (n : ℕ) → kept new n ≡ (if nat_eq m n then None else kept old n)

-- The rows are those of the state without its documents, the sketches are of its documents, what is kept of a person is
-- so by the rows, and the state is sound.
pub record Keeps (rows : State) (sketches : Sketches) (seen : Option Seen) (s : State) : Type 0 where
  pub same : rows ≡ bare s
  pub drawn : AreDrawn sketches s
  pub person : IfSome seen (λ k. IsSeen k rows)
  pub sound : IsSound s
