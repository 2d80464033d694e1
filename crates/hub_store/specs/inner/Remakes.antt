-- Making a table anew by four texts: what each text does, for any list of parts.
use Rattle.std.specs.Prelude.{◌≡◌, ◌≢◌, ℕ, List, [], ◌∷◌, ◌++◌, map, None, Ok, Err, IsTrue, IsPermutation}
use Rattle.sqlite_value.specs.Order.{Row}
use Rattle.sqlite_rules.specs.Lists.{Has}
use Rattle.sqlite_catalog.specs.Change.{next_tree}
use Rattle.sqlite.specs.declared.error.Error.{Error}
use Rattle.sqlite.specs.declared.error.Error.TheVariants.{SqliteFailure}
use Rattle.sqlite.specs.Effect.{Database}
use Rattle.sqlite.specs.Held.{Held, state}
use Rattle.sqlite.specs.State.{IsUnchanged, Executes, ExecutesInside}
use Rattle.sqlite.specs.Values.{bound_value}
use Rattle.hub_store.specs.declared.remake.Texts.{Texts}
use Rattle.hub_store.specs.Failing.{HasReason}
use Rattle.hub_store.specs.Layout.{Step, apart_from, made_anew, under}
use Rattle.hub_store.specs.Parts.{Part, schema_of, are_beside, HoldsParts}
use Rattle.hub_store.specs.inner.Beside.{AreNumbered}
use Rattle.hub_store.specs.inner.Queries.{HasShown, HasRefused}
use Rattle.sqlite_trees.specs.declared.store.Store as store
use Rattle.sqlite.specs.declared.error.ErrorCode.TheVariants as code

-- the texts of a step
pub record StepTexts : Type 0 where
  pub read : List ℕ
  pub drop : List ℕ
  pub create : List ℕ
  pub put : List ℕ

-- the bytes of the texts
abbrev pub told : Texts → StepTexts
told texts = record { read = texts.read.now; drop = texts.drop.now; create = texts.create.now; put = texts.put.now }

-- running the text where `Before` holds leaves `After`
abbrev pub Leaves : {S : Type 0} → store.Ghosts S → List ℕ → Row → (Before After : Database → Type 0) → Type 0
Leaves {S} g text params Before After =
    (old new : Held S) → (count : ℕ) → Executes text params (state g old) (state g new) (Ok count) →
    Before (state g old).now → After (state g new).now

-- running it where this holds fails only for a reason or for want of memory
abbrev pub FailsForReason : {S : Type 0} → store.Ghosts S → List ℕ → Row → (Before : Database → Type 0) → Type 0
FailsForReason {S} g text params Before =
    (old new : Held S) → (e : Error) → ExecutesInside 0 text params (state g old) (state g new) (Err e) →
    Before (state g old).now → e ≢ SqliteFailure code.OutOfMemory → HasReason (state g old) (state g new)

-- asking the query where this holds changes nothing and shows these rows, in some order
abbrev pub ShowsOf : {S : Type 0} → store.Ghosts S → List ℕ → (Before : Database → Type 0) → List Row → Type 0
ShowsOf {S} g text Before rows =
    (old new : Held S) → (found : List Row) → HasShown g text [] old new found → Before (state g old).now →
    IsUnchanged (state g old) (state g new) × IsPermutation rows found

-- asking it where this holds fails only for a reason or for want of memory
abbrev pub IsRefusedForReason : {S : Type 0} → store.Ghosts S → List ℕ → (Before : Database → Type 0) → Type 0
IsRefusedForReason {S} g text Before =
    (old new : Held S) → (e : Error) → HasRefused g text [] old new e → Before (state g old).now →
    e ≢ SqliteFailure code.OutOfMemory → HasReason (state g old) (state g new)

-- ---- the table of a step, made anew among these parts

-- The new table holds these rows. If its rows have no number of their own, the rowids count from 1.
pub record HoldsAnew (step : Step) (rows : List Row) (ps : List Part) (db : Database) : Type 0 where
  pub parts : HoldsParts (made_anew step rows ps) db
  pub numbered : step.table.key ≡ None → AreNumbered 1 (db.trees (next_tree (schema_of (apart_from step.table.name ps))))

-- the old table is dropped, and the new one made without a row
pub record MakeAnew {S : Type 0} (g : store.Ghosts S) (texts : StepTexts) (step : Step) (ps : List Part) : Type 0 where
  pub drops : Leaves g texts.drop [] (HoldsParts ps) (HoldsParts (apart_from step.table.name ps))
  pub creates : Leaves g texts.create [] (HoldsParts (apart_from step.table.name ps)) (HoldsAnew step [] ps)
  pub undropped : FailsForReason g texts.drop [] (HoldsParts ps)
  pub uncreated : FailsForReason g texts.create [] (HoldsParts (apart_from step.table.name ps))

-- each of these rows can be put, and is kept as the step keeps it
abbrev pub PutsEach : {S : Type 0} → store.Ghosts S → List ℕ → Step → List Row → List Part → Type 0
PutsEach g text step rows ps =
    (row : Row) → Has rows row → (held : List Row) →
    Leaves g text (map bound_value row) (HoldsAnew step held ps) (HoldsAnew step (step.row row ∷ held) ps)

-- with some of these rows put, one more fails only for a reason
abbrev pub TakesEach : {S : Type 0} → store.Ghosts S → List ℕ → Step → List Row → List Part → Type 0
TakesEach g text step rows ps =
    (row : Row) → (held rest : List Row) → IsPermutation (row ∷ held ++ rest) rows →
    FailsForReason g text (map bound_value row) (HoldsAnew step (map step.row held) ps)

-- The texts lead from parts under one version to the same parts under another, with the table made anew of these rows.
pub record Remakes {S : Type 0} (g : store.Ghosts S) (texts : StepTexts) (step : Step) (before version : ℕ) (ps : List Part) (rows : List Row) : Type 0 where
  pub beside : IsTrue (are_beside 0 ps)
  pub reads : ShowsOf g texts.read (HoldsParts (under before ps)) rows
  pub unread : IsRefusedForReason g texts.read (HoldsParts (under before ps))
  pub makes : MakeAnew g texts step (under version ps)
  pub puts : PutsEach g texts.put step rows (under version ps)
