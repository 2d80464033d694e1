-- The tables that a migration fills beside the others: the lines, the incidents, the permissions.
use Rattle.std.specs.Prelude.{◌≡◌, ◌<◌, ◌^◌, ℕ, suc, pos, Bool, false, List, [], ◌∷◌, ◌++◌, length}
use Rattle.std.specs.List.{AllByRecursion}
use Rattle.sqlite_value.specs.declared.value.Value.TheVariants.{Null, Int}
use Rattle.sqlite_value.specs.Keys.{plain}
use Rattle.std.specs.Ordering.{is_eq}
use Rattle.sqlite_value.specs.Order.{Row, value_cmp}
use Rattle.sqlite_trees.specs.Tree.{IsAscending, rowid}
use Rattle.sqlite_schema.specs.Rules.{agree}
use Rattle.sqlite.specs.Effect.{Database}
use Rattle.hub_state.specs.State.{State}
use Rattle.hub_store.specs.Items.{item_row}
use Rattle.hub_state.specs.declared.state.Naming.{Naming}
use Rattle.hub_state.specs.declared.state.Permission.{Permission}
use Rattle.hub_store.specs.Rows.{naming_row_2, endless_row, without_end}
use Rattle.hub_store.specs.Fit.{ShortItem, IsShort}
use Rattle.hub_store.specs.Layout.{with_items, item_part}
use Rattle.hub_store.specs.Parts.{HoldsParts}

-- the rowids count on from a number without a gap
abbrev pub AreNumbered : ℕ → List Row → Type 0
AreNumbered n [] = Unit {0}
AreNumbered n (r ∷ rows) = (rowid r ≡ Int (pos n)) × AreNumbered (suc n) rows

-- these lines beside all tables of version 1, with rowids from 1
pub record HoldsBeside (items : List Row) (s : State) (db : Database) : Type 0 where
  pub parts : HoldsParts (with_items items s) db
  pub numbered : AreNumbered 1 (db.trees (item_part items).table.tree)

-- two rows have equal values in these columns, as SQL compares them
abbrev pub alike : List ℕ → Row → Row → Bool
alike columns a b = agree plain columns a columns b

-- two rows are not alike in these columns
abbrev pub Unlike : List ℕ → Row → Row → Type 0
Unlike columns a b = (alike columns a b ≡ false) × (alike columns b a ≡ false)

-- the row is that of an element that SQLite takes
abbrev pub IsRowOf : {X : Type 0} → (X → Row) → (X → Type 0) → Row → Type 0
IsRowOf {X} kept IsTaken row = (x : X) × (row ≡ kept x) × IsTaken x

-- A table takes these rows: each two are apart, and each is one that SQLite takes.
pub record CanHold (AreApart : Row → Row → Type 0) (IsOne : Row → Type 0) (rows : List Row) : Type 0 where
  pub apart : IsAscending AreApart rows
  pub each : AllByRecursion IsOne rows

-- the same, and the rowids suffice
abbrev pub CanNumber : (Row → Row → Type 0) → (Row → Type 0) → List Row → Type 0
CanNumber AreApart IsOne rows = CanHold AreApart IsOne rows × (length rows < 2 ^ 62)

-- The table takes these lines: each has a place of its own.
abbrev pub CanStand : List Row → Type 0
CanStand = CanNumber (Unlike (0 ∷ 1 ∷ [])) (IsRowOf item_row ShortItem)

-- ---- the table of the incidents, while it is filled again

-- two rows have different numbers
abbrev pub NumbersApart : Row → Row → Type 0
NumbersApart a b = (is_eq (value_cmp (rowid a) (rowid b)) ≡ false) × (is_eq (value_cmp (rowid b) (rowid a)) ≡ false)

-- two rows have different numbers, and are not alike in these columns
abbrev pub NumberedApart : List ℕ → Row → Row → Type 0
NumberedApart columns a b = NumbersApart a b × Unlike columns a b

-- SQLite takes the row of the incident, as a version keeps it
abbrev pub ShortNamingAs : (Naming → Row) → Naming → Type 0
ShortNamingAs kept k = IsShort (kept k) × (k.number < 2 ^ 63)

-- The table of a version takes these incidents: no two have one number, or the same source and ident.
abbrev pub CanName : (Naming → Row) → List Row → Type 0
CanName kept = CanHold (NumberedApart (2 ∷ 3 ∷ [])) (IsRowOf kept (ShortNamingAs kept))

-- the row of an incident that names no community, as version 4 keeps it
abbrev pub unnamed_row : Naming → Row
unnamed_row k = naming_row_2 k ++ Null ∷ []

-- ---- the table of the permissions, while it is filled again

-- the row of a permission without an end, as version 3 keeps it
abbrev pub ending_row : Permission → Row
ending_row x = without_end (endless_row x)

-- The table takes these permissions: they differ in incident, path, kind or target.
abbrev pub CanGrant : List Row → Type 0
CanGrant = CanNumber (Unlike (0 ∷ 1 ∷ 2 ∷ 3 ∷ [])) (IsRowOf ending_row (λ x. IsShort (Null ∷ ending_row x)))
