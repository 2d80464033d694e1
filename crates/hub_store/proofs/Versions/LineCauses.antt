-- An INSERT of lines beside the tables of version 1 fails only for a limit on steps.
use Rattle.std.proofs.Common.{◌≡◌, ◌≢◌, ℕ, ◌+◌, ◌*◌, ◌<◌, ◌^◌, pos, zero, suc, is_some, List, [], ◌∷◌, ◌++◌, map, length, true, Ok, Err, refl, arith}
use Rattle.{std.{proofs.lemmas.Bool.lt-ltb, specs.List.AllByRecursion}, sqlite_value.specs.{Order.{Row, column}, declared.value.Value.TheVariants.Int}}
use Rattle.{sqlite_typing.specs.Types.{accepts_terms, class_of}, sqlite_schema.specs.declared.schema.Table.Table, sqlite_rules.specs.Edit.numbered}
use Rattle.{sqlite.specs.{State.{Executes, ExecutesInside}, declared.error.Error.{Error, TheVariants.SqliteFailure}}, hub_state.specs.Documents.Lines}
use Rattle.{hub_state.specs.State.State, hub_store.proofs.{Rows.{Held.bare, LineRows.terms_for}, Versions.Inserts.{IsFitRow, IsInsert, IsKeyed, behind_fails}}}
use Rattle.hub_store.{proofs.Versions.{Inserts.insert_counts, WriteCauses.IsWritable}, specs.{Failing.HasReason, Fit.ShortItem, Items.{Item, item_row}}}
use Rattle.hub_store.specs.{Items.placed_lines, Layout.item_part, Tables.beside_item, inner.Beside.{AreNumbered, HoldsBeside, CanStand}}
use Rattle.sqlite.specs.declared.error.ErrorCode.TheVariants as code
use Rattle.sqlite.specs.State as sql

abbrev item : Table
item = (item_part []).table

abbrev places : List ℕ
places = 0 ∷ 1 ∷ []

keyed : IsKeyed beside_item item 10 (map suc places)
keyed =
    let writable : IsWritable beside_item item 10 = record { listed = refl; uncounted = refl; unreferred = refl } in
    record { writable = writable; own = refl; refers = refl; timeless = refl; exact = refl; narrow = refl }

fit : (n : ℕ) (x : Item) → n < 2 ^ 63 → ShortItem x → IsFitRow beside_item item (map suc places) (Int (pos n) ∷ item_row x)
fit n x low short = record { rules = λ db. refl; numbered = refl; low = lt-ltb n (2 ^ 63) low; exact = refl; wide = refl; short = short; entry = omega arith }

-- a text that puts these lines
abbrev pub InsertsLines : List ℕ → Row → List Row → Type 0
InsertsLines text params more = IsInsert beside_item item 10 text params (map bare more)

-- a text that puts these lines fails only for a reason
pub lines_fail : (text : List ℕ) (params : Row) (more items : List Row) (s : State) → InsertsLines text params more → CanStand (more ++ items)
    → (old new : sql.State) (e : Error) → ExecutesInside 0 text params old new (Err e) → HoldsBeside items s old.now → e ≢ SqliteFailure code.OutOfMemory → HasReason old new
lines_fail text params more items s put can old new e h has other =
    behind_fails beside_item item 10 places keyed text params more put item_row ShortItem fit items can
    old new e has.parts.known has.parts.whole has.numbered has.parts.means.1.1.1.1.1.1.1.1.1.1.0.same h other

-- and what it puts continues the rowids
pub lines_count : (text : List ℕ) (params : Row) (more items : List Row) (s : State) → InsertsLines text params more
    → (old new : sql.State) (count : ℕ) → Executes text params old new (Ok count) → HoldsBeside items s old.now → AreNumbered 1 (new.now.trees item.tree)
lines_count text params more items s put old new count h has =
    insert_counts beside_item item 10 (map suc places) keyed text params (map bare more) put more refl old new count has.parts.known has.numbered h

-- ---- the parameters

bound_at : (params : Row) (k : ℕ) → AllByRecursion (λ v. is_some (class_of v) ≡ true) params → is_some (class_of (column params k)) ≡ true
bound_at [] k all = refl
bound_at (v ∷ params) zero all = all.0
bound_at (v ∷ params) (suc k) all = bound_at params k all.1

-- numbers and texts are accepted wherever a line is
pub terms_accepted : (params : Row) (at count : ℕ) → AllByRecursion (λ v. is_some (class_of v) ≡ true) params → accepts_terms (terms_for at count) params ≡ true
terms_accepted params at zero all = refl
terms_accepted params at (suc count) all =
    rw (bound_at params 0 all, bound_at params at all, bound_at params (at + 1) all, bound_at params (at + 2) all, bound_at params (at + 3) all, bound_at params (at + 4) all, bound_at params (at + 5) all) (terms_accepted params (at + 6) count all)

pub lines_bound : (place : ℕ) (ls : Lines) → AllByRecursion (λ v. is_some (class_of v) ≡ true) (placed_lines place ls)
lines_bound place [] = tt
lines_bound place (l ∷ ls) = (refl, (refl, (refl, (refl, (refl, (refl, lines_bound (suc place) ls))))))

pub lines_long : (place : ℕ) (ls : Lines) → length (placed_lines place ls) ≡ 6 * length ls
lines_long place [] = refl
lines_long place (l ∷ ls) = omega (arith, lines_long (suc place) ls)
