-- A set of the state as its table holds it: data with its laws, and what statements on the table make of the state.
use Rattle.std.proofs.Common.{◌≡◌, ℕ, suc, List, [], ◌∷◌, ◌++◌, map, filter, take, drop, length, ◌/◌, Bool, true, false, cond, not, if◌then◌else◌, Result, Ok}
use Rattle.std.proofs.{Common.{OnOk, IsTrue, sym, ap, subst}, lemmas.List.Sorted.{IsPermutation-cons, IsPermutation-trans, IsPermutation-refl}}
use Rattle.std.specs.{Cmp.IsTotalOrder, List.{AllByRecursion, Sorted.IsPermutation}, Ordering.is_lt, declared.cmp.Ordering.{Ordering, TheVariants.Less}}
use Rattle.{sqlite_value.specs.Order.Row, sqlite_trees.{proofs.ListLemmas.all-filter, specs.Tree.{Trees, IsAscending}}, sqlite_sql.specs.Term.Term}
use Rattle.{sqlite_schema.specs.declared.command.{Command.{Command, TheVariants.Insert}, Source.TheVariants.Values}, sqlite_rules.specs.Cast.cast_row}
use Rattle.{sqlite_rules.specs.{Edit.with_rowid, declared.error.Rowids.TheVariants.Chosen}, sqlite.proofs.Callers.{IsPlain, command_of}}
use Rattle.sqlite.specs.{Effect.{Database, value_rows}, Held.{Held, state}, Listing.understood, Rows.stamped, State.{HasCleanDisk, Executes}}
use Rattle.{sqlite.specs.declared.error.Error.Error, circle.{proofs.Keeping.each_put, specs.Ordered.put_by}, hub_state.specs.{Sound.IsSound, State.State}}
use Rattle.hub_store.proofs.{Edits.Steps.made_by, Rows.{Forms.{Says, taking, exchanging}, Lists.flipped, PartRows.{Stands, with_rows}, Places.table_at}}
use Rattle.hub_store.{proofs.Rows.Statements.{keeps, shows}, specs.{Fit.IsFit, Holdings.IsHeld, Items.{items_of, item_row}, Keeps.{Goes, HasRun}}}
use Rattle.hub_store.specs.{Layout.newest_tables, Means.{Means, Holds}, Parts.{Part, schema_of, held, HoldsParts}, Rows.named_row, Tables.hub_schema}
use Rattle.hub_store.specs.inner.Makes.{Makes}
use Rattle.sqlite_trees.specs.declared.store.Store as store
use Rattle.sqlite.specs.State as sql
use Rattle.hub_store.proofs.Rows.PartRows as part

-- ---- lists

pub put_by-same : {X : Type 0} (cmp : X → X → Ordering) (x : X) (xs : List X) → IsPermutation (x ∷ xs) (put_by cmp x xs)
put_by-same cmp x [] = IsPermutation-refl _
put_by-same cmp x (y ∷ ys) =
    elim (is_lt (cmp x y)) as (λ b. IsPermutation (x ∷ y ∷ ys) (cond b (x ∷ y ∷ ys) (y ∷ put_by cmp x ys))) [
      | true ↦ IsPermutation-refl _
      | false ↦ IsPermutation-trans _ _ _ (flipped x y ys) (IsPermutation-cons y _ _ (put_by-same cmp x ys))
    ]

each_exchanged : {X : Type 0} (P : X → Type 0) (k : X → Bool) (f : X → X) → ((x : X) → P x → P (f x)) → (xs : List X)
    → AllByRecursion P xs → AllByRecursion P (map (λ (x : X). if k x then f x else x) xs)
each_exchanged P k f step [] all = tt
each_exchanged P k f step (x ∷ xs) all =
    (elim (k x) as (λ b. P (cond b (f x) x)) [ true ↦ step x all.0 | false ↦ all.0 ], each_exchanged P k f step xs all.1)

-- ---- a set and its table

-- all parts of the newest version
abbrev pub parts : State → List Part
parts s = newest_tables (map item_row (items_of s)) (map named_row s.incidents) s

-- the table of a place, with rows
abbrev pub part_at : ℕ → (Row → Row) → List Row → Part
part_at place seen rows = record { table = table_at place; seen = seen; rows = rows }

-- A set of the state. For a set that is written out, `refl` proves the laws `shows`, `stands`, `split` and `now`.
pub record Kind (X : Type 0) : Type 1 where
  -- the place of the table among all tables, and how a row of it is seen
  pub place : ℕ
  pub seen : Row → Row
  -- the row of an element, as a statement puts it and as it is seen
  pub stored : X → Row
  pub row : X → Row
  pub shows : (x : X) (rows : List Row) → seen (with_rowid Chosen rows (stored x)) ≡ row x
  pub casts : (x : X) → cast_row (table_at place) (stored x) ≡ stored x
  -- the set, and the rows that its table holds
  pub get : State → List X
  pub set : List X → State → State
  pub rows : State → List Row
  pub stands : (s : State) → Stands (take place (parts s)) (part_at place seen (rows s)) (drop (suc place) (parts s)) place
  pub split : (s : State) → parts s ≡ take place (parts s) ++ part_at place seen (rows s) ∷ drop (suc place) (parts s)
  pub now : (l : List X) (s : State)
      → parts (set l s) ≡ take place (parts s) ++ part_at place seen (rows (set l s)) ∷ drop (suc place) (parts s)
  -- the order of the set, and the row of one more element
  pub cmp : X → X → Ordering
  pub more : (x : X) (s : State) (l : List X) → IsPermutation (x ∷ get s) l → IsPermutation (row x ∷ rows s) (rows (set l s))
  pub total : IsTotalOrder cmp
  pub rises : (s : State) → IsSound s → IsAscending (λ a b. cmp a b ≡ Less) (get s)
  -- an element is read back from its row, and tables with the same rows hold the same of the set
  pub back : Row → X
  pub backed : (x : X) → back (row x) ≡ x
  pub alike : (a b : State) → IsPermutation (rows a) (rows b) → IsPermutation (map row (get a)) (map row (get b))
  -- the limits of each element
  pub Fits : X → Type 0
  pub refit : (l : List X) (s : State) → IsFit s → (AllByRecursion Fits (get s) → AllByRecursion Fits l) → IsFit (set l s)

pub as_parts : (db : Database) (s : State) → Holds db s → HoldsParts (parts s) db
as_parts db s holds = record { known = holds.known; whole = holds.whole; means = holds.means }

pub from_parts : (db : Database) (s : State) → HoldsParts (parts s) db → IsFit s → Holds db s
from_parts db s held fit = record { known = held.known; whole = held.whole; means = held.means; fit = fit }

-- ---- what the table holds

held_among : {db : Trees} (qs : List Part) (p : Part) (rs : List Part) → AllByRecursion (IsHeld db) (map held (qs ++ p ∷ rs))
    → IsHeld db (held p)
held_among [] p rs all = all.0
held_among (q ∷ qs) p rs all = held_among qs p rs all.1

pub held_in : {X : Type 0} (K : Kind X) (db : Trees) (s : State) → Means db s → IsHeld db (held (part_at K.place K.seen (K.rows s)))
held_in K db s means =
    held_among (take K.place (parts s)) (part_at K.place K.seen (K.rows s)) (drop (suc K.place) (parts s))
    (subst (λ ps. AllByRecursion (IsHeld db) (map held ps)) (K.split s) means)

-- ---- what a statement makes of the state

module _ {X : Type 0} (K : Kind X) (s : State) where
  abbrev before : List Part
  before = take K.place (parts s)

  abbrev own : Part
  own = part_at K.place K.seen (K.rows s)

  abbrev after : List Part
  after = drop (suc K.place) (parts s)

  known : hub_schema ≡ schema_of (before ++ own ∷ after)
  known = ap schema_of (K.split s)

  module _ {text : List ℕ} {command : Command} (says : Says text command) (params : Row) (old new : sql.State) (count : ℕ)
      (h : Executes text params old new (Ok count)) (holds : Holds old.now s) where
    plain : IsPlain (understood (schema_of (before ++ own ∷ after)) text)
    plain = subst (λ k. IsPlain (understood k text)) known says.plain

    is : command_of (understood (schema_of (before ++ own ∷ after)) text) ≡ command
    is = subst (λ k. command_of (understood k text) ≡ command) known says.is

    has : HoldsParts (before ++ own ∷ after) old.now
    has = subst (λ ps. HoldsParts ps old.now) (K.split s) (as_parts old.now s holds)

    left : (l : List X) → (AllByRecursion K.Fits (K.get s) → AllByRecursion K.Fits l)
        → HoldsParts (before ++ with_rows (K.rows (K.set l s)) own ∷ after) new.now → Holds new.now (K.set l s)
    left l fits held =
        from_parts new.now (K.set l s) (subst (λ ps. HoldsParts ps new.now) (sym (K.now l s)) held) (K.refit l s holds.fit fits)

  module _ {text : List ℕ} (params : Row) (old new : sql.State) (count : ℕ) (h : Executes text params old new (Ok count))
      (holds : Holds old.now s) where
    puts : {terms : List Term} {width : ℕ} → Says text (Insert K.place (Values terms width)) → (x : X)
        → value_rows (stamped (table_at K.place) params) width (length terms / width) terms ≡ K.stored x ∷ [] → K.Fits x
        → Holds new.now (K.set (put_by K.cmp x (K.get s)) s)
    puts {terms} {width} says x given fit =
        let l = put_by K.cmp x (K.get s) in
        left says params old new count h holds l (each_put K.Fits K.cmp x (K.get s) fit)
        (part.puts before own after K.place (K.stands s) text params old new (plain says params old new count h holds) count h
        (has says params old new count h holds) terms width (is says params old new count h holds) (K.stored x) given
        (K.casts x) (K.row x) (K.shows x) (K.rows (K.set l s)) (K.more x s l (put_by-same K.cmp x (K.get s))))

    takes : {tests : List Term} → Says text (taking K.place tests) → (p : Row → Bool) (q : X → Bool)
        → ((r : Row) → keeps tests params r ≡ p (K.seen r))
        → filter (λ (r : Row). not (p r)) (K.rows s) ≡ K.rows (K.set (filter (λ (x : X). not (q x)) (K.get s)) s)
        → Holds new.now (K.set (filter (λ (x : X). not (q x)) (K.get s)) s)
    takes {tests} says p q past gone =
        let l = filter (λ (x : X). not (q x)) (K.get s) in
        left says params old new count h holds l (all-filter K.Fits (λ (x : X). not (q x)) (K.get s))
        (part.takes before own after K.place (K.stands s) text params old new (plain says params old new count h holds) count h
        (has says params old new count h holds) tests (is says params old new count h holds) p past (K.rows (K.set l s)) gone)

    exchanges : {tests columns : List Term} → Says text (exchanging K.place tests columns) → (k : X → Bool) (f : X → X)
        → K.seen ≡ (λ r. r) → K.rows s ≡ map K.row (K.get s) → ((l : List X) → map K.row l ≡ K.rows (K.set l s))
        → ((x : X) → keeps tests params (K.row x) ≡ k x)
        → ((x : X) → cast_row (table_at K.place) (shows columns params (K.row x)) ≡ K.row (f x))
        → ((x : X) → K.Fits x → K.Fits (f x)) → Holds new.now (K.set (map (λ (x : X). if k x then f x else x) (K.get s)) s)
    exchanges {tests} {columns} says k f seen own_rows rows same made fits =
        let l = map (λ (x : X). if k x then f x else x) (K.get s) in
        left says params old new count h holds l (each_exchanged K.Fits k f fits (K.get s))
        (subst (λ all. HoldsParts (before ++ with_rows all own ∷ after) new.now) (rows l)
        (part.exchanges before own after K.place (K.stands s) text params old new (plain says params old new count h holds) count
        h (has says params old new count h holds) tests columns (is says params old new count h holds) K.row k f (K.get s)
        seen own_rows same made))

-- ---- what a function that runs a statement makes of it

-- an element is put
pub put_into : {S : Type 0} (g : store.Ghosts S) {X : Type 0} (K : Kind X) (s : State) {text : List ℕ} {terms : List Term}
    {width : ℕ} → Says text (Insert K.place (Values terms width))
    → (params : Row) (old new : Held S) {T : Type 0} {result : Result T Error} → Goes (state g old) (state g new) result
    → (HasCleanDisk (state g new) → IsTrue (state g old).in_transaction → OnOk result (HasRun g text params old new))
    → (x : X) → value_rows (stamped (table_at K.place) params) width (length terms / width) terms ≡ K.stored x ∷ [] → K.Fits x
    → Makes (state g old) (state g new) (λ db. Holds db s) (λ db. Holds db (K.set (put_by K.cmp x (K.get s)) s)) result
put_into g K s {text} says params old new goes ran x given fit =
    made_by g text params old new (λ db. Holds db s) (λ db. Holds db (K.set (put_by K.cmp x (K.get s)) s)) _ goes ran
    (λ mid count h holds. puts K s params mid (state g new) count h holds says x given fit)

-- the elements that pass are removed
pub taken_from : {S : Type 0} (g : store.Ghosts S) {X : Type 0} (K : Kind X) (s : State) {text : List ℕ} {tests : List Term}
    → Says text (taking K.place tests)
    → (params : Row) (old new : Held S) {T : Type 0} {result : Result T Error} → Goes (state g old) (state g new) result
    → (HasCleanDisk (state g new) → IsTrue (state g old).in_transaction → OnOk result (HasRun g text params old new))
    → (p : Row → Bool) (q : X → Bool) → ((r : Row) → keeps tests params r ≡ p (K.seen r))
    → filter (λ (r : Row). not (p r)) (K.rows s) ≡ K.rows (K.set (filter (λ (x : X). not (q x)) (K.get s)) s)
    → Makes (state g old) (state g new) (λ db. Holds db s) (λ db. Holds db (K.set (filter (λ (x : X). not (q x)) (K.get s)) s)) result
taken_from g {X} K s {text} says params old new goes ran p q past gone =
    made_by g text params old new (λ db. Holds db s) (λ db. Holds db (K.set (filter (λ (x : X). not (q x)) (K.get s)) s)) _ goes ran
    (λ mid count h holds. takes K s params mid (state g new) count h holds says p q past gone)

-- the elements that pass are exchanged for others
pub exchanged_in : {S : Type 0} (g : store.Ghosts S) {X : Type 0} (K : Kind X) (s : State) {text : List ℕ}
    {tests columns : List Term} → Says text (exchanging K.place tests columns)
    → (params : Row) (old new : Held S) {T : Type 0} {result : Result T Error} → Goes (state g old) (state g new) result
    → (HasCleanDisk (state g new) → IsTrue (state g old).in_transaction → OnOk result (HasRun g text params old new))
    → (k : X → Bool) (f : X → X)
    → K.seen ≡ (λ r. r) → K.rows s ≡ map K.row (K.get s) → ((l : List X) → map K.row l ≡ K.rows (K.set l s))
    → ((x : X) → keeps tests params (K.row x) ≡ k x)
    → ((x : X) → cast_row (table_at K.place) (shows columns params (K.row x)) ≡ K.row (f x)) → ((x : X) → K.Fits x → K.Fits (f x))
    → Makes (state g old) (state g new) (λ db. Holds db s)
    (λ db. Holds db (K.set (map (λ (x : X). if k x then f x else x) (K.get s)) s)) result
exchanged_in g {X} K s {text} says params old new goes ran k f seen all rows same made fits =
    made_by g text params old new (λ db. Holds db s) (λ db. Holds db (K.set (map (λ (x : X). if k x then f x else x) (K.get s)) s)) _
    goes ran
    (λ mid count h holds. exchanges K s params mid (state g new) count h holds says k f seen all rows same made fits)
