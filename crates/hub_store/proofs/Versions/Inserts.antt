-- An INSERT into a table with at most one key, of rows that fit it and differ in that key, fails only for a limit on
-- steps. What a table needs is stated once for all its rows; for a table that is written out most of it is `refl`.
use Rattle.std.proofs.Common.{◌≡◌, ◌≢◌, inl, inr, ℕ, ◌+◌, ◌<◌, ◌≤◌, ◌^◌, ◌/◌, ◌==◌, ◌&&◌, ◌||◌, not, pos, negsuc, zero, suc, nat_lt, nat_le, List, [], ◌∷◌}
use Rattle.std.proofs.Common.{◌++◌, map, drop, length, length-append, Bool, true, false, if◌then◌else◌, Ok, Err, refl, sym, ap, subst, ◌∙◌, arith, eq-eqb}
use Rattle.std.proofs.{Math.Bool.{and-true, and-false, or-true}, lemmas.{Bool.{true≢false, and_parts, and_from, ltb-true, leb-true, eqb-true}, List.map-append}}
use Rattle.std.proofs.lemmas.List.{map-id, length-map, Elements.All-from_recursion, Sorted.{IsPermutation-cons, IsPermutation-append_comm}}
use Rattle.std.{proofs.lemmas.List.Sorted.{IsPermutation-append_right, IsPermutation-trans, length_permutation}, specs.{Float.NotNan, Int.bit_at}}
use Rattle.std.specs.{List.{AllByRecursion, list_all, Sorted.IsPermutation}, Str.bytes_eq}
use lib.Ieee.{is_nan}
use Rattle.sqlite_value.specs.{Keys.{plain, later}, Order.{Row, column, number}, declared.{keys.Order.Order, value.Value.{Value, TheVariants.{Null, Int}}}}
use Rattle.{sqlite_value.specs.declared.value.Value.TheVariants.{Real, Text, Blob}, sqlite_trees.proofs.ListLemmas.{all_weaker, all-permutation}}
use Rattle.sqlite_trees.{proofs.ListLemmas.ascending_weaker, specs.{Tree.{IsAscending, Trees, rowid, put_row, with_tree}, View.{is_int, IsStorable}}}
use Rattle.{sqlite_sql.specs.{Catalog.entry_of, Ops.{is_null, fits_i64}, Term.Term}, sqlite_typing.specs.Types.accepts_terms, sqlite_schema.specs.Rules.Keeps}
use Rattle.sqlite_schema.specs.{Rules.{passes, guards, clashes, agree, table_reals, index_reals, is_key_of}, declared.command.Command.TheVariants.Insert}
use Rattle.sqlite_schema.specs.declared.{command.Source.TheVariants.Values, schema.Constraint.TheVariants.{Datatype, NotNull, Check, PrimaryKey, Unique}}
use Rattle.sqlite_schema.specs.declared.schema.{Constraint.TheVariants.ForeignKey, Index.Index, Keys.TheVariants.Enforced, Schema.Schema, Table.Table}
use Rattle.sqlite_rules.{proofs.ListLemmas.{all_has, all_from, test_has}, specs.{Cast.cast_row, Edit.{Edit, IsRefused, IsOversized, id_in, next_rowid}}}
use Rattle.sqlite_rules.specs.{Edit.{numbered, put_all, are_fresh, is_taken}, declared.error.Refusal.{Refusal, TheVariants.{Violates, Mismatch, NoRowid}}}
use Rattle.{sqlite_rules.specs.declared.error.{Refusal.TheVariants.{BadReference, TooDeep}, Rowids.TheVariants.Chosen}, sqlite.proofs.Callers.command_of}
use Rattle.sqlite.{proofs.Callers.statement_of, specs.{Effect.{IsDatabase, value_rows}, Listing.understood, Rows.stamped, State.{State, Executes}}}
use Rattle.{sqlite.specs.{State.ExecutesInside, declared.error.Error.{Error, TheVariants.SqliteFailure}}, iodef_tree.proofs.Order.bytes_eq-true}
use Rattle.hub_store.proofs.Rows.{Compare.column_past, Counting.{labelled, past_labels, put_behind}, Held.bare, Lists.came_in, Statements.inserted}
use Rattle.hub_store.proofs.Versions.{Beside.{no_works, still_unique, unreferred_by}, Causes.{IsWhole, fails_as, plain_of}, Standing.{all_before, no_clash}}
use Rattle.hub_store.{proofs.Versions.{Standing.{pairs_permuted, pairs_seen}, WriteCauses.{Breaks, IsWritable, insert_stops}}, specs.Failing.HasReason}
use Rattle.hub_store.specs.{Fit.IsShort, inner.Beside.{AreNumbered, CanHold, Unlike, IsRowOf, NumberedApart, NumbersApart, alike, CanNumber}}
use Rattle.sqlite.specs.declared.error.ErrorCode.TheVariants as code

-- ---- what a table, a row and a text need

-- an index of another table, or one with this key
abbrev pub is_own : Table → List ℕ → Index → Bool
is_own table key i = not (i.table == table.tree) || (bytes_eq i.columns key && (i.order.digits == 0))

-- The table at this place of the schema has no key beside the rowid but this one, and no column REAL.
pub record IsKeyed (schema : Schema) (table : Table) (at : ℕ) (key : List ℕ) : Type 0 where
  pub writable : IsWritable schema table at
  pub own : list_all (is_own table key) schema.indexes ≡ true
  pub refers : table.references ≡ []
  pub timeless : table.stamps.terms ≡ []
  pub exact : table_reals table ≡ 0
  pub narrow : nat_lt (length key) 2001 ≡ true

-- no float
abbrev pub is_exact : Value → Bool
is_exact (Real x) = false
is_exact _ = true

-- The row keeps the rules of the table, has a rowid, and SQLite takes it.
pub record IsFitRow (schema : Schema) (table : Table) (key : List ℕ) (row : Row) : Type 0 where
  pub rules : (db : Trees) → (passes Datatype schema db table row && (passes NotNull schema db table row && passes Check schema db table row)) ≡ true
  pub numbered : is_int (rowid row) ≡ true
  pub low : fits_i64 (id_in (rowid row)) ≡ true
  pub exact : list_all is_exact row ≡ true
  pub wide : (nat_lt 1 (length row) && nat_le (length row) 2001) ≡ true
  pub short : IsShort row
  pub entry : IsShort (entry_of key row)

-- the text puts these rows, as the columns cast them
pub record IsInsert (schema : Schema) (table : Table) (at : ℕ) (text : List ℕ) (params : Row) (rows : List Row) : Type 0 where
  pub terms : List Term
  pub width : ℕ
  pub command : command_of (understood schema text) ≡ Insert at (Values terms width)
  pub whole : IsWhole text params (understood schema text)
  pub accepted : accepts_terms terms (stamped table params) ≡ true
  pub given : map (cast_row table) (value_rows (stamped table params) width (length terms / width) terms) ≡ rows

-- ---- a row without a float can be stored

exact_number : (v : Value) → is_exact v ≡ true → NotNan (number v)
unfolding is_nan
exact_number Null h = tt
exact_number (Int (pos n)) h = tt
exact_number (Int (negsuc n)) h = tt
exact_number (Real x) h = absurd (true≢false (sym h))
exact_number (Text t) h = tt
exact_number (Blob b) h = tt

all_exact : (row : Row) → list_all is_exact row ≡ true → AllByRecursion (λ v. NotNan (number v)) row
all_exact [] h = tt
all_exact (v ∷ row) h = let both = and_parts _ _ h in (exact_number v both.0, all_exact row both.1)

column_exact : (row : Row) (k : ℕ) → list_all is_exact row ≡ true → is_exact (column row k) ≡ true
column_exact [] k h = refl
column_exact (v ∷ row) zero h = (and_parts _ _ h).0
column_exact (v ∷ row) (suc k) h = column_exact row k (and_parts _ _ h).1

entry_exact : (row : Row) (key : List ℕ) → list_all is_exact row ≡ true → list_all is_exact (entry_of key row) ≡ true
entry_exact row [] h = and_from _ _ (column_exact (row) 0 h) refl
entry_exact row (k ∷ key) h = and_from _ _ (column_exact row k h) (entry_exact row key h)

no_bit : (c : ℕ) → bit_at 0 c ≡ 0
no_bit c = grind arith

no_reals : (key : List ℕ) → index_reals 0 key ≡ 0
no_reals [] = refl
no_reals (k ∷ key) = omega (arith, no_bit k, no_reals key)

storable : (reals : ℕ) (row : Row) → reals ≡ 0 → list_all is_exact row ≡ true → (0 < length row) × (length row ≤ 2001) → IsShort row → IsStorable reals row
storable reals row none exact columns short = record {
  typed = λ c h. absurd (omega (arith, h, ap (λ n. bit_at n c) none, no_bit c));
  columns = columns;
  numbers = All-from_recursion (λ (v : Value). NotNan (number v)) row (all_exact row exact);
  short = short;
}

-- ---- why an INSERT fails

module _ (schema : Schema) (table : Table) (at : ℕ) (key : List ℕ) (it : IsKeyed schema table at key) where
  abbrev FitRow : Row → Type 0
  FitRow = IsFitRow schema table key

  entry_length : (row : Row) → length (entry_of key row) ≡ length key + 1
  entry_length row = length-append (map (column row) key) (rowid row ∷ []) ∙ ap (λ n. n + 1) (length-map key (column row))

  sized : (row : Row) → FitRow row → ¬ IsOversized schema table row
  sized row fit (inl big) =
      let wide = and_parts _ _ fit.wide in
      let more = ltb-true 1 (length row) wide.0 in
      big (storable (table_reals table) row it.exact fit.exact (omega (arith, more), leb-true _ _ wide.1) fit.short, more)
  sized row fit (inr index) =
      let own = test_has (is_own table key) schema.indexes index.0 it.own index.1 in
      let both = and_parts _ _ (subst (λ b. (not b || (bytes_eq index.0.columns key && (index.0.order.digits == 0))) ≡ true) (eq-eqb index.0.table table.tree index.2) own) in
      let narrow = ltb-true _ _ it.narrow in
      let long = entry_length row in
      index.3 (subst (λ (cs : List ℕ). IsStorable (index_reals (table_reals table) cs) (entry_of cs row)) (sym (bytes_eq-true index.0.columns key both.0))
      (storable (index_reals (table_reals table) key) (entry_of key row) (ap (λ n. index_reals n key) it.exact ∙ no_reals key) (entry_exact row key fit.exact) (omega (arith, long), omega (arith, long, narrow)) fit.entry))

  -- rows that differ in the key conflict in no index
  module _ (t : Table) (same : t.tree ≡ table.tree) (rows : List Row) (row : Row) (free : clashes plain key rows row ≡ false) where
    unguarded : (i : Index) → is_own table key i ≡ true → not (guards i t && clashes i.order i.columns rows row) ≡ true
    unguarded i own = go (i.table == table.tree) refl own
      where
        go : (b : Bool) → (i.table == table.tree) ≡ b → (not b || (bytes_eq i.columns key && (i.order.digits == 0))) ≡ true → not (guards i t && clashes i.order i.columns rows row) ≡ true
        go false is own = ap (λ b. not (b && clashes i.order i.columns rows row)) (ap (λ n. i.is_unique && (i.table == n)) same ∙ ap (λ b. i.is_unique && b) is ∙ and-false i.is_unique)
        go true is own =
            let both = and_parts _ _ own in
            let order : i.order ≡ plain = ap {B = Order} (λ d. record { digits = d }) (eqb-true i.order.digits 0 both.1) in
            ap (λ b. not (guards i t && b)) (ap (λ o. clashes o i.columns rows row) order ∙ ap (λ cs. clashes plain cs rows row) (bytes_eq-true i.columns key both.0) ∙ free) ∙ ap not (and-false (guards i t))

    all_unguarded : (is : List Index) → list_all (is_own table key) is ≡ true → list_all (λ (i : Index). not (guards i t && clashes i.order i.columns rows row)) is ≡ true
    all_unguarded [] own = refl
    all_unguarded (i ∷ is) own = let both = and_parts _ _ own in and_from _ _ (unguarded i both.0) (all_unguarded is both.1)

  module _ (db : Trees) (whole : IsDatabase (record { schema = schema; trees = db })) (news : List Row) (fits : AllByRecursion FitRow news) (fresh : are_fresh (db table.tree) news ≡ true) (apart : IsAscending (Unlike key) (put_all (db table.tree) news)) where
    edit : Edit
    edit = record { table = table; gone = []; news = news }

    each : (test : Row → Bool) → ((row : Row) → FitRow row → test row ≡ true) → list_all test news ≡ true
    each test one = go news fits
      where
        go : (rows : List Row) → AllByRecursion FitRow rows → list_all test rows ≡ true
        go [] all = refl
        go (r ∷ rows) all = and_from _ _ (one r all.0) (go rows all.1)

    unique : Keeps Unique schema (with_tree db table.tree (put_all (db table.tree) news))
    unique =
        let more = put_all (db table.tree) news in
        still_unique schema db table.tree more (λ t is. all_from _ more (λ row h. all_unguarded t is more row (no_clash (alike key) more apart row h) schema.indexes it.own)) (whole.obeys.rules Unique)

    unrefused : (why : Refusal) → ¬ IsRefused schema Enforced db edit why
    unfolding edit
    unrefused (Violates Datatype) h = true≢false (sym (each _ (λ row fit. (and_parts _ _ (fit.rules db)).0)) ∙ h)
    unrefused (Violates NotNull) h = true≢false (sym (each _ (λ row fit. (and_parts _ _ (and_parts _ _ (fit.rules db)).1).0)) ∙ h)
    unrefused (Violates Check) h = true≢false (sym (each _ (λ row fit. (and_parts _ _ (and_parts _ _ (fit.rules db)).1).1)) ∙ h)
    unrefused (Violates PrimaryKey) h = true≢false (sym fresh ∙ h)
    unrefused (Violates Unique) h = h unique
    unrefused (Violates ForeignKey) h = h
    unrefused Mismatch h = true≢false (sym (each _ (λ row fit. fit.numbered)) ∙ h)
    unrefused NoRowid h = true≢false (sym (each _ (λ row fit. fit.low)) ∙ h)
    unrefused BadReference h = true≢false (sym (ap (λ b. (not (nat_lt 0 (length news)) || b) && true) (ap (list_all (is_key_of schema)) it.refers) ∙ and-true _ ∙ or-true (not (nat_lt 0 (length news)))) ∙ h)
    unrefused TooDeep h = h

    unbroken : ¬ Breaks schema db edit
    unfolding edit
    unbroken (inl refused) = unrefused refused.0 refused.1
    unbroken (inr (row, h, big)) = sized row (all_has FitRow news row fits h) big

  module _ (text : List ℕ) (params : Row) (rows : List Row) (put : IsInsert schema table at text params rows) where
    -- rows that fit, under new rowids, fail only for a reason
    pub insert_fails : (news : List Row) (old new : State) (e : Error) → old.now.schema ≡ schema → IsDatabase old.now → numbered Chosen (old.now.trees table.tree) rows ≡ news → AllByRecursion FitRow news → are_fresh (old.now.trees table.tree) news ≡ true
        → IsAscending (Unlike key) (put_all (old.now.trees table.tree) news) → ExecutesInside 0 text params old new (Err e) → e ≢ SqliteFailure code.OutOfMemory → HasReason old new
    unfolding edit
    insert_fails news old new e known whole are fits fresh apart h other =
        let db = old.now.trees in
        let sound : IsDatabase (record { schema = schema; trees = db }) = subst (λ k. IsDatabase (record { schema = k; trees = db })) known whole in
        elim (fails_as text params old schema known put.whole new (Insert at (Values put.terms put.width)) put.command tt e other h) [
          | inl reason ↦ reason
          | inr refused ↦ elim (insert_stops schema table at it.writable old (statement_of text (understood schema text)) params put.terms put.width known put.accepted refused.0 refused.1) [
            | inl limited ↦ inr (inr limited)
            | inr broken ↦ absurd (unbroken db sound news fits fresh apart (subst (λ l. Breaks schema db (record { table = table; gone = []; news = l })) (ap (numbered Chosen (db table.tree)) put.given ∙ are) broken))
          ]
        ]

    -- rows behind all others count on
    pub insert_counts : (more : List Row) → rows ≡ map bare more → (old new : State) (count : ℕ) → old.now.schema ≡ schema → AreNumbered 1 (old.now.trees table.tree) → Executes text params old new (Ok count) → AreNumbered 1 (new.now.trees table.tree)
    insert_counts more are old new count known counts h =
        let before = old.now.trees table.tree in
        let changed = inserted schema table at it.writable.listed it.writable.uncounted it.timeless (no_works schema Enforced (unreferred_by schema.tables it.writable.unreferred)) text params old new known (plain_of text params _ put.whole) count h put.terms put.width put.command in
        let behind = put_behind before more counts in
        subst (AreNumbered 1) (sym (changed.applies.rows ∙ ap (put_all before) (ap (numbered Chosen before) (put.given ∙ are) ∙ behind.news) ∙ behind.all)) behind.counts

-- ---- a row with its own number

not_taken : (new : Row) (rows : List Row) → AllByRecursion (NumbersApart new) rows → is_taken rows new ≡ false
not_taken new [] all = refl
not_taken new (r ∷ rows) all = ap (λ b. b || is_taken rows new) all.0.1 ∙ not_taken new rows all.1

pub number_fails : {X : Type 0} (schema : Schema) (table : Table) (at : ℕ) (key : List ℕ) → IsKeyed schema table at key → (text : List ℕ) (params row : Row) → IsInsert schema table at text params (row ∷ []) → is_null (rowid row) ≡ false
    → (kept : X → Row) (IsTaken : X → Type 0) → ((x : X) → IsTaken x → IsFitRow schema table key (kept x))
    → (rows : List Row) → CanHold (NumberedApart key) (IsRowOf kept IsTaken) (row ∷ rows) → (old new : State) (e : Error) → old.now.schema ≡ schema → IsDatabase old.now → IsPermutation rows (map (λ (r : Row). r) (old.now.trees table.tree))
    → ExecutesInside 0 text params old new (Err e) → e ≢ SqliteFailure code.OutOfMemory → HasReason old new
number_fails schema table at key it text params row put given kept IsTaken fit rows can old new e known whole held h other =
    let before = old.now.trees table.tree in
    let same = subst (IsPermutation rows) (map-id before) held in
    let numbers = all_weaker (NumberedApart key row) (NumbersApart row) (λ y p. p.0) rows can.apart.0 in
    let free = not_taken row before (all-permutation (NumbersApart row) rows before same numbers) in
    let one = can.each.0 in
    insert_fails schema table at key it text params (row ∷ []) put (row ∷ []) old new e known whole
    (ap (λ b. (if b then Int (next_rowid before) ∷ drop 1 row else row) ∷ []) given) (subst (IsFitRow schema table key) (sym one.1) (fit one.0 one.2), tt) (and_from _ _ (ap not free) refl)
    (pairs_permuted (Unlike key) (λ a b p. (p.1, p.0)) (row ∷ rows) (put_row row before) (IsPermutation-trans _ _ _ (IsPermutation-cons row _ _ same) (came_in row before free)) (ascending_weaker (NumberedApart key) (Unlike key) (λ a b p. p.1) (row ∷ rows) can.apart)) h other

-- ---- rows behind all others, under the next rowids

-- rows differ with their rowids if they do so without them
as_seen : (order : Order) (columns : List ℕ) (a b : Row) → agree order (map suc columns) a (map suc columns) b ≡ agree order columns (drop 1 a) columns (drop 1 b)
as_seen order [] a b = refl
as_seen order (c ∷ columns) a b = rw (column_past a c, column_past b c, as_seen (later order) columns a b) refl

pub behind_fails : {X : Type 0} (schema : Schema) (table : Table) (at : ℕ) (columns : List ℕ) → IsKeyed schema table at (map suc columns) → (text : List ℕ) (params : Row) (more : List Row) → IsInsert schema table at text params (map bare more)
    → (kept : X → Row) (IsTaken : X → Type 0) → ((n : ℕ) (x : X) → n < 2 ^ 63 → IsTaken x → IsFitRow schema table (map suc columns) (Int (pos n) ∷ kept x))
    → (rows : List Row) → CanNumber (Unlike columns) (IsRowOf kept IsTaken) (more ++ rows) → (old new : State) (e : Error) → old.now.schema ≡ schema → IsDatabase old.now → AreNumbered 1 (old.now.trees table.tree) → IsPermutation rows (map (λ (r : Row). drop 1 r) (old.now.trees table.tree))
    → ExecutesInside 0 text params old new (Err e) → e ≢ SqliteFailure code.OutOfMemory → HasReason old new
behind_fails schema table at columns it text params more put kept IsTaken fit rows can old new e known whole counts held h other =
    let before = old.now.trees table.tree in
    let start = suc (length before) in
    let behind = put_behind before more counts in
    let seen : List Row → List Row = map (λ (r : Row). drop 1 r) in
    let low : start + length more < 2 ^ 63 = omega (arith, can.1, length_permutation _ _ held, length-map before (λ (r : Row). drop 1 r), length-append more rows) in
    let all_seen : seen (put_all before (labelled start more)) ≡ seen before ++ more =
    ap seen behind.all ∙ map-append (λ (r : Row). drop 1 r) before (labelled start more) ∙ ap (λ l. seen before ++ l) (past_labels start more) in
    let apart = pairs_permuted (Unlike columns) (λ a b p. (p.1, p.0)) (more ++ rows) (seen before ++ more) (IsPermutation-trans _ _ _ (IsPermutation-append_right more rows (seen before) held) (IsPermutation-append_comm more (seen before))) can.0.apart in
    insert_fails schema table at (map suc columns) it text params (map bare more) put (labelled start more) old new e known whole behind.news
    (each start more low (all_before (IsRowOf kept IsTaken) more rows can.0.each)) behind.fresh
    (pairs_seen (alike columns) (alike (map suc columns)) (λ (r : Row). drop 1 r) (as_seen plain columns) (put_all before (labelled start more)) (subst (IsAscending (Unlike columns)) (sym all_seen) apart)) h other
  where
    each : (n : ℕ) (rows : List Row) → n + length rows < 2 ^ 63 → AllByRecursion (IsRowOf kept IsTaken) rows → AllByRecursion (IsFitRow schema table (map suc columns)) (labelled n rows)
    each n [] low all = tt
    each n (r ∷ rows) low all = (subst (λ r. IsFitRow schema table (map suc columns) (Int (pos n) ∷ r)) (sym all.0.1) (fit n all.0.0 (omega (arith, low)) all.0.2), each (suc n) rows (omega (arith, low)) all.1)
