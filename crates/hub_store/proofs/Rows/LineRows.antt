-- Lines as rows that one statement puts: its parameters are the incident, and then six for each line.
use Rattle.std.proofs.Common.{◌≡◌, ◌+◌, ℕ, zero, suc, pos, List, [], ◌∷◌, ◌++◌, map, length, refl, ap, ap₂, subst₂, ◌∙◌, arith, append_assoc}
use Rattle.{std.proofs.lemmas.List.{length-append, get_or-append-add}, sqlite_value.specs.{Order.{Row, column}, declared.value.Value.TheVariants.{Null, Int}}}
use Rattle.{sqlite_sql.specs.Term.{Term, eval_all}, sqlite_rules.specs.Cast.cast_row, sqlite.specs.Effect.value_rows, iodef_tree.specs.declared.line.Line.Line}
use Rattle.{hub_state.specs.{Documents.Lines, State.State}, hub_store.proofs.Rows.{Compare.{cast_int, cast_null, cast_flag}, Held.bare, PartRows.Stands}}
use Rattle.hub_store.{proofs.Rows.{Places.item_place, Texts.line_terms}, specs.{Items.{Item, items_from, item_row, placed_lines, kind_number}, Layout.newest}}
use Rattle.hub_store.specs.Layout.{in_every_version, item_part, behind_items}

-- the terms of this many lines, the first from a parameter on
abbrev pub terms_for : ℕ → ℕ → List Term
terms_for at zero = []
terms_for at (suc count) = line_terms at ++ terms_for (at + 6) count

as_first : (k : ℕ) → suc k ≡ suc (k + 0)
as_first k = omega arith

past_first : (k i : ℕ) → suc k + i ≡ suc (k + i)
past_first k i = omega arith

six_on : (k m : ℕ) → m ≡ k + 6 → suc m ≡ suc k + 6
six_on k m e = omega (arith, e)

beyond : (before row : Row) (k : ℕ) → column (before ++ row) (length before + k) ≡ column row k
beyond before row k = get_or-append-add before row k Null

-- the columns of a line come after what was given before
row_of : (n place : ℕ) (before : Row) (l : Line) (ls : Lines) → eval_all (line_terms (suc (length before))) ((Int (pos n) ∷ before ++ placed_lines place (l ∷ ls)) ∷ []) ≡ bare (item_row (record { incident = n; place = place; line = l }))
row_of n place before l ls =
    let own = placed_lines place (l ∷ ls) in
    let params = Int (pos n) ∷ before ++ own in
    let at = suc (length before) in
    let is_column : (k : ℕ) → column params (at + k) ≡ column own k = λ k. ap (column params) (past_first (length before) k) ∙ beyond before own k in
    let first : column params at ≡ Int (pos place) = ap (column params) (as_first (length before)) ∙ beyond before own 0 in
    rw (first, is_column 1, is_column 2, is_column 3, is_column 4, is_column 5) refl

pub rows_for : (n place : ℕ) (before : Row) (ls : Lines) → value_rows (Int (pos n) ∷ before ++ placed_lines place ls) 8 (length ls) (terms_for (suc (length before)) (length ls)) ≡ map bare (map item_row (items_from n place ls))
rows_for n place before [] = refl
rows_for n place before (l ∷ ls) =
    let own = placed_lines place (l ∷ []) in
    let long : length (before ++ own) ≡ length before + 6 = length-append before own in
    let rest = subst₂ (λ p k. value_rows (Int (pos n) ∷ p) 8 (length ls) (terms_for k (length ls)) ≡ map bare (map item_row (items_from n (suc place) ls))) (append_assoc before own (placed_lines (suc place) ls)) (six_on (length before) (length (before ++ own)) long) (rows_for n (suc place) (before ++ own) ls) in
    ap₂ (λ r rs. r ∷ rs) (row_of n place before l ls) rest

cast_item : (rows : List Row) (x : Item) → cast_row (item_part rows).table (bare (item_row x)) ≡ bare (item_row x)
cast_item rows x = rw (cast_int x.incident, cast_int x.place, cast_int x.line.depth, cast_flag x.line.in_array, cast_int (kind_number x.line.kind), cast_null) refl

pub cast_items : (rows : List Row) (xs : List Item) → map (cast_row (item_part rows).table) (map bare (map item_row xs)) ≡ map bare (map item_row xs)
cast_items rows [] = refl
cast_items rows (x ∷ xs) = ap₂ (λ r rs. r ∷ rs) (cast_item rows x) (cast_items rows xs)

-- the place of the table of lines among those of the newest version
pub stands_between : (s : State) (items incidents : List Row) → Stands (in_every_version newest s) (item_part items) (behind_items s incidents) item_place
stands_between s items incidents = record { listed = refl; uncounted = refl; timeless = refl; alone = λ tree olds news. refl; apart = refl; same = λ rows. refl }
