-- Twenty lines, put by one statement.
use Rattle.std.proofs.Common.{◌≡◌, ◌≢◌, ℕ, ◌*◌, suc, pos, List, [], ◌∷◌, ◌++◌, map, length, true, is_some, Ok, Err, codes, refl, sym, ap, subst, append-nil}
use Rattle.{std.{proofs.{Common.◌∙◌, lemmas.List.Sorted.IsPermutation-sym}, specs.List.AllByRecursion}, sqlite_value.specs.Order.Row}
use Rattle.{sqlite_value.specs.declared.value.Value.TheVariants.Int, sqlite_schema.specs.declared.command.Command.TheVariants.Insert}
use Rattle.{sqlite_schema.specs.declared.{command.Source.TheVariants.Values, schema.Schema.Schema}, sqlite_tied.specs.Compute.everything}
use Rattle.sqlite.{proofs.Callers.command_of, specs.{Effect.value_rows, Listing.understood, State.{Executes, ExecutesInside}, declared.error.Error.Error}}
use Rattle.{sqlite.specs.declared.error.Error.TheVariants.SqliteFailure, sqlite_rules.specs.Cast.cast_row, sqlite_typing.specs.Types.{accepts_terms, class_of}}
use Rattle.{hub_state.specs.{Documents.Lines, State.{State, empty}}, hub_store.proofs.Rows.{Held.{bare, past_rowids}, LineRows.{terms_for, rows_for}}}
use Rattle.hub_store.proofs.{Rows.{LineRows.{cast_items, stands_between}, Places.item_place}, Versions.{Causes.IsWhole, Inserts.IsInsert}}
use Rattle.hub_store.proofs.Versions.{LineCauses.{lines_fail, terms_accepted, lines_bound, lines_long}, Migrating.lines_beside, Standing.stand_permuted}
use Rattle.hub_store.{proofs.Versions.StepRows.puts_rows, specs.{Failing.HasReason, Items.{items_from, item_row, placed_lines}, Layout.newest}}
use Rattle.hub_store.specs.{Layout.{in_every_version, item_part, behind_items, newest_tables, with_items}, Means.HoldsBetween, Parts.{schema_of, HoldsParts}}
use Rattle.hub_store.specs.{Tables.hub_schema, inner.{Beside.{HoldsBeside, CanStand}, PutsLines.HasMore}}
use Rattle.sqlite.specs.State as sql
use Rattle.sqlite.specs.declared.error.ErrorCode.TheVariants as code

abbrev pub put_twenty : List ℕ
put_twenty = codes "INSERT INTO item (incident, place, depth, name, in_array, kind, text) VALUES (?1, ?2, ?3, ?4, ?5, ?6, ?7), (?1, ?8, ?9, ?10, ?11, ?12, ?13), (?1, ?14, ?15, ?16, ?17, ?18, ?19), (?1, ?20, ?21, ?22, ?23, ?24, ?25), (?1, ?26, ?27, ?28, ?29, ?30, ?31), (?1, ?32, ?33, ?34, ?35, ?36, ?37), (?1, ?38, ?39, ?40, ?41, ?42, ?43), (?1, ?44, ?45, ?46, ?47, ?48, ?49), (?1, ?50, ?51, ?52, ?53, ?54, ?55), (?1, ?56, ?57, ?58, ?59, ?60, ?61), (?1, ?62, ?63, ?64, ?65, ?66, ?67), (?1, ?68, ?69, ?70, ?71, ?72, ?73), (?1, ?74, ?75, ?76, ?77, ?78, ?79), (?1, ?80, ?81, ?82, ?83, ?84, ?85), (?1, ?86, ?87, ?88, ?89, ?90, ?91), (?1, ?92, ?93, ?94, ?95, ?96, ?97), (?1, ?98, ?99, ?100, ?101, ?102, ?103), (?1, ?104, ?105, ?106, ?107, ?108, ?109), (?1, ?110, ?111, ?112, ?113, ?114, ?115), (?1, ?116, ?117, ?118, ?119, ?120, ?121)"

is_put : command_of (understood hub_schema put_twenty) ≡ Insert item_place (Values (terms_for 1 20) 8)
unfolding understood everything
is_put = refl

-- the schema while version 1 is being left
abbrev beside : Schema
beside = schema_of (with_items [] empty)

is_put_beside : command_of (understood beside put_twenty) ≡ Insert 10 (Values (terms_for 1 20) 8)
unfolding understood everything
is_put_beside = refl

abbrev twenty : ℕ → ℕ → Lines → Row
twenty n place ls = Int (pos n) ∷ placed_lines place ls

module _ (n place : ℕ) (ls : Lines) (long : length ls ≡ 20) where
  many : length (twenty n place ls) ≡ 121
  many = ap suc (lines_long place ls ∙ ap (λ k. 6 * k) long)

  is_whole : IsWhole put_twenty (twenty n place ls) (understood hub_schema put_twenty)
  unfolding understood everything
  is_whole = (refl, refl, many, refl)

  is_whole_beside : IsWhole put_twenty (twenty n place ls) (understood beside put_twenty)
  unfolding understood everything
  is_whole_beside = (refl, refl, many, refl)

  inserts : (schema : Schema) (at : ℕ) → command_of (understood schema put_twenty) ≡ Insert at (Values (terms_for 1 20) 8) → IsWhole put_twenty (twenty n place ls) (understood schema put_twenty)
      → IsInsert schema (item_part []).table at put_twenty (twenty n place ls) (map bare (map item_row (items_from n place ls)))
  inserts schema at is whole =
      let params = twenty n place ls in
      let rows = map bare (map item_row (items_from n place ls)) in
      let given = subst (λ k. value_rows params 8 k (terms_for 1 k) ≡ rows) long (rows_for n place [] ls) in
      let bound : AllByRecursion (λ v. is_some (class_of v) ≡ true) params = (refl, lines_bound place ls) in
      record {
        terms = terms_for 1 20;
        width = 8;
        command = is;
        whole = whole;
        accepted = subst (λ p. accepts_terms (terms_for 1 20) p ≡ true) (sym (append-nil params)) (terms_accepted params 1 20 bound);
        given = ap (map (cast_row (item_part []).table)) (subst (λ p. value_rows p 8 20 (terms_for 1 20) ≡ rows) (sym (append-nil params)) given) ∙ cast_items [] (items_from n place ls);
      }

module _ (n place : ℕ) (ls : Lines) (long : length ls ≡ 20) (old new : sql.State) (count : ℕ) (h : Executes put_twenty (twenty n place ls) old new (Ok count)) (s : State) (items more : List Row) (same : HasMore n place ls items more) where
  pub puts_twenty : (incidents : List Row) → HoldsBetween items incidents old.now s → HoldsBetween more incidents new.now s
  puts_twenty incidents between =
      let all = map item_row (items_from n place ls) in
      let has : HoldsParts (newest_tables items incidents s) old.now = record { known = between.known; whole = between.whole; means = between.means } in
      let put = puts_rows (in_every_version newest s) (item_part items) (behind_items s incidents) item_place (stands_between s items incidents) put_twenty _ (map bare all) (inserts n place ls long hub_schema item_place is_put (is_whole n place ls long)) all (λ before. past_rowids before all) more same old new count h has in
      record { known = put.known; whole = put.whole; means = put.means; fit = between.fit }

  pub moves_twenty : HoldsBeside items s old.now → HoldsBeside more s new.now
  moves_twenty has = lines_beside put_twenty _ (map item_row (items_from n place ls)) items more s (inserts n place ls long beside 10 is_put_beside (is_whole_beside n place ls long)) same old new count h has

-- twenty lines fail only for a reason
pub twenty_fail : (n place : ℕ) (ls : Lines) → length ls ≡ 20 → (s : State) (items more : List Row) → HasMore n place ls items more → CanStand more
    → (old new : sql.State) (e : Error) → ExecutesInside 0 put_twenty (twenty n place ls) old new (Err e) → HoldsBeside items s old.now → e ≢ SqliteFailure code.OutOfMemory → HasReason old new
twenty_fail n place ls long s items more same can old new e h has other =
    let all = map item_row (items_from n place ls) in
    lines_fail put_twenty _ all items s (inserts n place ls long beside 10 is_put_beside (is_whole_beside n place ls long)) (stand_permuted more (all ++ items) (IsPermutation-sym _ _ same) can) old new e h has other
