-- The text that asks for the version can be compiled if there is the column.
use Rattle.std.proofs.Common.{◌≡◌, ◌<◌, ◌+◌, ◌^◌, ◌≤◌, ◌==◌, inl, inr, ℕ, List, [], ◌∷◌, Bool, true, false, cond, nat_le, count_by, is_some, slice_get}
use Rattle.std.proofs.{Common.{option_map, Some, None, Ok, Err, refl, sym, ap, subst, ◌∙◌, add-one, eq-eqb, arith}, lemmas.Bool.{true≢false, Decides.leb_tells}}
use Rattle.{std.{proofs.lemmas.{List.Sums.sum_by-cons, Option.slice_get-map}, specs.List.find}, sqlite_rules.{proofs.ListLemmas.has_got, specs.Lists.Has}}
use Rattle.sqlite_schema.specs.{Names.{place_of, is_key}, declared.{command.Command.TheVariants.Select, schema.{Column.Column, Schema.Schema, Table.Table}}}
use Rattle.sqlite_typing.specs.{Types.{accepts_program, table_classes, row_classes, column_class, class_in}, declared.class.Class.Class}
use Rattle.{sqlite_resolve.specs.{Compile.compiled, Lowering.Checked, declared.compiled.Compiled.Compiled}, sqlite_catalog.proofs.LayoutLemmas.zipped_left}
use Rattle.{sqlite_catalog.specs.Listing.IsTableRow, sqlite.specs.{Effect.{Database, IsDatabase, RefusesToRead}, Listing.{understood, if_select, misses_table}}}
use Rattle.{sqlite.specs.{Listing.listing_schema, declared.error.Error.Error}, hub_store.proofs.{Rows.Forms.program, Versions.AnySchema.{column_query, asks}}}
use Rattle.hub_store.{proofs.Versions.{AnySchema.{reads, typed}, VersionRows.with_place}, specs.Versions.{version_column, version_text}}
use Rattle.sqlite_schema.specs.declared.schema.Kind.TheVariants as kind

-- ---- lists

passes_counted : {X : Type 0} (p : X → Bool) (xs : List X) (x : X) → Has xs x → p x ≡ true → 1 ≤ count_by p xs
passes_counted p [] x h is = absurd h
passes_counted p (y ∷ xs) x (inl same) is = omega (arith, sum_by-cons (λ x. cond (p x) 1 0) y xs, ap {B = ℕ} (λ b. cond b 1 0) (ap p (sym same) ∙ is))
passes_counted p (y ∷ xs) x (inr later) is = omega (arith, sum_by-cons (λ x. cond (p x) 1 0) y xs, passes_counted p xs x later is)

-- an element is found if it alone passes
lone_found : {X : Type 0} (p : X → Bool) (xs : List X) (x : X) → count_by p xs ≡ 1 → Has xs x → p x ≡ true → find p xs ≡ Some x
lone_found p [] x one h is = absurd h
lone_found p (y ∷ xs) x one h is = go (p y) refl (sym (sum_by-cons (λ x. cond (p x) 1 0) y xs) ∙ one) h (λ one h. lone_found p xs x one h is)
  where
    go : (b : Bool) → p y ≡ b → cond (p y) 1 0 + count_by p xs ≡ 1 → Has (y ∷ xs) x → (count_by p xs ≡ 1 → Has xs x → find p xs ≡ Some x) → cond b (Some y) (find p xs) ≡ Some x
    go true here one (inl same) more = ap Some (sym same)
    go true here one (inr later) more = absurd (omega (arith, one, ap {B = ℕ} (λ b. cond b 1 0) here, passes_counted p xs x later is))
    go false off one (inl same) more = absurd (true≢false (sym is ∙ ap p same ∙ off))
    go false off one (inr later) more = more (omega (arith, one, ap {B = ℕ} (λ b. cond b 1 0) off)) later

-- ---- the types of the query

-- a column's place in a row has a class
class_there : (table : Table) (place : ℕ) (column : Column) → slice_get table.columns place ≡ Some column → (c : Class) × (slice_get (row_classes table) (place_of table place) ≡ Some c)
class_there table place column there = go (is_key table.key place)
  where
    go : (b : Bool) → (c : Class) × (slice_get (row_classes table) (cond b 0 (place + 1)) ≡ Some c)
    go true = (column_class kind.Integer, refl)
    go false = (class_in column, rw (add-one place) (slice_get-map class_in table.columns place ∙ ap (option_map class_in) there))

low_tree : (n : ℕ) → n < 65536 → nat_le (2 ^ 31) n ≡ false
low_tree n low = elim (leb_tells (2 ^ 31) n) [ inl high ↦ absurd (omega (arith, high.1, low)) | inr is ↦ is.0 ]

table_known : (schema : Schema) (table : Table) → nat_le (2 ^ 31) table.tree ≡ false → find (λ (t : Table). t.tree == table.tree) schema.tables ≡ Some table → table_classes schema [] table.tree ≡ Some (row_classes table)
table_known schema table low found = simp (low, found)

typed_by : (schema : Schema) (tree place : ℕ) (row : List Class) (c : Class) → table_classes schema [] tree ≡ Some row → slice_get row place ≡ Some c → accepts_program schema [] (column_query tree place) [] ≡ true
typed_by schema tree place row c known there = simp (known, there)

-- ---- the text

-- what is compiled is no query of the listing
understood_as : (schema : Schema) (c : Compiled) → compiled schema version_text ≡ Ok c → understood schema version_text ≡ Ok c
unfolding understood
understood_as schema c e = go (compiled schema version_text) e
  where
    go : (r : Checked Compiled) → r ≡ Ok c → cond (misses_table r) (if_select (compiled listing_schema version_text)) r ≡ Ok c
    go (Ok d) e = e
    go (Err fault) e = absurd cc

-- if there is the column, the text is read
pub read_there : (db : Database) → IsDatabase db → is_some (version_column db.schema) ≡ true → (c : Compiled) × (understood db.schema version_text ≡ Ok c)
read_there db sound there =
    with_place db.schema there (λ at place table column hub alone has listed called inside.
    let own : Has db.schema.tables table = has_got db.schema.tables at table listed in
    let low : table.tree < 65536 = (zipped_left IsTableRow _ db.schema.tables table sound.lists.listed.tables own).2.described.low in
    let class' = class_there table place column inside in
    let found = lone_found (λ (t : Table). t.tree == table.tree) db.schema.tables table alone own (eq-eqb _ _ refl) in
    let known = table_known db.schema table (low_tree table.tree low) found in
    let it = reads db.schema at place table column has listed called inside (typed_by db.schema table.tree (place_of table place) (row_classes table) class'.0 known class'.1) in
    (it.0, understood_as db.schema it.0 it.1))

-- without a limit on steps nothing that is understood is refused
pub never_refused : (db : Database) → is_some (version_column db.schema) ≡ true → (c : Compiled) (e : Error) → compiled db.schema version_text ≡ Ok c → RefusesToRead None c.command db [] e → ⊥
never_refused db there c e is refuses =
    with_place db.schema there (λ at place table column hub alone has listed called inside.
    let asked = asks db.schema at place table column has listed called inside c is in
    refused (table.tree) (place_of table place) (column.name ∷ []) (typed db.schema at place table column has listed called inside c is) (subst (λ k. RefusesToRead None k db [] e) asked refuses))
  where
    refused : (tree place : ℕ) (heads : List (List ℕ)) → accepts_program db.schema [] (column_query tree place) [] ≡ true → RefusesToRead None (Select (program (column_query tree place)) heads) db [] e → ⊥
    refused tree place heads fine (inl h) = true≢false (sym fine ∙ h.1)
    refused tree place heads fine (inr (inl (is, inl none))) = none
    refused tree place heads fine (inr (inl (is, inr rows))) = rows.4
    refused tree place heads fine (inr (inr h)) = let some = h.1 in cc
