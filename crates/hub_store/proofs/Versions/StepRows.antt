-- Rows that a text puts into the last part, and the rows of a step, which are put one after another in any order.
use Rattle.std.proofs.{Common.{◌≡◌, inl, List, [], ◌∷◌, ◌++◌, map, ℕ, Ok, refl, sym, ap, subst}, lemmas.List.{map-append, Sorted.IsPermutation-map}}
use Rattle.{std.{proofs.lemmas.List.Sorted.IsPermutation-sym, specs.List.Sorted.IsPermutation}, sqlite_value.specs.Order.Row}
use Rattle.{sqlite_trees.proofs.ListLemmas.map-map, sqlite_schema.specs.declared.schema.Keys.TheVariants.Enforced, sqlite_rules.proofs.ProbeLemmas.has_mapped}
use Rattle.{sqlite_rules.specs.{Edit.{Applies, numbered}, declared.error.Rowids.TheVariants.Chosen}, sqlite.specs.{State.{State, Executes}, Values.bound_value}}
use Rattle.hub_store.proofs.Rows.{Held.{come_in, permuted}, Lists.has_permuted, PartRows.{Stands, changes, with_rows}, Statements.inserted}
use Rattle.hub_store.{proofs.Versions.{Causes.plain_of, Inserts.IsInsert}, specs.{Holdings.IsHeld, Layout.Step, Parts.{Part, HoldsParts, held, schema_of}}}
use Rattle.hub_store.specs.inner.Remakes.{FailsForReason, HoldsAnew, Leaves, PutsEach, TakesEach}
use Rattle.sqlite_trees.specs.declared.store.Store as store

-- the rows that a text puts are in their part
pub puts_rows : (qs : List Part) (p : Part) (rs : List Part) (at : ℕ) → Stands qs p rs at → (text : List ℕ) (params : Row) (rows : List Row) → IsInsert (schema_of (qs ++ p ∷ rs)) p.table at text params rows
    → (shown : List Row) → ((before : List Row) → map p.seen (numbered Chosen before rows) ≡ shown) → (more : List Row) → IsPermutation (shown ++ p.rows) more
    → (old new : State) (count : ℕ) → Executes text params old new (Ok count) → HoldsParts (qs ++ p ∷ rs) old.now → HoldsParts (qs ++ with_rows more p ∷ rs) new.now
puts_rows qs p rs at stands text params rows put shown shows more same old new count h has =
    let s = schema_of (qs ++ p ∷ rs) in
    let c = inserted s p.table at stands.listed stands.uncounted stands.timeless stands.alone text params old new has.known (plain_of text params _ put.whole) count h put.terms put.width put.command in
    let before = old.now.trees p.table.tree in
    let a = subst (λ n. Applies s Enforced old.now.trees (record { table = p.table; gone = []; news = n }) new.now.trees) (ap (numbered Chosen before) put.given) c.applies in
    changes qs p rs more old.now new.now _ refl stands.apart (stands.same more) c.schema_is c.whole a
    (λ one. permuted new.now.trees p.table.tree p.seen (shown ++ p.rows) more same (subst (λ l. IsHeld new.now.trees (held (with_rows (l ++ p.rows) p))) (shows before) (come_in old.now.trees new.now.trees p.table p.seen p.rows _ a one))) has

-- ---- the rows of these elements, as the old table shows them

module _ {S : Type 0} (g : store.Ghosts S) (text : List ℕ) (step : Step) (ps : List Part) {X : Type 0} (shown : X → Row) (xs : List X) where
  pub puts_each : ((x : X) (rows : List Row) → Leaves g text (map bound_value (shown x)) (HoldsAnew step rows ps) (HoldsAnew step (step.row (shown x) ∷ rows) ps)) → PutsEach g text step (map shown xs) ps
  puts_each one row has rows =
      let x = has_mapped shown xs row has in
      subst (λ r. Leaves g text (map bound_value r) (HoldsAnew step rows ps) (HoldsAnew step (step.row r ∷ rows) ps)) (sym x.2) (one x.0 rows)

  -- the new table takes all of them, so it takes one after another
  pub takes_each : (Can : List Row → Type 0) → ((rows more : List Row) → IsPermutation rows more → Can rows → Can more) → ((rows rest : List Row) → Can (rows ++ rest) → Can rows) → Can (map (λ x. step.row (shown x)) xs)
      → ((x : X) (rows : List Row) → Can (step.row (shown x) ∷ rows) → FailsForReason g text (map bound_value (shown x)) (HoldsAnew step rows ps)) → TakesEach g text step (map shown xs) ps
  takes_each Can permuted first can one row rows rest is =
      let x = has_mapped shown xs row (has_permuted (row ∷ rows ++ rest) (map shown xs) is row (inl refl)) in
      let all = permuted _ (map step.row (row ∷ rows ++ rest)) (IsPermutation-map step.row _ _ (IsPermutation-sym _ _ is)) (subst Can (sym (map-map step.row shown xs)) can) in
      let some = first (step.row row ∷ map step.row rows) (map step.row rest) (subst (λ l. Can (step.row row ∷ l)) (map-append step.row rows rest) all) in
      subst (λ r. FailsForReason g text (map bound_value r) (HoldsAnew step (map step.row rows) ps)) (sym x.2) (one x.0 (map step.row rows) (subst (λ r. Can (step.row r ∷ map step.row rows)) x.2 some))
