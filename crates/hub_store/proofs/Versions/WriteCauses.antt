-- A write to one table, with no table referring to another, stops for a limit on steps, for a rule, or at a row that
-- can't be stored.
use Rattle.std.proofs.Common.{◌≡◌, ◌⊎◌, inl, inr, ℕ, suc, zero, ◌/◌, List, [], ◌∷◌, length, length-append, true, false, cond, IsSome, Option, Some, None}
use Rattle.{std.proofs.{Common.{slice_get, Err, sym, ap, subst, ◌∙◌, arith}, lemmas.Bool.{true≢false, cond-false}}, sqlite_value.specs.Order.Row}
use Rattle.{sqlite_trees.specs.Tree.Trees, sqlite_sql.specs.Term.Term, sqlite_typing.specs.Types.accepts_terms, sqlite_schema.specs.Rules.Refers}
use Rattle.sqlite_schema.specs.declared.{command.{Command.TheVariants.{Insert, Delete}, Source.TheVariants.Values}, program.Program.Program}
use Rattle.{sqlite_schema.specs.declared.schema.{Among.TheVariants.All, Keys.TheVariants.Enforced, Schema.Schema, Table.Table}, sqlite_rules.specs.Action.Leads}
use Rattle.sqlite_rules.specs.{Action.Writes, Calls.ids_of, Edit.{Edit, IsRefused, IsOversized, edit_of, taken_by}, Lists.Has, declared.error.Refusal.Refusal}
use Rattle.{sqlite_rules.specs.declared.error.Rowids.TheVariants.{Chosen, Above, Given}, sqlite.specs.Does.{Does, AtPlace, OnRows, Concludes, Tested}}
use Rattle.sqlite.specs.{Effect.{value_rows, RefusesQuery}, Rows.{Task, Written, Sourced, Queried, Counter, Edited, Inserts, Deletes, stamped, rowids_for}}
use Rattle.{sqlite.specs.{Rows.count_of, State.{State, mode_of}, declared.error.Error.Error}, hub_store.proofs.Rows.Statements.other_one}
use Rattle.hub_store.proofs.Versions.{Beside.{are_unreferred, none_refer, no_works, unreferred_by}, Causes.{stops, gave}}

-- a rule is broken, or a row can't be stored
abbrev pub Breaks : Schema → Trees → Edit → Type 0
Breaks schema db edit = ((why : Refusal) × IsRefused schema Enforced db edit why) ⊎ ((row : Row) × Has edit.news row × IsOversized schema edit.table row)

-- for a schema that is written out each field is `refl`
pub record IsWritable (schema : Schema) (table : Table) (at : ℕ) : Type 0 where
  pub listed : slice_get schema.tables at ≡ Some table
  pub uncounted : table.is_counted ≡ false
  pub unreferred : are_unreferred schema.tables ≡ true

module _ (schema : Schema) (table : Table) (at : ℕ) (it : IsWritable schema table at) where
  ends : (n : ℕ) (next : Trees) (why : Option Refusal) → ¬ Leads schema Enforced n next [] (Err why)
  ends zero next why h = absurd (gave h.1)
  ends (suc n) next why h = absurd (omega (arith, ap length h.2, length-append h.0 (h.1 ∷ [])))

  written : (db : Trees) (edit : Edit) (why : Option Refusal) → Writes schema Enforced db edit (Err why) → Breaks schema db edit
  written db edit why (inl refused) = inl (refused.0, refused.1)
  written db edit why (inr (inl big)) = inr (big.0, big.1, big.2)
  written db edit why (inr (inr h)) = absurd (ends h.2.0 h.0 why (rw (no_works schema Enforced (unreferred_by schema.tables it.unreferred) edit.table.tree (taken_by db edit) edit.news) at h.2.1))

  module _ (limit : Option ℕ) (params : Row) where
    task : Task
    task = record { limit = limit; keys = Enforced; schema = schema; table = table; params = params }

    concludes : (old : State) (w : Written) (stop : Option Error) → ¬ Concludes task (mode_of old) None w (Err stop)
    unfolding task
    concludes old w stop h =
        elim (stops (Tested (mode_of old) (λ among. Refers among schema w.trees)) _ stop h) [
          | inl broken ↦ absurd (broken.0 (none_refer All schema.tables schema.tables w.trees (unreferred_by schema.tables it.unreferred)))
          | inr held ↦ elim held.2 [ inl shown ↦ absurd (gave shown.1) | inr gives ↦ absurd (gave gives.2) ]
        ]

    module _ (terms : List Term) (width : ℕ) (accepted : accepts_terms terms (stamped table params) ≡ true) (db : Trees) where
      abbrev pub insert_edit : Edit
      insert_edit = edit_of db table [] Chosen 0 (value_rows (stamped table params) width (length terms / width) terms)

      sourced : (stop : Option Error) → Sourced limit (record { schema = schema; trees = db }) (stamped table params) (Values terms width) (Err stop) → IsSome limit
      sourced None h = absurd h
      sourced (Some e) (inl h) = absurd (true≢false (sym accepted ∙ h.1))
      sourced (Some e) (inr h) = h.1

      inserts : (stop : Option Error) → Inserts task (Values terms width) db (Err stop) → IsSome limit ⊎ Breaks schema db insert_edit
      unfolding task
      inserts stop h =
          elim (stops (Sourced limit (record { schema = schema; trees = db }) (stamped table params) (Values terms width)) _ stop h) [
            | inl unread ↦ inl (sourced stop unread)
            | inr rows ↦ elim (stops (Counter task db) _ stop rows.2) [
              | inl uncounted ↦ absurd (gave (other_one table.is_counted _ _ it.uncounted uncounted))
              | inr counter ↦
                  let chosen : rowids_for table (count_of counter.0) ≡ Chosen = ap (λ b. cond b (Above (count_of counter.0)) Chosen) it.uncounted in
                  elim (stops (Edited schema Enforced db (edit_of db table [] (rowids_for table (count_of counter.0)) 0 rows.0)) _ stop counter.2) [
                    | inl refused ↦ inr (subst (λ all. Breaks schema db (edit_of db table [] Chosen 0 all)) rows.1.1 (subst (λ ids. Breaks schema db (edit_of db table [] ids 0 rows.0)) chosen (written db _ refused.0 refused.1)))
                    | inr mid ↦ elim mid.2 [
                      | inl uncounted ↦ absurd (gave (other_one _ _ _ (cond-false table.is_counted _ _ it.uncounted) uncounted.1))
                      | inr next ↦ absurd (gave next.2)
                    ]
                  ]
            ]
          ]

  -- why an INSERT stops
  pub insert_stops : (old : State) (sql : List ℕ) (params : Row) (terms : List Term) (width : ℕ) → old.now.schema ≡ schema → accepts_terms terms (stamped table params) ≡ true
      → (stop : Option Error) → Does old.step_limit (mode_of old) params old.now sql None (Insert at (Values terms width)) (Err stop)
      → IsSome old.step_limit ⊎ Breaks schema old.now.trees (edit_of old.now.trees table [] Chosen 0 (value_rows (stamped table params) width (length terms / width) terms))
  unfolding task
  insert_stops old sql params terms width has accepted stop h =
      let does = subst (λ s. Does old.step_limit (mode_of old) params (record old.now { schema = s }) sql None (Insert at (Values terms width)) (Err stop)) has h in
      let placed = subst (λ (o : Option Table). AtPlace (λ (t : Table). OnRows (record (task old.step_limit params) { table = t }) (mode_of old) None (Insert at (Values terms width)) old.now.trees) o (Err stop)) it.listed does in
      elim (stops (Inserts (task old.step_limit params) (Values terms width) old.now.trees) _ stop placed) [
        | inl stopped ↦ inserts old.step_limit params terms width accepted old.now.trees stop stopped
        | inr wrote ↦ absurd (concludes old.step_limit params old wrote.0 stop wrote.2)
      ]

  deletes : (limit : Option ℕ) (q : Program) (db : Trees) (unrefused : (e : Error) → RefusesQuery limit (record { schema = schema; trees = db }) q [] e → IsSome limit)
      → (stop : Option Error) → Deletes (task limit []) q db (Err stop) → IsSome limit ⊎ ((rows : List Row) × Breaks schema db (edit_of db table (ids_of rows) Given 0 []))
  unfolding task
  deletes limit q db unrefused stop h =
      elim (stops (Queried limit (record { schema = schema; trees = db }) q []) _ stop h) [
        | inl unread ↦ inl (unasked stop unread)
        | inr rows ↦ elim (stops (Edited schema Enforced db (edit_of db table (ids_of rows.0) Given 0 [])) _ stop rows.2) [
          | inl refused ↦ inr (rows.0, written db _ refused.0 refused.1)
          | inr next ↦ absurd (gave next.2)
        ]
      ]
    where
      unasked : (stop : Option Error) → Queried limit (record { schema = schema; trees = db }) q [] (Err stop) → IsSome limit
      unasked None h = absurd h
      unasked (Some e) h = unrefused e h

  -- why a DELETE stops
  pub delete_stops : (old : State) (sql : List ℕ) (q : Program) → old.now.schema ≡ schema → ((e : Error) → RefusesQuery old.step_limit (record { schema = schema; trees = old.now.trees }) q [] e → IsSome old.step_limit)
      → (stop : Option Error) → Does old.step_limit (mode_of old) [] old.now sql None (Delete at q) (Err stop)
      → IsSome old.step_limit ⊎ ((rows : List Row) × Breaks schema old.now.trees (edit_of old.now.trees table (ids_of rows) Given 0 []))
  unfolding task
  delete_stops old sql q has unrefused stop h =
      let does = subst (λ s. Does old.step_limit (mode_of old) [] (record old.now { schema = s }) sql None (Delete at q) (Err stop)) has h in
      let placed = subst (λ (o : Option Table). AtPlace (λ (t : Table). OnRows (record (task old.step_limit []) { table = t }) (mode_of old) None (Delete at q) old.now.trees) o (Err stop)) it.listed does in
      elim (stops (Deletes (task old.step_limit []) q old.now.trees) _ stop placed) [
        | inl stopped ↦ deletes old.step_limit q old.now.trees unrefused stop stopped
        | inr wrote ↦ absurd (concludes old.step_limit [] old wrote.0 stop wrote.2)
      ]
