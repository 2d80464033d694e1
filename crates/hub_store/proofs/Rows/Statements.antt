-- A statement on one table, for any table.
use Rattle.std.proofs.Common.{◌≡◌, ◌⊎◌, inl, inr, ℕ, ℤ, ◌/◌, List, [], ◌∷◌, ◌++◌, map, filter, flat_map, drop, length, slice_get, Bool, true, false, cond, Some}
use Rattle.std.proofs.{Common.{None, Option, Ok, Err, Result, MatchBool, refl, sym, ap, unwrap_or, nat_le, ◌^◌, subst, subst₂, ◌∙◌}, Math.Path.fun_ext}
use Rattle.std.{proofs.lemmas.{Bool.cond-false, List.Sorted.IsPermutation-map}, specs.List.{list_all, Sorted.{IsPermutation, IsSorted}}}
use Rattle.{sqlite_value.specs.{Order.Row, declared.{keys.Key.Key, value.Value.TheVariants.Null}}, sqlite_trees.{proofs.ListLemmas.map-map, specs.Tree.Trees}}
use Rattle.sqlite_sql.specs.{Program.overlay, Query.{Query, inner, end, matches, IsAnswer, output, Output, output_cmp, limited, as_count}, Term.{Term, holds}}
use Rattle.{sqlite_sql.specs.Term.{eval, eval_all}, sqlite_schema.specs.declared.command.Command.{Command, TheVariants.{Insert, Delete, Update}}}
use Rattle.sqlite_schema.specs.declared.{command.Source.TheVariants.Values, schema.{Keys.TheVariants.Enforced, Schema.Schema, Table.Table}}
use Rattle.sqlite_rules.specs.{Action.works, Calls.ids_of, Cast.cast_row, Edit.{Edit, taken_by, edit_of, numbered, without_all, Applies}}
use Rattle.{sqlite_rules.specs.declared.error.Rowids.TheVariants.{Chosen, Above, Given}, sqlite.proofs.Callers.{IsPlain, command_of, statement_of, runs_as}}
use Rattle.sqlite.{proofs.Callers.one_step, specs.{Does.{Tally, Does, AtPlace, OnRows, WritesRows}, Effect.{Database, IsDatabase, value_rows}}}
use Rattle.sqlite.specs.{Listing.understood, Rows.{Written, stamped, Task, rowids_for, count_of}, State.{State, mode_of, Runs, Writes, Executes}}
use Rattle.hub_store.proofs.Rows.Forms.{one_table, program}
use Rattle.sqlite_rules.specs.Action

-- the row passes each test
abbrev pub keeps : List Term → Row → Row → Bool
keeps terms params r = list_all (holds (params ∷ r ∷ [])) terms

abbrev pub shows : List Term → Row → Row → Row
shows project params r = eval_all project (params ∷ r ∷ [])

kept_of : {X : Type 0} (p : Row → Bool) (f : Row → X) (rows : List Row) → flat_map (λ r. cond (p r) (f r ∷ []) []) rows ≡ map f (filter p rows)
kept_of p f [] = refl
kept_of p f (r ∷ rows) =
    elim (p r) as (λ b. cond b (f r ∷ []) [] ++ flat_map (λ r. cond (p r) (f r ∷ []) []) rows ≡ map f (cond b (r ∷ filter p rows) (filter p rows)))
    [ true ↦ ap (λ l. f r ∷ l) (kept_of p f rows) | false ↦ kept_of p f rows ]

pub matched : (db : Trees) (tree : ℕ) (terms : List Term) (params : Row) → matches db terms (inner tree end) (params ∷ []) ≡ map (λ r. params ∷ r ∷ []) (filter (keeps terms params) (db tree))
matched db tree terms params = kept_of (keeps terms params) (λ r. params ∷ r ∷ []) (db tree)

-- a query of one table shows its rows in some order
pub selected : (db : Trees) (tree : ℕ) (terms project : List Term) (params : Row) (rows : List Row) → IsAnswer (one_table tree terms project) db params rows
    → IsPermutation (map (shows project params) (filter (keeps terms params) (db tree))) rows
selected db tree terms project params rows a =
    let q = one_table tree terms project in
    let staged : a.staged ≡ map (λ r. params ∷ r ∷ []) (filter (keeps terms params) (db tree)) = a.grouped ∙ matched db tree terms params in
    let kept : a.kept ≡ map (λ r. output q (params ∷ r ∷ [])) (filter (keeps terms params) (db tree)) = a.distinct ∙ ap (map (output q)) staged ∙ map-map (output q) (λ r. params ∷ r ∷ []) _ in
    let moved = IsPermutation-map (λ (o : Output). o.1) _ _ (subst (λ k. IsPermutation k a.ordered) kept a.same) in
    subst (IsPermutation _) (sym a.shown) (subst (λ l. IsPermutation l (map (λ (o : Output). o.1) a.ordered)) (map-map (λ (o : Output). o.1) _ _) moved)

-- the same under ORDER BY and LIMIT
pub ordered_rows : (db : Trees) (tree : ℕ) (terms project : List Term) (order : List (Term × Key)) (limit : Term) (params : Row) (rows : List Row) → IsAnswer (record (one_table tree terms project) { order = order; limit = limit }) db params rows
    → (all : List Output) × IsPermutation (map (λ r. (eval_all (map (λ (k : Term × Key). k.0) order) (params ∷ r ∷ []), shows project params r)) (filter (keeps terms params) (db tree))) all
    × IsSorted (output_cmp (record (one_table tree terms project) { order = order; limit = limit })) all × (rows ≡ limited (as_count (eval limit (params ∷ []))) (map (λ (o : Output). o.1) all))
ordered_rows db tree terms project order limit params rows a =
    let q : Query = record (one_table tree terms project) { order = order; limit = limit } in
    let staged : a.staged ≡ map (λ r. params ∷ r ∷ []) (filter (keeps terms params) (db tree)) = a.grouped ∙ matched db tree terms params in
    let kept : a.kept ≡ map (λ r. output q (params ∷ r ∷ [])) (filter (keeps terms params) (db tree)) = a.distinct ∙ ap (map (output q)) staged ∙ map-map (output q) (λ r. params ∷ r ∷ []) _ in
    (a.ordered, subst (λ k. IsPermutation k a.ordered) kept a.same, a.sorted, a.shown)

pub record Changed (schema : Schema) (table : Table) (gone : List ℤ) (news : List Row) (old new : Database) : Type 0 where
  pub schema_is : new.schema ≡ schema
  pub applies : Applies schema Enforced old.trees (record { table = table; gone = gone; news = news }) new.trees
  pub whole : IsDatabase new

pub overlaid : (db : Trees) → overlay db [] ≡ db
overlaid db = fun_ext (λ t. ap (λ (o : Option (List Row)). unwrap_or o (db t)) (none (nat_le (2 ^ 31) t)))
  where
    none : (b : Bool) → cond {A = Option (List Row)} b None None ≡ None
    none true = refl
    none false = refl

pub same_ok : {B E : Type 0} {a b : B} → ◌≡◌ {A = Result B E} (Ok a) (Ok b) → a ≡ b
same_ok e = cc

-- a part that gave a value did not stop before
pub went : {B E R : Type 0} {b : B} {Stops : E → Type 0} → ((stop : E) × Stops stop × (Ok b ≡ Err stop)) ⊎ R → R
went (inl stopped) = absurd (let e = stopped.2 in cc)
went (inr on) = on

-- which of the two, if the test is false
pub other_one : (b : Bool) (A B : Type 0) → b ≡ false → MatchBool b A B → B
other_one b A B e h = subst (λ b. MatchBool b A B) e h

module _ (schema : Schema) (table : Table) (at : ℕ) (listed : slice_get schema.tables at ≡ Some table) (uncounted : table.is_counted ≡ false) (timeless : table.stamps.terms ≡ [])
    (alone : (tree : ℕ) (olds news : List Row) → works schema Enforced 0 tree olds news ≡ []) where
  module _ (sql : List ℕ) (params : Row) (old new : State) (has : old.now.schema ≡ schema) (plain : IsPlain (understood schema sql)) (count : ℕ) (h : Executes sql params old new (Ok count)) where
    task : Task
    task = record { limit = old.step_limit; keys = Enforced; schema = schema; table = table; params = params }

    on_rows : (command : Command) → command_of (understood schema sql) ≡ command
        → (Runs old new None command (statement_of sql (understood schema sql)) params count → Writes old new None command (statement_of sql (understood schema sql)) params count) → ((tally : Tally) (db : Database) → Does old.step_limit (mode_of old) params (record old.now { schema = schema }) (statement_of sql (understood schema sql)) None command (Ok (tally, db)) → AtPlace (λ t. OnRows (record { limit = old.step_limit; keys = Enforced; schema = schema; table = t; params = params }) (mode_of old) None command old.now.trees) (slice_get schema.tables at) (Ok (tally, db)))
        → (w : Written) × WritesRows task old.now.trees command (Ok w) × (new.now ≡ record { schema = schema; trees = w.trees }) × IsDatabase new.now
    unfolding task
    on_rows command is writes opens =
        let w = writes (runs_as sql params old new schema has command is plain count h) in
        let does = subst (λ s. Does old.step_limit (mode_of old) params (record old.now { schema = s }) (statement_of sql (understood schema sql)) None command (Ok (w.tally, new.now))) has w.changed in
        let placed = opens w.tally new.now does in
        let done = went (rw listed at placed) in
        let ends = went (went done.2).2 in
        (done.0, done.1, ap (λ (p : Tally × Database). p.1) (same_ok ends.2), w.sound)

    applied : (edit : Edit) (next : Trees) → Action.Writes schema Enforced old.now.trees edit (Ok next) → Applies schema Enforced old.now.trees edit next
    applied edit next = one_step schema Enforced old.now.trees next edit (alone edit.table.tree (taken_by old.now.trees edit) edit.news)

    pub deleted : (q : Query) → command_of (understood schema sql) ≡ Delete at (program q)
        → (rows : List Row) × IsAnswer q old.now.trees params rows × Changed schema table (ids_of rows) [] old.now new.now
    unfolding task
    deleted q is =
        let did = on_rows (Delete at (program q)) is (λ w. w) (λ tally db d. d) in
        let asked = went did.1 in
        let written = went asked.2 in
        let step = applied (edit_of old.now.trees table (ids_of asked.0) Given 0 []) written.0 written.1 in
        let trees : did.0.trees ≡ written.0 = ap (λ (it : Written). it.trees) (same_ok written.2) in
        let now : new.now ≡ record { schema = schema; trees = written.0 } = did.2 ∙ ap (λ t. record { schema = schema; trees = t }) trees in
        (asked.0, subst (λ t. IsAnswer q t params asked.0) (overlaid old.now.trees) (asked.1.answer Null), record { schema_is = ap (λ (d : Database). d.schema) now; applies = subst (Applies schema Enforced old.now.trees _) (sym (ap (λ (d : Database). d.trees) now)) step; whole = did.3 })

    pub inserted : (terms : List Term) (width : ℕ) → command_of (understood schema sql) ≡ Insert at (Values terms width)
        → Changed schema table [] (numbered Chosen (old.now.trees table.tree) (map (λ s. cast_row table (drop 0 s)) (value_rows (stamped table params) width (length terms / width) terms))) old.now new.now
    unfolding task
    inserted terms width is =
        let did = on_rows (Insert at (Values terms width)) is (λ w. w) (λ tally db d. d) in
        let asked = went did.1 in
        let counter = went asked.2 in
        let written = went counter.2 in
        let counted = went written.2 in
        let chosen : rowids_for table (count_of counter.0) ≡ Chosen = ap (λ b. cond b (Above (count_of counter.0)) Chosen) uncounted in
        let wrote : Action.Writes schema Enforced old.now.trees (edit_of old.now.trees table [] Chosen 0 asked.0) (Ok written.0) = subst (λ r. Action.Writes schema Enforced old.now.trees (edit_of old.now.trees table [] r 0 asked.0) (Ok written.0)) chosen written.1 in
        let rows : asked.0 ≡ value_rows (stamped table params) width (length terms / width) terms = asked.1.1 in
        let mid : counted.0 ≡ written.0 = same_ok (other_one _ _ _ (cond-false table.is_counted _ _ uncounted) counted.1) in
        let step = applied (edit_of old.now.trees table [] Chosen 0 asked.0) written.0 wrote in
        let trees : did.0.trees ≡ written.0 = ap (λ (it : Written). it.trees) (same_ok counted.2) ∙ mid in
        let now : new.now ≡ record { schema = schema; trees = written.0 } = did.2 ∙ ap (λ t. record { schema = schema; trees = t }) trees in
        let news = λ (all : List Row). numbered Chosen (old.now.trees table.tree) (map (λ s. cast_row table (drop 0 s)) all) in
        record { schema_is = ap (λ (d : Database). d.schema) now; applies = subst₂ (λ all t. Applies schema Enforced old.now.trees (record { table = table; gone = []; news = news all }) t) rows (sym (ap (λ (d : Database). d.trees) now)) step; whole = did.3 }

    pub updated : (q : Query) → command_of (understood schema sql) ≡ Update at (program q)
        → (rows : List Row) × IsAnswer q old.now.trees params rows
        × Changed schema table (ids_of rows) (numbered Given (without_all (old.now.trees table.tree) (ids_of rows)) (map (λ s. cast_row table (drop 1 s)) rows)) old.now new.now
    unfolding task
    updated q is =
        let did = on_rows (Update at (program q)) is (λ w. w) (λ tally db d. d) in
        let asked = went did.1 in
        let written = went asked.2 in
        let step = applied (edit_of old.now.trees table (ids_of asked.0) Given 1 asked.0) written.0 written.1 in
        let trees : did.0.trees ≡ written.0 = ap (λ (it : Written). it.trees) (same_ok written.2) in
        let now : new.now ≡ record { schema = schema; trees = written.0 } = did.2 ∙ ap (λ t. record { schema = schema; trees = t }) trees in
        (asked.0, subst (λ t. IsAnswer q t params asked.0) (overlaid old.now.trees) (asked.1.answer Null), record { schema_is = ap (λ (d : Database). d.schema) now; applies = subst (Applies schema Enforced old.now.trees _) (sym (ap (λ (d : Database). d.trees) now)) step; whole = did.3 })
