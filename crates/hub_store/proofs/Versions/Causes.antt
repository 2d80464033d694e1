-- Why a statement that SQL understands fails.
use Rattle.std.proofs.Common.{◌≡◌, ◌≢◌, ◌⊎◌, inl, inr, ℕ, ◌+◌, ◌*◌, ◌^◌, ◌≤◌, ◌==◌, List, [], ◌∷◌, length, append-nil, codes, Bool, true, false, not, ◌||◌}
use Rattle.std.proofs.Common.{IsTrue, IsSome, is_some, IsUtf8, nat_lt, nat_le, Option, Some, None, Ok, Err, Result, refl, sym, ap, subst, subst₂, ◌∙◌, arith}
use Rattle.{std.{proofs.lemmas.Bool.{and_parts, not-true, ltb-true, leb-true, true≢false}, specs.List.{AllByRecursion, list_all}}, sqlite_value.specs.Order.Row}
use Rattle.{sqlite_value.specs.{Order.value_cmp, declared.value.Value.TheVariants.Text}, sqlite_trees.specs.Sound.{fits_kind, is_free_name, begins, same_name}}
use Rattle.sqlite_trees.specs.{Tree.Trees, declared.error.StoreError.{StoreError, TheVariants.{OutOfMemory, Io, Corrupt, Full, Broken, Unstorable}}}
use Rattle.sqlite_schema.specs.{Rules.{table_reals, index_reals}, declared.command.Command.{Command, TheVariants.{Select, Rows, CreateTable}}}
use Rattle.{sqlite_schema.specs.declared.schema.{Index.Index, Schema.Schema, Table.Table}, sqlite_rules.{proofs.ListLemmas.test_has, specs.Lists.Has}}
use Rattle.sqlite_resolve.specs.{Compile.table_defined_by, declared.{compiled.Compiled.Compiled, error.CompileError.CompileError}}
use Rattle.sqlite_catalog.specs.{Calls.{RefusesTable, IsBadName}, Change.{created, next_tree, is_used, is_reserved, automatics}, Listing.{is_fit, is_formed}}
use Rattle.sqlite_catalog.specs.declared.error.Refusal.{Refusal, TheVariants.{Invalid, NameTaken, BadName, TooBig, BadKey, BadText, Violates}}
use Rattle.sqlite.{proofs.Callers.{IsPlain, command_of, statement_of}, specs.{Calls.IsWrite, Clock.timed, Does.{Does, MakesTable, MakesSequence}}}
use Rattle.sqlite.specs.{Does.lacks_sequence, Effect.{Database, is_query}, Listing.understood, Rows.{Part, Then, Gives}, State.{State, Fails, HasCause}}
use Rattle.sqlite.specs.State.{IsNoStatement, IsNotRun, IsStatement, IsMisplaced, Escapes, EndsScope, RunsCommand, ExecutesIn, ExecutesInside, mode_of}
use Rattle.sqlite.specs.{State.{shows_rows, is_pragma, store_error, text_of, Survives}, Steps.FailsToCommit, declared.error.Error.Error}
use Rattle.{sqlite.specs.declared.{error.Error.TheVariants.SqliteFailure, run.Mode.Mode}, hub_store.proofs.Rows.Statements.{same_ok, other_one}}
use Rattle.hub_store.specs.Failing.{HasReason}
use Rattle.sqlite.specs.declared.error.ErrorCode.TheVariants as code

-- ---- the store

-- what fails in the store has a reason, or is too long
pub failed_reason : (old new : State) (e : Error) (too_big : Type 0) → e ≢ SqliteFailure code.OutOfMemory → Fails old new too_big e → HasReason old new ⊎ too_big
failed_reason old new e too_big other h = go h.0 h.1 h.2
  where
    go : (cause : StoreError) → e ≡ store_error cause → HasCause old new too_big cause → HasReason old new ⊎ too_big
    go OutOfMemory is h = absurd (other is)
    go Io is h = inl (inl h)
    go Corrupt is h = inl (inl h)
    go Full is h = inl (inl h)
    go Broken is h = inl (inr (inl h))
    go Unstorable is h = inr h

pub failed_only : (old new : State) (e : Error) → e ≢ SqliteFailure code.OutOfMemory → Fails old new ⊥ e → HasReason old new
failed_only old new e other h = elim (failed_reason old new e ⊥ other h) [ inl reason ↦ reason | inr never ↦ absurd never ]

-- a reason that arises after a call without a failure is a reason for both
pub reason_after : (a b c : State) (Commits : Trees → Type 0) → Survives a b Commits → (IsTrue a.is_open → IsTrue b.is_open) → HasReason b c → HasReason a c
reason_after a b c Commits s up (inl h) = inl (omega (arith, s.counts, h))
reason_after a b c Commits s up (inr (inl shut)) = inr (inl (was_shut a.is_open b.is_open up shut))
  where
    was_shut : (x y : Bool) → (IsTrue x → IsTrue y) → y ≡ false → x ≡ false
    was_shut true y up shut = absurd (let e = sym (up refl) ∙ shut in cc)
    was_shut false y up shut = refl
reason_after a b c Commits s up (inr (inr limited)) = inr (inr (subst IsSome s.limit limited))

-- later calls may fail too
pub reason_before : (a b c : State) → b.faults ≤ c.faults → HasReason a b → HasReason a c
reason_before a b c more (inl h) = inl (omega (arith, more, h))
reason_before a b c more (inr h) = inr h

-- a commit inside a transaction
pub commit_reason : (old new : State) (e : Error) → IsTrue old.in_transaction → e ≢ SqliteFailure code.OutOfMemory → FailsToCommit old new e → HasReason old new
commit_reason old new e inside other (inl failed) = failed_only old new e other failed
commit_reason old new e inside other (inr ended) = absurd (true≢false (sym inside ∙ ended.1))

-- ---- a text that is one write

-- it is one statement with that number of parameters, which shows no rows and reads no clock
abbrev pub IsWhole : List ℕ → Row → Result Compiled CompileError → Type 0
IsWhole sql params (Ok c) = (c.returning ≡ None) × (c.formats ≡ []) × (length params ≡ length c.names) × (nat_le (length sql) c.tail ≡ true)
IsWhole sql params (Err e) = ⊥

pub plain_of : (sql : List ℕ) (params : Row) (r : Result Compiled CompileError) → IsWhole sql params r → IsPlain r
plain_of sql params (Ok c) h = (h.0, h.1)
plain_of sql params (Err e) h = h

-- a write shows nothing, and may come anywhere in a transaction
silent_write : (k : Command) → IsWrite k → (is_query k || (is_pragma k || false)) ≡ false
silent_write (Select q names) write = absurd write
silent_write (Rows values width names) write = absurd write
silent_write _ write = refl

placed_write : (s : State) (k : Command) (e : Error) → IsWrite k → ¬ IsMisplaced s k e
placed_write s k e write (inl (told, inl begins)) = subst IsWrite begins.0 write
placed_write s k e write (inl (told, inr (inl commits, out))) = subst IsWrite commits write
placed_write s k e write (inl (told, inr (inr ends, out))) = subst IsWrite ends write
placed_write s k e write (inr (told, name, inl ends, un)) = subst IsWrite ends write
placed_write s k e write (inr (told, name, inr ends, un)) = subst IsWrite ends write

staying_write : (s : State) (k : Command) → IsWrite k → ¬ Escapes 0 s k
staying_write s k write (inl (inl ends)) = subst IsWrite ends write
staying_write s k write (inl (inr ends)) = subst IsWrite ends write
staying_write s k write (inr (name, inl ends, held)) = subst IsWrite ends write
staying_write s k write (inr (name, inr ends, held)) = subst IsWrite ends write

module _ (sql : List ℕ) (params : Row) (old : State) (schema : Schema) (has : old.now.schema ≡ schema) (whole : IsWhole sql params (understood schema sql)) where
  pub known : (c : Compiled) → understood old.now.schema sql ≡ Ok c → Ok c ≡ understood schema sql
  known c at = sym at ∙ ap (λ s. understood s sql) has

  pub whole_of : (c : Compiled) → understood old.now.schema sql ≡ Ok c → IsWhole sql params (Ok c)
  whole_of c at = subst (IsWhole sql params) (sym (known c at)) whole

  pub is_statement : (e : Error) → ¬ IsNoStatement old sql params e
  is_statement e (inl h) = subst (IsWhole sql params) (ap (λ s. understood s sql) (sym has) ∙ h.1) whole
  is_statement e (inr h) =
      let all = whole_of h.0 h.1 in
      elim h.2 [ inl cut ↦ absurd (cut.0 (omega (arith, leb-true _ _ all.3))) | inr (inl given) ↦ absurd (given.0 all.2) | inr (inr read) ↦ absurd (read.0 all.1) ]

  module _ (new : State) (command : Command) (is : command_of (understood schema sql) ≡ command) (write : IsWrite command) (e : Error) (other : e ≢ SqliteFailure code.OutOfMemory) where
    command_is : (c : Compiled) → understood old.now.schema sql ≡ Ok c → c.command ≡ command
    command_is c at = ap command_of (known c at) ∙ is

    abbrev pub Refuses : Option Error → Type 0
    Refuses stop = Does old.step_limit (mode_of old) params old.now (statement_of sql (understood schema sql)) None command (Err stop)

    refused : (c : Compiled) (it : IsStatement old sql params c) (stop : Option Error) → Does old.step_limit (mode_of old) (timed params c.formats it.now) old.now (text_of sql c) c.returning c.command (Err stop) → Refuses stop
    refused c it stop h =
        let all = whole_of c it.is in
        subst₂ (λ k t. Does old.step_limit (mode_of old) params old.now t None k (Err stop)) (command_is c it.is) (ap (statement_of sql) (known c it.is)) (rw (all.0, all.1, append-nil params) at h)

    ran : (c : Compiled) (it : IsStatement old sql params c) → RunsCommand old new sql c (timed params c.formats it.now) (Err e) → HasReason old new ⊎ ((stop : Option Error) × Refuses stop)
    ran c it (inl (inl wrong, same)) = absurd (placed_write old command e write (subst (λ k. IsMisplaced old k e) (command_is c it.is) wrong))
    ran c it (inl (inr does, same)) = inr (Some e, refused c it (Some e) does.1)
    ran c it (inr h) = elim (failed_reason old new e _ other h) [ inl reason ↦ inl reason | inr long ↦ inr (None, refused c it None long) ]

    silent : (c : Compiled) → understood old.now.schema sql ≡ Ok c → shows_rows false c ≡ false
    silent c at = subst₂ (λ k r. (is_query k || (is_pragma k || is_some r)) ≡ false) (sym (command_is c at)) (sym (whole_of c at).0) (silent_write command write)

    -- it fails for a reason, or is refused
    pub fails_as : ExecutesInside 0 sql params old new (Err e) → HasReason old new ⊎ ((stop : Option Error) × Refuses stop)
    unfolding ExecutesIn IsNotRun EndsScope
    fails_as (inl (inl (inl none), same)) = absurd (is_statement e none.0)
    fails_as (inl (inl (inr failed), same)) = inl (failed_only old new e other failed)
    fails_as (inl (inr run, same)) = ran run.0 run.1 (other_one (shows_rows false run.0) _ _ (silent run.0 run.1.is) run.2)
    fails_as (inr ends) = absurd (staying_write old command write (subst (Escapes 0 old) (command_is ends.0.0 ends.0.1.is) ends.0.2))

pub gave : {A E : Type 0} {a : A} {e : E} → ◌≡◌ {A = Result A E} (Err e) (Ok a) → ⊥
gave h = absurd cc

same_err : {B E : Type 0} {a b : E} → ◌≡◌ {A = Result B E} (Err a) (Err b) → a ≡ b
same_err e = cc

-- a `Then` that stops does so in its first part, or after it
pub stops : {A B : Type 0} (First : Part A) (Rest : A → Type 0) (stop : Option Error) → ((s : Option Error) × First (Err s) × ◌≡◌ {A = Result B (Option Error)} (Err stop) (Err s)) ⊎ ((a : A) × First (Ok a) × Rest a)
    → First (Err stop) ⊎ ((a : A) × First (Ok a) × Rest a)
stops First Rest stop (inl h) = inl (subst (λ s. First (Err s)) (sym (same_err h.2)) h.1)
stops First Rest stop (inr h) = inr h

-- ---- CREATE TABLE

-- no name is used or reserved, and the table isn't larger than allowed
abbrev pub tests : Schema → List ℕ → Table → List Bool
tests schema sql table =
    not (is_used schema table.name)
    ∷ list_all (λ (i : Index). not (is_used schema i.name)) (automatics table 0 0 table.uniques)
    ∷ not (is_reserved table.name)
    ∷ nat_lt (next_tree schema + length table.uniques) 65536
    ∷ nat_lt (table_reals table) (2 ^ 64)
    ∷ list_all (λ key. nat_lt (index_reals (table_reals table) key) (2 ^ 64)) table.uniques
    ∷ is_formed table
    ∷ is_fit (Text (codes "table")) (Text table.name) (Text table.name) (Text sql)
    ∷ nat_lt (2 * length table.name + length sql + 200) (10 ^ 9)
    ∷ []

all_true : (bs : List Bool) → list_all (λ b. b) bs ≡ true → AllByRecursion (λ b. b ≡ true) bs
all_true [] h = tt
all_true (b ∷ bs) h = let both = and_parts _ _ h in (both.0, all_true bs both.1)

-- all that unfolds besides when `tests` run
unfoldable pub naming : Unit {0}
unfolding fits_kind is_free_name begins same_name value_cmp lib.Utf8.encode lib.Ieee.is_nan lib.Ieee.lt
naming = tt

-- The text makes this table under the schema, and nothing prevents it. For a schema and a text that are written out
-- each field is `refl`.
pub record IsCreation (schema : Schema) (sql : List ℕ) (table : Table) : Type 0 where
  pub command : command_of (understood schema sql) ≡ CreateTable
  pub text : statement_of sql (understood schema sql) ≡ sql
  pub defined : table_defined_by sql ≡ Ok table
  pub whole : IsWhole sql [] (understood schema sql)
  pub unsequenced : lacks_sequence (created schema table) ≡ false
  pub utf8 : IsUtf8 sql × IsUtf8 table.name
  pub new : list_all (λ b. b) (tests schema sql table) ≡ true

module _ (schema : Schema) (sql : List ℕ) (table : Table) (it : IsCreation schema sql table) where
  facts : AllByRecursion (λ b. b ≡ true) (tests schema sql table)
  facts = all_true (tests schema sql table) it.new

  of_table : (P : Table → Type 0) → (t : Table) × (table_defined_by sql ≡ Ok t) × P t → P table
  of_table P h = subst P (same_ok (sym h.1 ∙ it.defined)) h.2

  not_refused : (why : Refusal) → ¬ RefusesTable schema sql why
  not_refused (Invalid e) h = absurd (let clash = sym h ∙ it.defined in cc)
  not_refused NameTaken h =
      elim (of_table (λ t. (is_used schema t.name ≡ true) ⊎ ((index : Index) × Has (automatics t 0 0 t.uniques) index × (is_used schema index.name ≡ true))) h) [
        | inl used ↦ absurd (true≢false (sym used ∙ not-true _ facts.0))
        | inr index ↦ absurd (true≢false (sym index.2 ∙ not-true _ (test_has (λ (i : Index). not (is_used schema i.name)) _ index.0 facts.1.0 index.1)))
      ]
  not_refused BadName h =
      elim (of_table (λ t. IsBadName t.name (length t.uniques == 0)) h) [ inl bad ↦ absurd (bad it.utf8.1) | inr bad ↦ absurd (true≢false (sym bad.0 ∙ not-true _ facts.1.1.0)) ]
  not_refused TooBig h =
      elim (of_table (λ t. (65536 ≤ next_tree schema + length t.uniques) ⊎ ((2 ^ 64 ≤ table_reals t) ⊎ ((key : List ℕ) × Has t.uniques key × (2 ^ 64 ≤ index_reals (table_reals t) key)))) h) [
        | inl many ↦ absurd (omega (arith, many, ltb-true _ _ facts.1.1.1.0))
        | inr (inl high) ↦ absurd (omega (arith, high, ltb-true _ _ facts.1.1.1.1.0))
        | inr (inr high) ↦ absurd (omega (arith, high.2, ltb-true _ _ (test_has (λ key. nat_lt (index_reals (table_reals table) key) (2 ^ 64)) _ high.0 facts.1.1.1.1.1.0 high.1)))
      ]
  not_refused BadKey h = absurd (true≢false (sym facts.1.1.1.1.1.1.0 ∙ of_table (λ t. is_formed t ≡ false) h))
  not_refused BadText h = absurd (true≢false (sym facts.1.1.1.1.1.1.1.0 ∙ of_table (λ t. is_fit (Text (codes "table")) (Text t.name) (Text t.name) (Text sql) ≡ false) h))
  not_refused (Violates rule) h = absurd h

  not_made : (db : Database) → db.schema ≡ schema → (stop : Option Error) → ¬ MakesTable sql db (Err stop)
  not_made db has None h = absurd (omega (arith, of_table (λ t. 10 ^ 9 ≤ 2 * length t.name + length sql + 200) h, ltb-true _ _ facts.1.1.1.1.1.1.1.1.0))
  not_made db has (Some e) (inl h) = absurd (h.0 it.utf8.0)
  not_made db has (Some e) (inr h) = absurd (not_refused h.0 (subst (λ s. RefusesTable s sql h.0) has h.1))

  -- no CHECK of a new table counts its rows
  no_sequence : (db after : Database) → db.schema ≡ schema → MakesTable sql db (Ok after) → (stop : Option Error) → ¬ MakesSequence after (Err stop)
  no_sequence db after has made stop h =
      let both : Ok made.table ≡ Ok table = sym made.defined ∙ it.defined in
      let same : made.table ≡ table = cc in
      let schema_is : after.schema ≡ created schema table = made.is ∙ ap (λ s. created s made.table) has ∙ ap (created schema) same in
      let given : Gives after (Err stop) = other_one _ _ _ (ap lacks_sequence schema_is ∙ it.unsequenced) h in
      absurd (let e = given in cc)

  pub creates_freely : (limit : Option ℕ) (mode : Mode) (db : Database) → db.schema ≡ schema → (stop : Option Error) → ¬ Does limit mode [] db sql None CreateTable (Err stop)
  creates_freely limit mode db has stop h =
      elim (stops (Then (MakesTable sql db) MakesSequence) _ stop h) [
        | inl makes ↦ elim (stops (MakesTable sql db) _ stop makes) [
          | inl table ↦ absurd (not_made db has stop table)
          | inr sequence ↦ absurd (no_sequence db sequence.0 has sequence.1 stop sequence.2)
        ]
        | inr gave ↦ absurd (let e = gave.2 in cc)
      ]

  pub fails_for_reason : (old new : State) → old.now.schema ≡ schema → (e : Error) → e ≢ SqliteFailure code.OutOfMemory → ExecutesInside 0 sql [] old new (Err e) → HasReason old new
  fails_for_reason old new has e other h =
      elim (fails_as sql [] old schema has it.whole new CreateTable it.command tt e other h) [
        | inl reason ↦ reason
        | inr refused ↦ absurd (creates_freely old.step_limit (mode_of old) old.now has refused.0 (subst (λ t. Does old.step_limit (mode_of old) [] old.now t None CreateTable (Err refused.0)) it.text refused.1))
      ]
