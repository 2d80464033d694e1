-- What the text that asks for the version is compiled to, under any schema that has the table and its column.
use Rattle.std.proofs.Common.{◌≡◌, ℕ, pos, List, [], ◌∷◌, length, Bool, true, false, cond, slice_get, Option, Some, None, Ok, Err, codes, refl, sym, ap, subst}
use Rattle.{sqlite_value.specs.declared.{keys.Collation.Collation, value.Value.TheVariants.Int}, sqlite_sql.specs.{Query.{Query, inner, end}, Term.{Term, lit}}}
use Rattle.{sqlite_sql.specs.Term.col, sqlite_schema.specs.{Names.{table_named, column_named, place_of}, declared.command.Command.Command}}
use Rattle.sqlite_schema.specs.declared.{command.{Command.TheVariants.Select, Returning.Returning}, program.{Program.Program, Table.Table as Let}}
use Rattle.{sqlite_schema.specs.declared.schema.{Column.Column, Schema.Schema, Table.Table}, sqlite_ast.specs.declared.Core.Core}
use Rattle.sqlite_resolve.specs.{Compile.{compiled, first}, Lowering.{Checked, and_then}, Program.{Shown, query_to, viewing, or_view, program as as_typed}}
use Rattle.sqlite_resolve.specs.{Scope.declared, Select.named, declared.{compiled.Compiled.Compiled, error.CompileError.CompileError}}
use Rattle.{sqlite_typing.specs.Types.accepts_program, sqlite_tied.specs.Compute.everything, hub_store.proofs.Rows.Forms.{one_table, program}}
use Rattle.hub_store.{proofs.Rows.Statements.same_ok, specs.Versions.version_text}
use Rattle.sqlite_ast.specs.declared.Select as written
use Rattle.sqlite_ast.specs.declared.Statement.TheVariants as statement

-- a SELECT has no RETURNING, and reads no clock if it names none
pub bare_one : (names formats : List (List ℕ)) (start stop tail : ℕ) (x : Checked Command) (c : Compiled)
    → and_then (and_then (and_then x (λ k. Ok (k, None))) (λ found. Ok (formats, found))) (λ (plan : List (List ℕ) × (Command × Option Returning)). Ok (record { command = plan.1.0; returning = plan.1.1; names = names; formats = plan.0; start = start; end = stop; tail = tail })) ≡ Ok c
    → (c.returning ≡ None) × (c.formats ≡ formats) × (c.names ≡ names) × (c.tail ≡ tail) × (x ≡ Ok c.command)
bare_one names formats start stop tail (Ok k) c e =
    let same = sym (same_ok e) in
    (ap (λ (c : Compiled). c.returning) same, ap (λ (c : Compiled). c.formats) same, ap (λ (c : Compiled). c.names) same, ap (λ (c : Compiled). c.tail) same, ap (λ (c : Compiled). Ok c.command) (same_ok e))
bare_one names formats start stop tail (Err s) c e = absurd cc

-- a command that follows is one that the text is compiled to
ok_one : (names formats : List (List ℕ)) (start stop tail : ℕ) (x : Checked Command) (k : Command) → x ≡ Ok k
    → and_then {B = Compiled} (and_then (and_then x (λ k. Ok (k, None))) (λ found. Ok (formats, found))) (λ (plan : List (List ℕ) × (Command × Option Returning)). Ok (record { command = plan.1.0; returning = plan.1.1; names = names; formats = plan.0; start = start; end = stop; tail = tail }))
    ≡ Ok (record { command = k; returning = None; names = names; formats = formats; start = start; end = stop; tail = tail })
ok_one names formats start stop tail (Ok j) k e =
    let made : Command → Checked Compiled = λ k. Ok (record { command = k; returning = None; names = names; formats = formats; start = start; end = stop; tail = tail }) in
    ap made (same_ok e)
ok_one names formats start stop tail (Err s) k e = absurd cc

-- the SELECT of the text
unfoldable the_select : (s : written.Select) × (and_then (first version_text) (λ p. Ok p.statement) ≡ Ok (statement.Select s))
unfolding first everything
the_select = (_, refl)

-- the columns that it selects, with its LIMIT and no OFFSET
abbrev the_core : Core
the_core = (written.out-Select the_select.0).first

abbrev the_page : Term × Term
the_page = (lit (Int (pos 2)), lit (Int (pos 0)))

-- what follows after its FROM and its columns are read
after : Schema → Checked Shown → Checked Command
after schema x =
    and_then (and_then (or_view (query_to 15) (viewing (query_to 15) schema the_core [] the_page 63) schema schema x []) (λ (r : (Shown × Schema) × List Let). Ok (r.0.0, r.1)))
    (λ (q : Shown × List Let). and_then (as_typed schema q.1 q.0.0) (λ p. Ok (Select p q.0.1)))

-- the command is what follows, and the text has nothing else
by_parts : (schema : Schema) (c : Compiled) → compiled schema version_text ≡ Ok c
    → (c.returning ≡ None) × (c.formats ≡ []) × (c.names ≡ []) × (c.tail ≡ length version_text) × (after schema (named schema the_core [] the_page) ≡ Ok c.command)
unfolding compiled the_select after everything
by_parts schema c e = bare_one _ _ _ _ _ _ c e

-- if a command follows, the text is compiled
compiles : (schema : Schema) (k : Command) → after schema (named schema the_core [] the_page) ≡ Ok k → (c : Compiled) × (compiled schema version_text ≡ Ok c)
unfolding compiled the_select after everything
compiles schema k e = (_, ok_one _ _ _ _ _ _ k e)

pub bare_anywhere : (schema : Schema) (c : Compiled) → compiled schema version_text ≡ Ok c → (c.returning ≡ None) × (c.formats ≡ []) × (c.names ≡ []) × (c.tail ≡ length version_text)
bare_anywhere schema c e = let parts = by_parts schema c e in (parts.0, parts.1, parts.2, parts.3)

-- a column of the rows of a tree, of at most two rows
abbrev pub column_query : ℕ → ℕ → Query
column_query tree place = record (one_table tree [] (col 1 place ∷ [])) { limit = lit (Int (pos 2)) }

-- that query, the names of its columns and their collations
abbrev column_shown : ℕ → ℕ → List (List ℕ) → List (Option Collation) → Shown
column_shown tree place heads hows =
    (record { from = inner tree end; filter = []; group = None; project = col 1 place ∷ []; distinct = false; collations = []; order = []; limit = lit (Int (pos 2)); offset = lit (Int (pos 0)) }, heads, hows)

-- what is typed is the query, and nothing else is read
typed_one : (typed : Bool) (q : Program) (heads : List (List ℕ)) (fault : CompileError) (k : Command) → and_then (cond typed (Ok q) (Err fault)) (λ p. Ok (Select p heads)) ≡ Ok k → (typed ≡ true) × (k ≡ Select q heads)
typed_one true q heads fault k e = (refl, sym (same_ok e))
typed_one false q heads fault k e = absurd cc

when_typed : (typed : Bool) (q : Program) (heads : List (List ℕ)) (fault : CompileError) → typed ≡ true → and_then (cond typed (Ok q) (Err fault)) (λ p. Ok (Select p heads)) ≡ Ok (Select q heads)
when_typed true q heads fault is = refl
when_typed false q heads fault is = absurd cc

typed_command : (schema : Schema) (tree place : ℕ) (heads : List (List ℕ)) (hows : List (Option Collation)) → accepts_program schema [] (column_query tree place) [] ≡ true
    → after schema (Ok (column_shown tree place heads hows)) ≡ Ok (Select (program (column_query tree place)) heads)
unfolding after as_typed
typed_command schema tree place heads hows is = when_typed _ _ heads _ is

-- if it is read as that query, that query is typed, and it is its command
commanded : (schema : Schema) (x : Checked Shown) (tree place : ℕ) (heads : List (List ℕ)) (hows : List (Option Collation)) (k : Command) → x ≡ Ok (column_shown tree place heads hows) → after schema x ≡ Ok k
    → (accepts_program schema [] (column_query tree place) [] ≡ true) × (k ≡ Select (program (column_query tree place)) heads)
unfolding after as_typed
commanded schema x tree place heads hows k is e = typed_one _ _ heads _ k (subst (λ y. after schema y ≡ Ok k) is e)

module _ (schema : Schema) (at place : ℕ) (table : Table) (column : Column) (has : table_named schema (codes "hub") ≡ Some at) (listed : slice_get schema.tables at ≡ Some table)
    (called : column_named table (codes "version") ≡ Some place) (there : slice_get table.columns place ≡ Some column) where
  -- the one table is found first, and in it the one column; a view of that name isn't looked up
  shown_is : named schema the_core [] the_page ≡ Ok (column_shown table.tree (place_of table place) (column.name ∷ []) ((declared table place column).collation ∷ []))
  unfolding the_select everything
  shown_is = simp (has, listed, called, there)

  -- the text asks for this column of this table
  pub asks : (c : Compiled) → compiled schema version_text ≡ Ok c → c.command ≡ Select (program (column_query table.tree (place_of table place))) (column.name ∷ [])
  asks c e = (commanded schema _ _ _ _ _ c.command shown_is (by_parts schema c e).4).1

  -- it is compiled if that query is typed
  pub reads : accepts_program schema [] (column_query table.tree (place_of table place)) [] ≡ true → (c : Compiled) × (compiled schema version_text ≡ Ok c)
  reads is = compiles schema _ (subst (λ y. after schema y ≡ Ok (Select (program (column_query table.tree (place_of table place))) (column.name ∷ []))) (sym shown_is) (typed_command schema _ _ _ _ is))

  -- and typed if it is compiled
  pub typed : (c : Compiled) → compiled schema version_text ≡ Ok c → accepts_program schema [] (column_query table.tree (place_of table place)) [] ≡ true
  typed c e = (commanded schema _ _ _ _ _ c.command shown_is (by_parts schema c e).4).0
