-- The query of an incident's lines under any schema: it returns nothing of a write, and reads no clock.
use Rattle.std.proofs.Common.{◌≡◌, ℕ, ◌+◌, List, [], Bool, true, false, cond, None, Ok, Err, refl, sym, subst, ◌∙◌}
use Rattle.{sqlite_schema.specs.declared.schema.Schema.Schema, sqlite_resolve.specs.Compile.{compiled, first, planned, meaning, returning, timed, command}}
use Rattle.sqlite_resolve.specs.{Compile.{small, with_command}, Lowering.and_then, declared.compiled.Compiled.Compiled}
use Rattle.{sqlite_resolve.specs.declared.error.CompileError.TheVariants.NoSuchTable, sqlite_tied.specs.Compute.everything, sqlite.specs.Listing.understood}
use Rattle.{sqlite.specs.Listing.{reads_listing, listing_schema, if_select}, hub_store.proofs.{Rows.Texts.lines_of_incident, Versions.AnySchema.bare_one}}
use Rattle.sqlite_ast.specs.declared.Select as written
use Rattle.sqlite_ast.specs.declared.Statement.TheVariants as statement

-- the text is a SELECT
the_select : (s : written.Select) × (names : List (List ℕ)) × (start : ℕ) × (stop : ℕ) × (tail : ℕ) × (first lines_of_incident ≡ Ok (record { statement = statement.Select s; names = names; formats = []; start = start; end = stop; tail = tail }))
unfolding first everything
the_select = (_, _, _, _, _, refl)

of_select : (schema : Schema) (s : written.Select) (names : List (List ℕ)) (start stop tail : ℕ) (c : Compiled) → and_then (planned schema (record { statement = statement.Select s; names = names; formats = []; start = start; end = stop; tail = tail })) (λ plan. Ok (with_command (record { statement = statement.Select s; names = names; formats = []; start = start; end = stop; tail = tail }) plan)) ≡ Ok c → (c.returning ≡ None) × (c.formats ≡ [])
unfolding planned meaning returning timed
of_select schema s names start stop tail c e =
    let it = bare_one names [] start stop tail (command schema [] (small names + small []) (statement.Select s)) c e in (it.0, it.1)

bare : (schema : Schema) (c : Compiled) → compiled schema lines_of_incident ≡ Ok c → (c.returning ≡ None) × (c.formats ≡ [])
unfolding compiled
bare schema c e = of_select schema the_select.0 the_select.1 the_select.2 the_select.3 the_select.4 c (subst (λ r. and_then r (λ p. and_then (planned schema p) (λ plan. Ok (with_command p plan))) ≡ Ok c) the_select.5 e)

-- the listing has no such table
listing_lacks : if_select (compiled listing_schema lines_of_incident) ≡ Err NoSuchTable
unfolding compiled listing_schema everything
listing_lacks = refl

pub bare_anywhere : (schema : Schema) (c : Compiled) → understood schema lines_of_incident ≡ Ok c → (c.returning ≡ None) × (c.formats ≡ [])
unfolding understood
bare_anywhere schema c e = go (reads_listing schema lines_of_incident) e
  where
    go : (b : Bool) → cond b (if_select (compiled listing_schema lines_of_incident)) (compiled schema lines_of_incident) ≡ Ok c → (c.returning ≡ None) × (c.formats ≡ [])
    go false is = bare schema c is
    go true is = absurd (let never = sym listing_lacks ∙ is in cc)
