-- The query of an incident's lines outside a transaction, whose rows are read one at a time.
use Rattle.std.proofs.Common.{◌≡◌, inl, inr, ℕ, suc, pos, List, [], ◌∷◌, ◌++◌, map, length, unwrap_or, Option, Some, None, option_map, Result, Ok, Err, OnErr}
use Rattle.{std.proofs.Common.{IsErrAnd, IsTrue, append-nil, refl, sym, ap, subst, ◌∙◌}, sqlite_value.specs.{Order.Row, declared.value.Value.TheVariants.Int}}
use Rattle.{sqlite_trees.specs.Tree.Trees, sqlite_schema.specs.declared.command.Command.{Command, TheVariants.Select}}
use Rattle.{sqlite_resolve.specs.declared.{compiled.Compiled.Compiled, error.CompileError.CompileError}, sqlite_sql.specs.Query.IsAnswer}
use Rattle.sqlite.{proofs.{Callers.{EndsIn, command_of, begins_shown, given_begin, unchanged_then}, StateLemmas.survives_weaker}, specs.Effect.Database}
use Rattle.sqlite.specs.{Given.{HasGiven, HasBegun, IsRefused, Returns, Advances}, Held.{Held, state}, Listing.understood, State.{State, HasCleanDisk}}
use Rattle.sqlite.specs.{State.{IsUnchanged, Survives, Shown, CommitsShowing, FailsToQuery}, declared.error.Error.Error}
use Rattle.{iodef_tree.specs.declared.line.Line.Line, hub_state.specs.{Documents.Lines, State.incident_of, declared.state.Incident.Incident}}
use Rattle.hub_store.proofs.{Edits.{Runs.has_now, Steps.{clean_before, survives_on}}, LookUps.{Answering.unread, AnyLines.bare_anywhere, AtPlaces.placed_more}}
use Rattle.hub_store.proofs.{LookUps.AtPlaces.{lines_are, first_lines_are}, Rows.{Forms.program, Items.{its_lines, lines_query, lines_listed}}}
use Rattle.hub_store.{proofs.Rows.{Outcomes.{answered, failed_query}, Texts.{lines_of_incident, lines_of_incident_is}}, specs.{Content.Has, Items.placed_shown}}
use Rattle.hub_store.specs.{Items.placed_from, Keeps.KeepsCommitted, Tables.hub_schema, inner.{FeedsRows.lines_of, Queries.IsReadOutside, Shown.ShowsAll}}
use Rattle.hub_store.specs.inner.Shown.{ShowsPlaced}
use Rattle.sqlite_trees.specs.declared.store.Store as store
use Rattle.hub_state.specs.State as core

-- outside a transaction the rows seen are the committed ones
abbrev IsSettled : State → Type 0
IsSettled s = IsTrue s.is_open → s.now ≡ s.committed

-- the rows that the query has given so far show these lines, with the places 1, 2, 3 and so on
pub record IsFeeding {S : Type 0} (g : store.Ghosts S) (n : ℕ) (old now : Held S) (ls : Lines) : Type 0 where
  pub survives : Survives (state g old) (state g now) (λ _. ⊥)
  pub given : List Row
  pub has : HasCleanDisk (state g now) → HasGiven g lines_of_incident (Int (pos n) ∷ []) now given × IsUnchanged (state g old) (state g now)
  pub shows : ShowsAll ShowsPlaced given (placed_from 1 ls)

kept_same : (old new : State) → IsSettled old → IsUnchanged old new → KeepsCommitted old new
kept_same old new settled same = record { was_open = λ _. same.0.was_open; now = λ _. same.0.now_is ∙ settled same.0.was_open; committed = λ _. same.0.committed_is }

-- ---- the query begins

never_commits : (params : Row) (s : State) (db : Trees) → CommitsShowing lines_of_incident params s db → ⊥
unfolding CommitsShowing
never_commits params s db h =
    let none = (bare_anywhere s.now.schema h.0 h.1.is).0 in
    let some = h.2 in
    cc

commits_nothing : (params : Row) (old new : State) → Survives old new (CommitsShowing lines_of_incident params old) → Survives old new (λ _. ⊥)
commits_nothing params old new = survives_weaker old new _ _ (λ _ db may. never_commits params old db may)

never_returns : (r : Result Compiled CompileError) → ((c : Compiled) → r ≡ Ok c → c.returning ≡ None) → Returns r → ⊥
never_returns (Ok c) bare some = let none = bare c refl in cc
never_returns (Err e) bare some = some

begun : {S : Type 0} (g : store.Ghosts S) (params : Row) (old new : Held S) → HasBegun g lines_of_incident params old new → HasGiven g lines_of_incident params new [] × IsUnchanged (state g old) (state g new)
begun g params old new (inl h) = h
begun g params old new (inr h) = absurd (never_returns (understood old.schema lines_of_incident) (λ c is. (bare_anywhere old.schema c is).0) h.0)

module _ {S : Type 0} (g : store.Ghosts S) (n : ℕ) (old : Held S) where
  pub starts : (now : Held S) (ls : Lines) → ls ≡ [] → (HasCleanDisk (state g now) → HasBegun g lines_of_incident (Int (pos n) ∷ []) old now) → Survives (state g old) (state g now) (CommitsShowing lines_of_incident (Int (pos n) ∷ []) (state g old)) → IsFeeding g n old now ls
  starts now ls none begins survives = record {
    survives = commits_nothing (Int (pos n) ∷ []) (state g old) (state g now) survives;
    given = [];
    has = λ clean. begun g (Int (pos n) ∷ []) old now (begins clean);
    shows = subst (λ l. ShowsAll ShowsPlaced [] (placed_from 1 l)) (sym none) tt;
  }

  -- ---- one more row

  pub goes_on : (mid now : Held S) (ls more : Lines) (place : ℕ) (row : Row) (line : Line) → place ≡ suc (length ls) → IsFeeding g n old mid ls → Survives (state g mid) (state g now) (λ _. ⊥)
      → (HasCleanDisk (state g now) → Advances g mid now (Some row)) → (HasCleanDisk (state g now) → IsUnchanged (state g mid) (state g now)) → ShowsPlaced row (record { place = place; line = line }) → more ≡ ls ++ line ∷ [] → IsFeeding g n old now more
  goes_on mid now ls more place row line next it survives advances same shown lines = record {
    survives = survives_on (state g old) (state g mid) (state g now) it.survives survives;
    given = it.given ++ row ∷ [];
    has = λ clean.
        let before = it.has (clean_before (state g mid) (state g now) survives clean) in
        (advances clean lines_of_incident (Int (pos n) ∷ []) it.given before.0, unchanged_then _ _ _ before.1 (same clean));
    shows = subst (λ l. ShowsAll ShowsPlaced (it.given ++ row ∷ []) (placed_from 1 l)) (sym lines) (placed_more it.given ls place row line next it.shows shown);
  }

  -- ---- the lines that the rows show

  the_lines : (o : Option Incident) → its_lines o ≡ unwrap_or (option_map (λ (i : Incident). i.document) o) []
  the_lines None = refl
  the_lines (Some i) = refl

  -- if the rows given and those that remain are the answer
  listed : (mid now : Held S) (ls : Lines) (it : IsFeeding g n old mid ls) (more : List Row) (s : core.State) → Has (state g old) s → IsUnchanged (state g old) (state g mid) → Shown lines_of_incident (Int (pos n) ∷ []) (state g mid) (state g now) (it.given ++ more) → it.given ++ more ≡ map placed_shown (placed_from 1 (lines_of n s))
  listed mid now ls it more s has same shown =
      let holds = has_now (state g old) s has same.0.was_open in
      let seen = same.0.now_is in
      let answer = answered (state g mid) (state g now) lines_of_incident (Int (pos n) ∷ []) (it.given ++ more) lines_query _ (ap (λ (d : Database). d.schema) seen ∙ holds.known) lines_of_incident_is.is lines_of_incident_is.plain lines_of_incident_is.unlisted shown in
      lines_listed (state g old).now.trees s n (it.given ++ more) has.sound holds.means (subst (λ (d : Database). IsAnswer lines_query d.trees (Int (pos n) ∷ []) (it.given ++ more)) seen answer)
      ∙ ap (λ l. map placed_shown (placed_from 1 l)) (the_lines (incident_of n s))

  -- ---- no more rows

  pub ends : (mid now : Held S) (ls : Lines) → IsFeeding g n old mid ls → IsSettled (state g old) → Survives (state g mid) (state g now) (λ _. ⊥)
      → (HasCleanDisk (state g now) → Advances g mid now None) → (HasCleanDisk (state g now) → IsUnchanged (state g mid) (state g now)) → IsReadOutside (state g old) (state g now) (λ s _. ls ≡ lines_of n s) (Ok (tt {0}))
  ends mid now ls it settled survives advances same = record {
    survives = survives_on (state g old) (state g mid) (state g now) it.survives survives;
    kept = λ clean _. kept_same (state g old) (state g now) settled (unchanged_then _ _ _ (it.has (clean_before (state g mid) (state g now) survives clean)).1 (same clean));
    right = λ clean s has.
        let before = it.has (clean_before (state g mid) (state g now) survives clean) in
        let shown = advances clean lines_of_incident (Int (pos n) ∷ []) it.given before.0 in
        let rows = listed mid now ls it [] s has before.1 (subst (Shown lines_of_incident (Int (pos n) ∷ []) (state g mid) (state g now)) (sym (append-nil it.given)) shown) in
        lines_are (lines_of n s) ls (subst (λ l. ShowsAll ShowsPlaced l (placed_from 1 ls)) (sym (append-nil it.given) ∙ rows) it.shows);
  }

  -- ---- rows that are dropped before the last

  ends_in : (k : Command) (db : Database) (params : Row) (names : List (List ℕ)) → k ≡ Select (program lines_query) names → EndsIn k db params
  ends_in k db params names is = subst (λ c. EndsIn c db params) (sym is) tt

  pub stops : (now : Held S) (ls : Lines) → IsFeeding g n old now ls → IsSettled (state g old) → IsReadOutside (state g old) (state g now) (λ s _. (more : Lines) × (lines_of n s ≡ ls ++ more)) (Ok (tt {0}))
  stops now ls it settled = record {
    survives = it.survives;
    kept = λ clean _. kept_same (state g old) (state g now) settled (it.has clean).1;
    right = λ clean s has.
        let here = it.has clean in
        let up = here.1.0.is_open in
        let same : IsUnchanged (state g now) (state g now) = (record { was_open = up; is_open = up; now_is = refl; committed_is = refl; mode = refl }, record { changes = refl; last_rowid = refl }, refl) in
        let known : (state g now).now.schema ≡ hub_schema = ap (λ (d : Database). d.schema) here.1.0.now_is ∙ (has_now (state g old) s has here.1.0.was_open).known in
        let whole = begins_shown lines_of_incident (Int (pos n) ∷ []) (state g now) (state g now) it.given (given_begin g lines_of_incident (Int (pos n) ∷ []) now it.given here.0) same
        (λ c db statement _. ends_in c.command db _ _ (ap command_of (sym statement.is ∙ ap (λ schema. understood schema lines_of_incident) known) ∙ lines_of_incident_is.is)) in
        first_lines_are (lines_of n s) it.given whole.0 ls (listed now now ls it whole.0 s has here.1 whole.1) it.shows;
  }

-- ---- the query doesn't begin

module _ {T : Type 0} (Right : core.State → T → Type 0) (result : Result T Error) (e : Error) (is : IsErrAnd result (λ y. y ≡ e)) where
  refused : (params : Row) (old now : State) (why : Error) → IsSettled old → (HasCleanDisk now → FailsToQuery lines_of_incident params old now why) → Survives old now (CommitsShowing lines_of_incident params old) → IsReadOutside old now Right result
  refused params old now why settled fails survives = record {
    survives = commits_nothing params old now survives;
    kept = λ clean _. elim (failed_query old now lines_of_incident params why (inl (fails clean))) [
      | inl same ↦ kept_same old now settled same
      | inr undone ↦ record { was_open = undone.was_open; now = λ up. (undone.undone up).0; committed = λ up. (undone.undone up).1 }
    ];
    right = λ _ s _. unread result e (Right s) is;
  }

  pub not_begun : {S X : Type 0} (g : store.Ghosts S) (params : Row) (old now : Held S) (r : Result X Error) (why : Error) → r ≡ Err why → IsSettled (state g old) → OnErr r (IsRefused g lines_of_incident params old r now) → IsReadOutside (state g old) (state g now) Right result
  not_begun g params old now (Ok x) why was settled held = absurd cc
  not_begun g params old now (Err d) why was settled held = refused params (state g old) (state g now) d settled (λ clean. held.err clean) held.survives
