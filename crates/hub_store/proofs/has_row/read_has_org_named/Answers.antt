use Rattle.{std.{proofs.Common.{◌∷◌, [], Ok, refl, ◌∙◌}, specs.Str.bytes_eq}, sqlite_value.specs.declared.value.Value.TheVariants.Text, sqlite.specs.Held.state}
use Rattle.{sqlite_sql.specs.Term.col, circle.specs.declared.directory.Org.Org, hub_store.proofs.LookUps.{Answering.read_shown, Whether.set_shows}}
use Rattle.hub_store.proofs.Rows.{Compare.{and-true, equal_texts}, Forms.is_param, Places.{org_place, org_tree, held_of}, Statements.keeps}
use Rattle.hub_store.{proofs.Rows.Texts.org_with_name_is, specs.Rows.org_row}
use Rattle.hub_store.proofs.has_row.read_has_org_named.Goals as goal

pub returns-clause-read : goal.returns-clause-read
returns-clause-read g c =
    let terms = is_param 2 0 ∷ [] in
    let params = Text c.args.name.now ∷ [] in
    read_shown g.S.Store org_with_name_is params c.args.tx.now.conn.now c.ask.new.tx.conn.now c.in_ok-rows.rows.items _ (Ok c.is_any.result) c.ask.ensures.survives (λ clean. rw c.params-to_sql.ensures at (c.in_ok-rows.ensures.shown clean))
    (λ s holds sound answer. rw c.deref.ensures.value at c.is_any.ensures
    ∙ set_shows (state g.S.Store c.args.tx.now.conn.now).now.trees org_tree (λ r. r) org_row s.directory.orgs (λ (o : Org). bytes_eq o.name c.args.name.now) terms (col 1 0 ∷ []) params (keeps terms params) c.in_ok-rows.rows.items (λ r. refl) (λ o. and-true _ ∙ equal_texts o.name c.args.name.now) (held_of s org_place _ refl holds.means) answer)
