use Rattle.{std.{proofs.Common.{pos, ◌==◌, ◌&&◌, ◌∷◌, [], Ok, refl, ◌∙◌}, specs.Str.bytes_eq}, sqlite_value.specs.declared.value.Value.TheVariants.{Int, Text}}
use Rattle.{sqlite.specs.Held.state, sqlite_sql.specs.Term.col, circle.specs.declared.directory.Group.Group, hub_store.proofs.LookUps.Answering.read_shown}
use Rattle.hub_store.proofs.{LookUps.Whether.set_shows, Rows.{Compare.{and-true, equal_numbers, equal_texts}, Forms.is_param, Places.{grp_place, grp_tree}}}
use Rattle.hub_store.{proofs.Rows.{Places.held_of, Statements.keeps, Texts.group_with_name_is}, specs.Rows.group_row}
use Rattle.hub_store.proofs.has_row.read_has_group_named.Goals as goal

pub returns-clause-read : goal.returns-clause-read
returns-clause-read g c =
    let terms = is_param 2 0 ∷ is_param 3 1 ∷ [] in
    let params = Int (pos c.args.owner) ∷ Text c.args.name.now ∷ [] in
    read_shown g.S.Store group_with_name_is params c.args.tx.now.conn.now c.ask.new.tx.conn.now c.in_ok-rows.rows.items _ (Ok c.is_any.result) c.ask.ensures.survives (λ clean. rw (c.params-to_sql.ensures, c.params-to_sql-2.ensures) at (c.in_ok-rows.ensures.shown clean))
    (λ s holds sound answer. rw c.deref.ensures.value at c.is_any.ensures
    ∙ set_shows (state g.S.Store c.args.tx.now.conn.now).now.trees grp_tree (λ r. r) group_row s.directory.groups (λ (g : Group). g.owner == c.args.owner && bytes_eq g.name c.args.name.now) terms (col 1 0 ∷ []) params (keeps terms params) c.in_ok-rows.rows.items (λ r. refl) (λ g. rw (equal_numbers g.owner c.args.owner, equal_texts g.name c.args.name.now, and-true (bytes_eq g.name c.args.name.now)) refl) (held_of s grp_place _ refl holds.means) answer)
