use Rattle.{std.{proofs.Common.{◌≡◌, Option, Some, rules, sym, subst, ◌∙◌}, specs.Prelude.◌↔◌}, sqlite.specs.{Held.state, State.{HasCleanDisk, Survives}}}
use Rattle.{hub_state.specs.State.{State, empty}, hub_store.proofs.{Edits.Runs.kept_has, Rows.Empty.{has_empty, sound_empty}, Shelf.Left.left_by_commit}}
use Rattle.hub_store.specs.{Content.{Has, MayLeave}, Means.TreesHold, Tables.no_schema}
use Rattle.hub_store.proofs.sql_shelf.SqlShelf.create.Goals as goal

pub returns-in-Ok-clause-made : goal.returns-in-Ok-clause-made
returns-in-Ok-clause-made g c =
    let blank : (state g.S.Store c.args.conn).now.schema ≡ no_schema = sym c.schema.ensures.value ∙ c.is_blank.ensures.0 (search rules) in
    subst (λ h. HasCleanDisk (state g.S.Store h) → Has (state g.S.Store h) empty) (sym c.over.ensures.same)
    (λ clean. has_empty (state g.S.Store c.make_store.new.conn) (c.in-Ok.ensures.made clean blank))

pub returns-in-Ok-clause-durable : goal.returns-in-Ok-clause-durable
returns-in-Ok-clause-durable g c =
    let blank : (state g.S.Store c.args.conn).now.schema ≡ no_schema = sym c.schema.ensures.value ∙ c.is_blank.ensures.0 (search rules) in
    subst (λ h. HasCleanDisk (state g.S.Store h) → (left : Option State) → MayLeave (state g.S.Store h) left ↔ (left ≡ Some empty)) (sym c.over.ensures.same)
    (λ clean left. left_by_commit (state g.S.Store c.make_store.new.conn) empty left (c.in-Ok.ensures.made clean blank) sound_empty
    (λ db up may. g.met.S.Store.settled c.make_store.new.conn.store db up may) (λ up. g.met.S.Store.stays c.make_store.new.conn.store up))

pub returns-in-Ok-clause-survives : goal.returns-in-Ok-clause-survives
returns-in-Ok-clause-survives g c =
    let blank : (state g.S.Store c.args.conn).now.schema ≡ no_schema = sym c.schema.ensures.value ∙ c.is_blank.ensures.0 (search rules) in
    subst (λ h. Survives (state g.S.Store c.args.conn) (state g.S.Store h) (λ left. TreesHold left empty)) (sym c.over.ensures.same) (c.make_store.ensures.survives blank)

pub returns-in-Err-clause-back : goal.returns-in-Err-clause-back
returns-in-Err-clause-back g c clean s has = kept_has (state g.S.Store c.args.conn) (state g.S.Store c.make_store.new.conn) s (c.in-Err.ensures.none clean) has

pub returns-in-Err-clause-crash : goal.returns-in-Err-clause-crash
returns-in-Err-clause-crash g c =
    let blank : (state g.S.Store c.args.conn).now.schema ≡ no_schema = sym c.schema.ensures.value ∙ c.is_blank.ensures.0 (search rules) in
    c.make_store.ensures.survives blank
