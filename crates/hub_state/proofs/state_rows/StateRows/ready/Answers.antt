use Rattle.{std.{proofs.Common.{◌≡◌, ◌∙◌, map, sym, ap}, specs.Prelude.{false, List}}, circle.specs.{Aftermath.edited_rows, Directory.Directory}}
use Rattle.hub_state.{proofs.MadeApart.made_apart, specs.{Bare.kept_edit, Edits.with_edits, Lists.{Ready, ready_by, with_directory}, State.State}}
use Rattle.hub_state.specs.{declared.edit.Edit.Edit, inner.Changes.{row_edit, directory_edits, row_edits}}
use Rattle.hub_state.proofs.state_rows.StateRows.ready.Goals as goal

both : (b c a d : State) → b ≡ c → a ≡ d → ◌≡◌ {A = Ready} (record { before = b; after = a }) (record { before = c; after = d })
both b c a d h k = cc

pub returns-in-Err-reserve-clause-none : goal.returns-in-Err-reserve-clause-none
returns-in-Err-reserve-clause-none c = c.reserve.ensures.same c.self.inside.directory ∙ c.self.view_is

pub returns-in-Err-ready-clause-none : goal.returns-in-Err-ready-clause-none
returns-in-Err-ready-clause-none c =
    ap (λ d. with_directory d c.reserve.new.self) c.in-Err-ready.ensures.none
    ∙ (c.reserve.ensures.same c.self.inside.directory ∙ c.self.view_is)

pub returns-in-Ok-ready-clause-ready : goal.returns-in-Ok-ready-clause-ready
returns-in-Ok-ready-clause-ready c =
    let d : Directory = c.self.inside.directory in
    let edits : List Edit = map (kept_edit false) c.args.edits.now in
    let same = c.reserve.ensures.same d in
    let rows = ap (λ l. with_edits l (with_directory d c.reserve.new.self)) c.in-Ok.ensures.rows ∙ ap (with_edits (row_edits edits)) same in
    ap (λ r. ready_by r c.reserve.new.self c.in-Ok.changes.rows.items) c.in-Ok-ready.ensures.ready
    ∙ both _ c.args.self _ (with_edits edits c.args.self) (same ∙ c.self.view_is)
    (ap (λ l. record (with_edits (map row_edit c.in-Ok.changes.rows.items) (with_directory d c.reserve.new.self)) { directory = edited_rows l d }) c.in-Ok.ensures.directory
    ∙ (ap (λ (t : State). record t { directory = edited_rows (directory_edits edits) d }) rows
    ∙ (sym (made_apart edits (with_directory d c.self.inside.lists)) ∙ ap (with_edits edits) c.self.view_is)))
