use Rattle.{std.proofs.Common.{rules, ◌≡◌, ◌∙◌, sym, ap}, circle.specs.{Aftermath.edited_rows, Directory.Directory}, hub_state.proofs.Bare.all_kept}
use Rattle.hub_state.{proofs.MadeApart.made_apart, specs.{Edits.with_edits, Lists.with_directory, State.State, inner.Changes.{directory_edits, row_edits}}}
use Rattle.hub_state.proofs.state_rows.StateRows.make.Goals as goal

pub returns-in_err-reserve-clause-none : goal.returns-in_err-reserve-clause-none
returns-in_err-reserve-clause-none c =
    let same : with_directory c.self.inside.directory c.reserve.new.self ≡ c.args.self.now = c.reserve.ensures.same c.self.inside.directory ∙ c.self.view_is in
    search rules

pub returns-in_err-apply-clause-none : goal.returns-in_err-apply-clause-none
returns-in_err-apply-clause-none c =
    let same : with_directory c.apply.new.self c.reserve.new.self ≡ c.args.self.now = ap (λ d. with_directory d c.reserve.new.self) c.in_err-apply.ensures.none ∙ (c.reserve.ensures.same c.self.inside.directory ∙ c.self.view_is) in
    search rules

pub returns-clause-made : goal.returns-clause-made
returns-clause-made c =
    let d : Directory = c.self.inside.directory in
    let changes = c.in_ok-changes.ensures.rows ∙ ap row_edits (all_kept c.args.edits.now) in
    let circle = c.in_ok-changes.ensures.directory ∙ ap directory_edits (all_kept c.args.edits.now) in
    let rows = c.make_all.ensures.made d ∙ (ap (λ l. with_edits l (with_directory d c.reserve.new.self)) changes ∙ ap (with_edits (row_edits c.args.edits.now)) (c.reserve.ensures.same d)) in
    ap (λ e. with_directory e c.make_all.new.self) (c.in_ok-apply.ensures.made ∙ ap (λ l. edited_rows l d) circle)
    ∙ (ap (λ (t : State). record t { directory = edited_rows (directory_edits c.args.edits.now) d }) rows
    ∙ (sym (made_apart c.args.edits.now (with_directory d c.self.inside.lists)) ∙ ap (with_edits c.args.edits.now) c.self.view_is))
