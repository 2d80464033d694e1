use Rattle.{std.proofs.{Common.{◌≡◌, ◌∙◌, ap}, lemmas.Result.IfOk-weaker}, circle.specs.Directory.Directory, hub_state.specs.Lists.with_directory}
use Rattle.hub_state.specs.{Reads.entries_after, State.State}
use Rattle.hub_state.proofs.state_rows.StateRows.list_after.Goals as goal

pub returns : goal.returns
returns c = IfOk-weaker c.entries_after.result (λ v. (d : Directory) → v.items ≡ entries_after c.args.number c.args.most (with_directory d c.self.inside.lists)) (λ v. v.items ≡ entries_after c.args.number c.args.most c.args.self.now)
    (λ v h. h c.self.inside.directory ∙ ap (λ (s : State). entries_after c.args.number c.args.most s) c.self.view_is) c.entries_after.ensures
