use Rattle.{std.{proofs.{Common.{◌≡◌, ◌∙◌, map, take, ap, sym}, lemmas.Result.IfOk-weaker}, specs.List.take-map}, circle.specs.Directory.Directory}
use Rattle.hub_state.specs.{Lists.with_directory, Reads.{entry_of, entries_after}}
use Rattle.hub_state.proofs.lists.Lists.entries_after.Goals as goal

pub returns : goal.returns
returns c = IfOk-weaker c.entries_of.result (λ v. v.items ≡ map entry_of c.first_of.result.now) (λ v. (d : Directory) → v.items ≡ entries_after c.args.number c.args.most (with_directory d c.args.self.now))
    (λ v h d. h ∙ (ap (map entry_of) (c.first_of.ensures ∙ ap (take c.args.most) (c.incidents_above.ensures d)) ∙ sym (take-map entry_of c.args.most _))) c.entries_of.ensures
