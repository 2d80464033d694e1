use Rattle.{std.proofs.Common.{◌∙◌, ap}, hub_state.{proofs.Bare.entries_bare, specs.Reads.entries_after}, kept_rows.proofs.Reading.answered}
use Rattle.kept_rows.proofs.kept_rows.KeptRowsShelf.incidents_after.Goals as goal

pub returns : goal.returns
returns g c = answered _ _ _ _ c.args.self.now _ _ c.in_ok-may_ask.ensures.asked (λ s has. c.in_ok-list_after.ensures ∙ (ap (entries_after c.args.number c.args.most) has.1.same ∙ entries_bare c.args.number c.args.most s))
