use Rattle.{std.proofs.Common.{◌∙◌, ap}, hub_state.{proofs.Bare.sharing_bare, specs.Reads.sharing_of}, kept_rows.proofs.Reading.answered}
use Rattle.kept_rows.proofs.look_ups.KeptRowsLookUps.sharing_of.Goals as goal

pub returns : goal.returns
returns g c = answered _ _ _ _ c.args.self.now _ _ c.in_ok-may_ask.ensures.asked (λ s has. c.in_ok-find_shared.ensures ∙ (ap (sharing_of c.args.incident) has.1.same ∙ sharing_bare c.args.incident s))
