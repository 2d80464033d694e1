use Rattle.{std.proofs.Common.{◌∙◌, ap}, hub_state.{proofs.Bare.naming_bare, specs.Reads.naming_of}, kept_rows.proofs.Reading.answered}
use Rattle.kept_rows.proofs.look_ups.KeptRowsLookUps.naming.Goals as goal

pub returns : goal.returns
returns g c = answered _ _ _ _ c.args.self.now _ _ c.in_ok-may_ask.ensures.asked (λ s has. c.in_ok-find_naming.ensures ∙ (ap (naming_of c.args.incident) has.1.same ∙ naming_bare c.args.incident s))
