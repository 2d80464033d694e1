use Rattle.{std.proofs.Common.{◌∙◌, ap}, hub_state.{proofs.Bare.case_bare, specs.Reads.case_of}, kept_rows.proofs.Reading.answered}
use Rattle.kept_rows.proofs.kept_rows.KeptRowsShelf.case.Goals as goal

pub returns : goal.returns
returns g c = answered _ _ _ _ c.args.self.now _ _ c.in_ok-may_ask.ensures.asked (λ s has. c.in_ok-found.ensures ∙ (ap (case_of c.args.incident) has.1.same ∙ case_bare c.args.incident s))
