use Rattle.redaction.proofs.ShortForm.{clears}
use Rattle.redaction.proofs.laws.short_form_clears.Goals as goal

pub returns : goal.returns
returns c = clears
