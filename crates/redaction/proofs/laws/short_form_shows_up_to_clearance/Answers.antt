use Rattle.redaction.proofs.ShortForm.{shows}
use Rattle.redaction.proofs.laws.short_form_shows_up_to_clearance.Goals as goal

pub returns : goal.returns
returns c = shows
