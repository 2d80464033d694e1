use Rattle.redaction.proofs.ShortForm.{no-refusal}
use Rattle.redaction.proofs.laws.open_case_refuses_nobody.Goals as goal

pub returns : goal.returns
returns c = no-refusal
