use Rattle.redact.proofs.{Matters.excerpt-same, MattersLabels.labels-of-all, MattersMarked.well-marked}
use Rattle.redact.proofs.laws.what_matters_is_told.Goals as goal

pub returns : goal.returns
returns c = λ ls c s. record { excerpt = excerpt-same ls c s; marked = well-marked ls c s; labels = labels-of-all ls c s }
