use Rattle.{std.proofs.Common.{[], ap, option_map, unwrap_or}, redaction.specs.{Answers.whole_by_view, Outcome.◌>>=◌, Whole.{named, whole_of}}}
use Rattle.redaction.proofs.excerpting.whole_for.Goals as goal

pub returns : goal.returns
unfolding whole_by_view
returns c = λ never. ap (λ r. r >>= λ told. whole_of (unwrap_or c.args.view.said []) (option_map named c.args.id) told.outline) (c.in-Err.ensures never)
