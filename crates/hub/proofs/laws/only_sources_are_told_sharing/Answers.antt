use Rattle.hub.proofs.Shared.{only-sources}
use Rattle.hub.proofs.laws.only_sources_are_told_sharing.Goals as goal

pub returns : goal.returns
returns c = only-sources
