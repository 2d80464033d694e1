use Rattle.hub.proofs.NewKeys.{new-keys}
use Rattle.hub.proofs.laws.new_keys_replace_old.Goals as goal

pub returns : goal.returns
returns c = new-keys
