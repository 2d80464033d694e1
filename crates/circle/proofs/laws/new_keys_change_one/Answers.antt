use Rattle.circle.proofs.NewKeys.{new_keys_change_one}
use Rattle.circle.proofs.laws.new_keys_change_one.Goals as goal

pub returns : goal.returns
returns c = new_keys_change_one
