use Rattle.{std.proofs.Common.◌∙◌, hub_store.proofs.LookUps.Halving.found_by_halving}
use Rattle.hub_store.proofs.common_numbers.is_among.Goals as goal

pub returns : goal.returns
returns c up = c.is_ok.ensures.value ∙ found_by_halving c.args.numbers.now c.args.number c.binary_search.result c.binary_search.ensures.position up
