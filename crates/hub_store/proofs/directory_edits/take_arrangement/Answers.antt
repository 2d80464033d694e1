use Rattle.hub_store.proofs.Rows.Sets.{arrangements, pair_taken}
use Rattle.hub_store.proofs.directory_edits.take_arrangement.Goals as goal

pub returns-clause-made : goal.returns-clause-made
returns-clause-made g c s =
    pair_taken g.S.Store arrangements s c.args.source c.args.org _ _ c.remove_pair.ensures.goes c.remove_pair.ensures.ran
