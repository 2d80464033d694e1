use Rattle.hub_store.proofs.Rows.Sets.{clients, pair_taken}
use Rattle.hub_store.proofs.directory_edits.take_client.Goals as goal

pub returns-clause-made : goal.returns-clause-made
returns-clause-made g c s =
    pair_taken g.S.Store clients s c.args.row.now.org c.args.row.now.client _ _ c.remove_pair.ensures.goes
    c.remove_pair.ensures.ran
