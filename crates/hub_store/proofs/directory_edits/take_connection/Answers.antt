use Rattle.hub_store.proofs.Rows.Sets.{connections, pair_taken}
use Rattle.hub_store.proofs.directory_edits.take_connection.Goals as goal

pub returns-clause-made : goal.returns-clause-made
returns-clause-made g c s =
    pair_taken g.S.Store connections s c.args.row.now.low c.args.row.now.high _ _ c.remove_pair.ensures.goes
    c.remove_pair.ensures.ran
