use Rattle.{std.proofs.Common.refl, hub_store.proofs.Rows.{SetKinds.put_into, Sets.{connections, in_pairs}, Texts.put_pair_is}}
use Rattle.hub_store.proofs.directory_edits.put_connection.Goals as goal

pub returns-clause-made : goal.returns-clause-made
returns-clause-made g c s =
    put_into g.S.Store (in_pairs connections) s put_pair_is _ _ _ c.insert_pair.ensures.goes c.insert_pair.ensures.ran
    c.args.row.now refl tt
