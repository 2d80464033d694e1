use Rattle.{std.proofs.Common.refl, hub_store.proofs.Rows.{SetKinds.put_into, Sets.{in_pairs, memberships}, Texts.put_pair_is}}
use Rattle.hub_store.proofs.directory_edits.put_membership.Goals as goal

pub returns-clause-made : goal.returns-clause-made
returns-clause-made g c s =
    put_into g.S.Store (in_pairs memberships) s put_pair_is _ _ _ c.insert_pair.ensures.goes c.insert_pair.ensures.ran
    c.args.row.now refl tt
