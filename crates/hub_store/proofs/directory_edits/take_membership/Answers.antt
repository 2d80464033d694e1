use Rattle.hub_store.proofs.Rows.Sets.{memberships, pair_taken}
use Rattle.hub_store.proofs.directory_edits.take_membership.Goals as goal

pub returns-clause-made : goal.returns-clause-made
returns-clause-made g c s =
    pair_taken g.S.Store memberships s c.args.row.now.community c.args.row.now.org _ _ c.remove_pair.ensures.goes
    c.remove_pair.ensures.ran
