use Rattle.hub_store.proofs.Rows.Sets.{group_members, pair_taken}
use Rattle.hub_store.proofs.directory_edits.take_group_member.Goals as goal

pub returns-clause-made : goal.returns-clause-made
returns-clause-made g c s =
    pair_taken g.S.Store group_members s c.args.group c.args.org _ _ c.remove_pair.ensures.goes c.remove_pair.ensures.ran
