use Rattle.{std.proofs.Common.refl, hub_store.proofs.Rows.{SetKinds.put_into, Sets.{group_members, in_pairs}, Texts.put_pair_is}}
use Rattle.hub_store.proofs.directory_edits.put_group_member.Goals as goal

pub returns-clause-made : goal.returns-clause-made
returns-clause-made g c s =
    put_into g.S.Store (in_pairs group_members) s put_pair_is _ _ _ c.insert_pair.ensures.goes
    (λ clean inside. rw (c.one_if.ensures) at (c.insert_pair.ensures.ran clean inside)) c.args.row.now refl tt
