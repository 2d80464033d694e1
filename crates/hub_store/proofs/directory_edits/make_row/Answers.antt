use Rattle.hub_store.proofs.directory_edits.make_row.Goals as goal

pub returns-in-PutOrg-clause-made : goal.returns-in-PutOrg-clause-made
returns-in-PutOrg-clause-made g c s = rw c.in-PutOrg.is (c.put_org.ensures.made s)

pub returns-in-PutAccount-clause-made : goal.returns-in-PutAccount-clause-made
returns-in-PutAccount-clause-made g c s = rw c.in-PutAccount.is (c.put_person.ensures.made s)

pub returns-in-Suspend-clause-made : goal.returns-in-Suspend-clause-made
returns-in-Suspend-clause-made g c s = rw c.in-Suspend.is (c.suspend.ensures.made s)

pub returns-in-PutClient-clause-made : goal.returns-in-PutClient-clause-made
returns-in-PutClient-clause-made g c s = rw c.in-PutClient.is (c.put_client.ensures.made s)

pub returns-in-TakeClient-clause-made : goal.returns-in-TakeClient-clause-made
returns-in-TakeClient-clause-made g c s = rw c.in-TakeClient.is (c.take_client.ensures.made s)

pub returns-in-PutCommunity-clause-made : goal.returns-in-PutCommunity-clause-made
returns-in-PutCommunity-clause-made g c s = rw c.in-PutCommunity.is (c.put_community.ensures.made s)

pub returns-in-PutMembership-clause-made : goal.returns-in-PutMembership-clause-made
returns-in-PutMembership-clause-made g c s = rw c.in-PutMembership.is (c.put_membership.ensures.made s)

pub returns-in-TakeMembership-clause-made : goal.returns-in-TakeMembership-clause-made
returns-in-TakeMembership-clause-made g c s = rw c.in-TakeMembership.is (c.take_membership.ensures.made s)

pub returns-in-PutConnection-clause-made : goal.returns-in-PutConnection-clause-made
returns-in-PutConnection-clause-made g c s = rw c.in-PutConnection.is (c.put_connection.ensures.made s)

pub returns-in-TakeConnection-clause-made : goal.returns-in-TakeConnection-clause-made
returns-in-TakeConnection-clause-made g c s = rw c.in-TakeConnection.is (c.take_connection.ensures.made s)

pub returns-in-PutGroup-clause-made : goal.returns-in-PutGroup-clause-made
returns-in-PutGroup-clause-made g c s = rw c.in-PutGroup.is (c.put_group.ensures.made s)

pub returns-in-PutGroupMember-clause-made : goal.returns-in-PutGroupMember-clause-made
returns-in-PutGroupMember-clause-made g c s = rw c.in-PutGroupMember.is (c.put_group_member.ensures.made s)

pub returns-in-TakeGroupMember-clause-made : goal.returns-in-TakeGroupMember-clause-made
returns-in-TakeGroupMember-clause-made g c s = rw c.in-TakeGroupMember.is (c.take_group_member.ensures.made s)

pub returns-in-SetGroupActive-clause-made : goal.returns-in-SetGroupActive-clause-made
returns-in-SetGroupActive-clause-made g c s = rw c.in-SetGroupActive.is (c.switch.ensures.made s)

pub returns-in-PutArrangement-clause-made : goal.returns-in-PutArrangement-clause-made
returns-in-PutArrangement-clause-made g c s = rw c.in-PutArrangement.is (c.put_arrangement.ensures.made s)

pub returns-in-TakeArrangement-clause-made : goal.returns-in-TakeArrangement-clause-made
returns-in-TakeArrangement-clause-made g c s = rw c.in-TakeArrangement.is (c.take_arrangement.ensures.made s)

pub returns-in-SetNominated-clause-made : goal.returns-in-SetNominated-clause-made
returns-in-SetNominated-clause-made g c s = rw c.in-SetNominated.is (c.nominate.ensures.made s)

pub returns-in-SetKey-clause-made : goal.returns-in-SetKey-clause-made
returns-in-SetKey-clause-made g c s = rw c.in-SetKey.is (c.set_key.ensures.made s)
