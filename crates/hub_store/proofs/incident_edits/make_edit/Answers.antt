use Rattle.hub_store.proofs.incident_edits.make_edit.Goals as goal

pub returns-in-Directory-clause-made : goal.returns-in-Directory-clause-made
returns-in-Directory-clause-made g c s = rw c.in-Directory.is (c.make_row.ensures.made s)

pub returns-in-PutIncident-clause-made : goal.returns-in-PutIncident-clause-made
returns-in-PutIncident-clause-made g c s = rw c.in-PutIncident.is (c.put_incident.ensures.made s)

pub returns-in-TakeIncident-clause-made : goal.returns-in-TakeIncident-clause-made
returns-in-TakeIncident-clause-made g c s = rw c.in-TakeIncident.is (c.take_incident.ensures.made s)

pub returns-in-TakePolicy-clause-made : goal.returns-in-TakePolicy-clause-made
returns-in-TakePolicy-clause-made g c s = rw c.in-TakePolicy.is (c.take_policy.ensures.made s)

pub returns-in-PutGate-clause-made : goal.returns-in-PutGate-clause-made
returns-in-PutGate-clause-made g c s = rw c.in-PutGate.is (c.put_gate.ensures.made s)

pub returns-in-TakeGate-clause-made : goal.returns-in-TakeGate-clause-made
returns-in-TakeGate-clause-made g c s = rw c.in-TakeGate.is (c.take_gate.ensures.made s)

pub returns-in-PutRecipient-clause-made : goal.returns-in-PutRecipient-clause-made
returns-in-PutRecipient-clause-made g c s = rw c.in-PutRecipient.is (c.put_recipient.ensures.made s)

pub returns-in-TakeRecipient-clause-made : goal.returns-in-TakeRecipient-clause-made
returns-in-TakeRecipient-clause-made g c s = rw c.in-TakeRecipient.is (c.take_recipient.ensures.made s)

pub returns-in-PutPermission-clause-made : goal.returns-in-PutPermission-clause-made
returns-in-PutPermission-clause-made g c s = rw c.in-PutPermission.is (c.put_permission.ensures.made s)

pub returns-in-TakePermission-clause-made : goal.returns-in-TakePermission-clause-made
returns-in-TakePermission-clause-made g c s = rw c.in-TakePermission.is (c.take_permission.ensures.made s)
