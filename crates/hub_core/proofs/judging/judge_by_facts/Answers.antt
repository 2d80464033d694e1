use Rattle.{std.proofs.Common.refl, hub_core.proofs.Judged.{refused_by, allowed_by}}
use Rattle.hub_state.specs.declared.request.Request.TheVariants as ask
use Rattle.hub_core.proofs.judging.judge_by_facts.Goals as goal

pub returns-in-Post-clause-refused : goal.returns-in-Post-clause-refused
returns-in-Post-clause-refused c = refused_by c.args.actor.now c.args.request.now (ask.Post c.in-Post.asked) c.args.facts.now c.post.result c.stop_as_refusal.result (record { name = c.in-Post.is; plain = refl }) c.post.ensures.asked c.stop_as_refusal.ensures.refused

pub returns-in-Post-clause-allowed : goal.returns-in-Post-clause-allowed
returns-in-Post-clause-allowed c = allowed_by c.args.actor.now c.args.request.now (ask.Post c.in-Post.asked) c.args.facts.now c.post.result c.stop_as_refusal.result (record { name = c.in-Post.is; plain = refl }) c.post.ensures.asked c.stop_as_refusal.ensures.edits

pub returns-in-Replace-clause-refused : goal.returns-in-Replace-clause-refused
returns-in-Replace-clause-refused c = refused_by c.args.actor.now c.args.request.now (ask.Replace c.in-Replace.asked) c.args.facts.now c.replace.result c.stop_as_refusal-in-Replace.result (record { name = c.in-Replace.is; plain = refl }) c.replace.ensures.asked c.stop_as_refusal-in-Replace.ensures.refused

pub returns-in-Replace-clause-allowed : goal.returns-in-Replace-clause-allowed
returns-in-Replace-clause-allowed c = allowed_by c.args.actor.now c.args.request.now (ask.Replace c.in-Replace.asked) c.args.facts.now c.replace.result c.stop_as_refusal-in-Replace.result (record { name = c.in-Replace.is; plain = refl }) c.replace.ensures.asked c.stop_as_refusal-in-Replace.ensures.edits

pub returns-in-Redistribute-clause-refused : goal.returns-in-Redistribute-clause-refused
returns-in-Redistribute-clause-refused c = refused_by c.args.actor.now c.args.request.now (ask.Redistribute c.in-Redistribute.asked) c.args.facts.now c.redistribute.result c.stop_as_refusal-in-Redistribute.result (record { name = c.in-Redistribute.is; plain = refl }) c.redistribute.ensures.asked c.stop_as_refusal-in-Redistribute.ensures.refused

pub returns-in-Redistribute-clause-allowed : goal.returns-in-Redistribute-clause-allowed
returns-in-Redistribute-clause-allowed c = allowed_by c.args.actor.now c.args.request.now (ask.Redistribute c.in-Redistribute.asked) c.args.facts.now c.redistribute.result c.stop_as_refusal-in-Redistribute.result (record { name = c.in-Redistribute.is; plain = refl }) c.redistribute.ensures.asked c.stop_as_refusal-in-Redistribute.ensures.edits

pub returns-in-Grant-clause-refused : goal.returns-in-Grant-clause-refused
returns-in-Grant-clause-refused c = refused_by c.args.actor.now c.args.request.now (ask.Grant c.in-Grant.asked) c.args.facts.now c.grant.result c.stop_as_refusal-in-Grant.result (record { name = c.in-Grant.is; plain = refl }) c.grant.ensures.asked c.stop_as_refusal-in-Grant.ensures.refused

pub returns-in-Grant-clause-allowed : goal.returns-in-Grant-clause-allowed
returns-in-Grant-clause-allowed c = allowed_by c.args.actor.now c.args.request.now (ask.Grant c.in-Grant.asked) c.args.facts.now c.grant.result c.stop_as_refusal-in-Grant.result (record { name = c.in-Grant.is; plain = refl }) c.grant.ensures.asked c.stop_as_refusal-in-Grant.ensures.edits

pub returns-in-Address-clause-refused : goal.returns-in-Address-clause-refused
returns-in-Address-clause-refused c = refused_by c.args.actor.now c.args.request.now (ask.Address c.in-Address.asked) c.args.facts.now c.address.result c.stop_as_refusal-in-Address.result (record { name = c.in-Address.is; plain = refl }) c.address.ensures.asked c.stop_as_refusal-in-Address.ensures.refused

pub returns-in-Unaddress-clause-refused : goal.returns-in-Unaddress-clause-refused
returns-in-Unaddress-clause-refused c = refused_by c.args.actor.now c.args.request.now (ask.Unaddress c.in-Unaddress.asked) c.args.facts.now c.unaddress.result c.stop_as_refusal-in-Unaddress.result (record { name = c.in-Unaddress.is; plain = refl }) c.unaddress.ensures.asked c.stop_as_refusal-in-Unaddress.ensures.refused

pub returns-in-Withdraw-clause-refused : goal.returns-in-Withdraw-clause-refused
returns-in-Withdraw-clause-refused c = refused_by c.args.actor.now c.args.request.now (ask.Withdraw c.in-Withdraw.asked) c.args.facts.now c.withdraw.result c.stop_as_refusal-in-Withdraw.result (record { name = c.in-Withdraw.is; plain = refl }) c.withdraw.ensures.asked c.stop_as_refusal-in-Withdraw.ensures.refused

pub returns-in-Explain-clause-refused : goal.returns-in-Explain-clause-refused
returns-in-Explain-clause-refused c = refused_by c.args.actor.now c.args.request.now (ask.Explain c.in-Explain.asked) c.args.facts.now c.explain.result c.stop_as_refusal-in-Explain.result (record { name = c.in-Explain.is; plain = refl }) c.explain.ensures.asked c.stop_as_refusal-in-Explain.ensures.refused

pub returns-in-Search-clause-refused : goal.returns-in-Search-clause-refused
returns-in-Search-clause-refused c = refused_by c.args.actor.now c.args.request.now (ask.Search c.in-Search.asked) c.args.facts.now c.search.result c.stop_as_refusal-in-Search.result (record { name = c.in-Search.is; plain = refl }) c.search.ensures.asked c.stop_as_refusal-in-Search.ensures.refused

pub returns-in-Sharing-clause-refused : goal.returns-in-Sharing-clause-refused
returns-in-Sharing-clause-refused c =
    refused_by c.args.actor.now c.args.request.now (ask.Sharing c.in-Sharing.incident) c.args.facts.now c.sharing.result c.stop_as_refusal-in-Sharing.result
    (record { name = c.in-Sharing.is; plain = refl }) c.sharing.ensures.asked c.stop_as_refusal-in-Sharing.ensures.refused
