use Rattle.{std.proofs.Common.{[], ◌∷◌, rules}, hub_state.specs.Documents.documents_in, hub_core.{proofs.Asking.fourth, specs.Judgement.root_gate}}
use Rattle.hub_core.specs.{Judgement.{post_arguments, post_facts}, Refusals.unless_poster, inner.Asked.Asks}
use Rattle.hub_core.proofs.judging.post.post.Goals as goal

pub returns-in_err-check_facts-clause-asked : goal.returns-in_err-check_facts-clause-asked
returns-in_err-check_facts-clause-asked c =
    let arguments = post_arguments c.args.request.now in
    let facts = post_facts c.args.facts.now c.args.request.now.distribution.gates (documents_in c.args.request.now.document) in
    let result = c.from_residual-in_err-check_facts.result in
    let asked : Asks facts result = search rules in
    fourth (unless_poster c.args.actor.now ∷ []) (root_gate c.args.request.now.distribution) arguments facts result c.in_ok-poster.ensures c.in_ok-level.ensures.asked c.in_ok-gates.ensures.asked asked
