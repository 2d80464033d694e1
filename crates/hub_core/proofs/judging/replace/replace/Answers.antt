use Rattle.{std.proofs.Common.{[], ◌∷◌, rules}, hub_state.specs.Documents.documents_in, hub_core.{proofs.Asking.fourth, specs.Judgement.root_gate}}
use Rattle.hub_core.specs.{Judgement.{replace_arguments, replace_facts}, Refusals.unless_poster, inner.Asked.Asks}
use Rattle.hub_core.proofs.judging.replace.replace.Goals as goal

pub returns-in_err-known-clause-asked : goal.returns-in_err-known-clause-asked
returns-in_err-known-clause-asked c =
    let arguments = replace_arguments c.args.request.now in
    let facts = replace_facts c.args.facts.now c.args.actor.now c.args.request.now.revision c.args.request.now.distribution.gates (documents_in c.args.request.now.document) in
    let result = c.from_residual-in_err-known.result in
    let asked : Asks facts result = search rules in
    fourth (unless_poster c.args.actor.now ∷ []) (root_gate c.args.request.now.distribution) arguments facts result c.in_ok-poster.ensures c.in_ok-level.ensures.asked c.in_ok-gates.ensures.asked asked
