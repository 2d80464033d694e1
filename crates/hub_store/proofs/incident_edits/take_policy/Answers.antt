use Rattle.{std.proofs.Common.rules, hub_store.{proofs.Edits.Steps.makes_then, specs.{Means.Holds, inner.Partly.without_gates}}}
use Rattle.hub_store.proofs.incident_edits.take_policy.Goals as goal

pub returns-in_err-take_gates-clause-made : goal.returns-in_err-take_gates-clause-made
returns-in_err-take_gates-clause-made g c s =
    let one = c.in_err-take_gates.ensures.made s in
    record { goes = record { kept = one.goes.kept; inside = λ _ inside. search rules; survives = one.goes.survives }; made = λ _ _ before. search rules }

pub returns-clause-made : goal.returns-clause-made
returns-clause-made g c s = makes_then _ _ _ _ (λ db. Holds db (without_gates c.args.incident s)) _ _ _ (c.in_ok-take_gates.ensures.made s) (c.take_permissions.ensures.made s)
