use Rattle.hub_core.proofs.Judged.{refused_in, allowed_in, made_in}
use Rattle.hub_core.proofs.judging.judge.Goals as goal

pub returns-clause-refused : goal.returns-clause-refused
returns-clause-refused c = λ s is. refused_in s c.args.actor.now c.args.request.now c.args.facts.now c.judge_by_facts.result is c.judge_by_facts.ensures.refused

pub returns-clause-allowed : goal.returns-clause-allowed
returns-clause-allowed c = λ s is. allowed_in s c.args.actor.now c.args.request.now c.args.facts.now c.judge_by_facts.result is c.judge_by_facts.ensures.allowed

pub returns-clause-made : goal.returns-clause-made
returns-clause-made c = λ s sound is. made_in (λ edits. edits.items) s c.args.actor.now c.args.request.now c.args.facts.now c.judge_by_facts.result sound is c.judge_by_facts.ensures.allowed c.judge_by_facts.ensures.edits
