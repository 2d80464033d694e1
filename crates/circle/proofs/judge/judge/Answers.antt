use Rattle.circle.proofs.Judged.{by_facts, answer_makes}
use Rattle.circle.proofs.judge.judge.Goals as goal

pub returns-clause-refused : goal.returns-clause-refused
returns-clause-refused c = λ d is. rw (by_facts d c.args.actor.now c.args.command.now c.args.facts.now is) c.judge_by_facts.ensures.refused

pub returns-clause-made : goal.returns-clause-made
returns-clause-made c = λ d sound is. answer_makes d c.args.actor.now c.args.command.now c.args.facts.now c.judge_by_facts.result sound is c.judge_by_facts.ensures.allowed c.judge_by_facts.ensures.edit
