use Rattle.{std.proofs.Common.{rules, arith}, circle.proofs.Judged.counted_edit}
use Rattle.circle.proofs.judge.judge_by_facts.Goals as goal

pub returns-in-None-clause-edit : goal.returns-in-None-clause-edit
returns-in-None-clause-edit c = counted_edit c.args.actor.now c.args.command.now c.args.facts.now c.saturating_add.result c.in-Ok.edit (search rules) (λ low. omega (arith, c.saturating_add.ensures, low)) c.in-Ok.ensures.value
