use Rattle.{std.proofs.{Common.{◌≡◌, ◌+◌, take, drop, take-append-drop, subst, arith, rules}, lemmas.Grind.common_steps}, sqlite.specs.Held.state}
use Rattle.hub_store.{proofs.Edits.PutsThen.{puts_none, puts_more, puts_not}, specs.inner.PutsLines.PutsLines}
use Rattle.hub_store.proofs.put_lines.put_each.Goals as goal

pub loop-line-init : goal.loop-line-init
loop-line-init g c = record { same_reference = search rules; at = omega arith; puts = puts_none _ c.args.incident c.args.place }

pub loop-line-preserved : goal.loop-line-preserved
loop-line-preserved g c = record {
  same_reference = search rules;
  at = search rules;
  puts = puts_more _ _ _ tt _ c.args.incident c.args.place c.loop-line.at c.loop-line.line-index c.args.lines.now c.line-item.result c.loop-line-test.true c.line-item.is c.loop-line.invariant.at c.loop-line.invariant.puts c.in_ok-put_one.ensures.puts;
}

pub returns-in_err-put_one-clause-puts : goal.returns-in_err-put_one-clause-puts
returns-in_err-put_one-clause-puts g c =
    let done = take (c.loop-line.line-index + 1) c.args.lines.now in
    let rest = drop (c.loop-line.line-index + 1) c.args.lines.now in
    subst (λ ls. PutsLines c.args.incident c.args.place ls (state g.S.Store c.args.tx.now.conn.now) (state g.S.Store c.put_one.new.tx.conn.now) c.from_residual.result) (take-append-drop (c.loop-line.line-index + 1) c.args.lines.now)
    (puts_not _ _ _ c.from_residual.result c.args.incident c.args.place done rest c.from_residual.ensures.1
    (puts_more _ _ _ tt _ c.args.incident c.args.place c.loop-line.at c.loop-line.line-index c.args.lines.now c.line-item.result c.loop-line-test.true c.line-item.is c.loop-line.invariant.at c.loop-line.invariant.puts c.in_err-put_one.ensures.puts))

pub returns-clause-puts : goal.returns-clause-puts
returns-clause-puts g c =
    let all : take c.loop-line.line-index c.args.lines.now ≡ c.args.lines.now = grind (arith, common_steps) in
    rw all at c.loop-line.invariant.puts
