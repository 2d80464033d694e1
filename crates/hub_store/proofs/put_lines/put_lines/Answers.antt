use Rattle.std.proofs.{Common.{◌≡◌, ◌++◌, [], refl, sym, ap, subst, ◌∙◌, arith, rules, append_assoc, append-nil}, lemmas.List.{nil_from_length, length-append}}
use Rattle.{hub_state.specs.Documents.Lines, sqlite.specs.Held.state, hub_store.proofs.Edits.PutsThen.{puts_none, puts_then_at, puts_not}}
use Rattle.hub_store.specs.inner.PutsLines.{PutsLines}
use Rattle.hub_store.proofs.put_lines.put_lines.Goals as goal

pub loop-some-init : goal.loop-some-init
loop-some-init g c = (search rules, tt, search rules, search rules, [], search rules, refl, puts_none _ c.args.incident 1)

pub loop-some-preserved : goal.loop-some-preserved
loop-some-preserved g c =
    let before = c.loop-some.invariant in
    let steps = c.in-Some.ensures.steps in
    let some = c.in-Some.some.now in (
      search rules,
      tt,
      steps.0 ∙ before.2,
      search rules,
      before.4 ++ some,
      append_assoc before.4 some _ ∙ ap (λ (l : Lines). before.4 ++ l) (sym steps.1.0) ∙ before.5,
      omega (arith, before.6, length-append before.4 some),
      puts_then_at _ _ _ tt _ c.args.incident 1 c.loop-some.place before.4 some before.6 before.7 c.in_ok-put_some.ensures.puts,
    )

pub returns-in_err-put_some-clause-puts : goal.returns-in_err-put_some-clause-puts
returns-in_err-put_some-clause-puts g c =
    let before = c.loop-some.invariant in
    let steps = c.in-Some.ensures.steps in
    let some = c.in-Some.some.now in
    let all = append_assoc before.4 some _ ∙ ap (λ (l : Lines). before.4 ++ l) (sym steps.1.0) ∙ before.5 in
    subst (λ ls. PutsLines c.args.incident 1 ls (state g.S.Store c.args.tx.now.conn.now) (state g.S.Store c.put_some.new.tx.conn.now) c.from_residual.result) all
    (puts_not _ _ _ c.from_residual.result c.args.incident 1 (before.4 ++ some) _ c.from_residual.ensures.1
    (puts_then_at _ _ _ tt _ c.args.incident 1 c.loop-some.place before.4 some before.6 before.7 c.in_err-put_some.ensures.puts))

pub returns-clause-puts : goal.returns-clause-puts
returns-clause-puts g c =
    let before = c.loop-some.invariant in
    let none = nil_from_length _ c.in-None.ensures.steps.1.0 in
    let all : before.4 ≡ c.args.lines.now = sym (append-nil before.4) ∙ ap (λ (l : Lines). before.4 ++ l) (sym none) ∙ before.5 in
    rw all at before.7
