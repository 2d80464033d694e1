use Rattle.std.{proofs.{Common.{rules, ◌≡◌, ap, sym, ◌∙◌, arith, string_bytes, Bool, false, Some, None}, lemmas.Grind.common_steps}, specs.Str.Iter.chars_rest}
use Rattle.json_pointer.{proofs.Unescaping.{made_then, made_then-nil, plain_step, tilde_step, code_step, no_code_step}, specs.Pointer.unescaped_from}
use Rattle.json_pointer.proofs.pointer.read_token.Goals as goal

pub loop-c-init : goal.loop-c-init
loop-c-init c = ap (λ b. made_then b (unescaped_from false (chars_rest c.into_iter-c-iterator.result))) c.new-token.ensures.bytes ∙ made_then-nil _ ∙ search rules

pub returns-in_err-ok_or-clause-bad : goal.returns-in_err-ok_or-clause-bad
returns-in_err-ok_or-clause-bad c =
    let read = λ (b : Bool). made_then (string_bytes c.loop-c.token) (unescaped_from b (chars_rest c.loop-c.c-iterator)) in
    let nothing : c.escaped_char.result ≡ None = grind arith in
    λ same. no_code_step _ _ (chars_rest c.next.new.self) _ c.in-Some.c c.in-Some.ensures.steps.0 (sym c.escaped_char.ensures ∙ nothing) (ap read (sym c.if-behind_tilde.true) ∙ c.loop-c.invariant)

pub loop-c-preserved-then-behind_tilde : goal.loop-c-preserved-then-behind_tilde
loop-c-preserved-then-behind_tilde c =
    let read = λ (b : Bool). made_then (string_bytes c.loop-c.token) (unescaped_from b (chars_rest c.loop-c.c-iterator)) in
    let stands : c.escaped_char.result ≡ Some c.in_ok-ok_or.field-0 = grind arith in
    ap (λ b. made_then b (unescaped_from false (chars_rest c.next.new.self))) c.in_ok-push.ensures.bytes
    ∙ code_step (string_bytes c.loop-c.token) _ (chars_rest c.next.new.self) _ c.in-Some.c c.in_ok-ok_or.field-0 c.in-Some.ensures.steps.0 (sym c.escaped_char.ensures ∙ stands)
    (ap read (sym c.if-behind_tilde.true) ∙ c.loop-c.invariant)

pub loop-c-preserved-then-c-eq126 : goal.loop-c-preserved-then-c-eq126
loop-c-preserved-then-c-eq126 c = grind (arith, common_steps, tilde_step)

pub loop-c-preserved : goal.loop-c-preserved
loop-c-preserved c = grind (arith, plain_step)
