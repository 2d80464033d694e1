use Rattle.std.{proofs.{Common.{lit<, ◌≡◌, ap, ◌∙◌}, lemmas.{Iterator.Splits.YieldsList-from_str_split, Result.err_from_is_err_and}}, specs.List.slice_split}
use Rattle.{std.specs.Str.{Iter.{split_steps, split_text, split_has_more, split_pattern}, Pattern.FindsChar}, json_pointer.proofs.Unescaping.{Comes, made_then}}
use Rattle.json_pointer.{proofs.Unescaping.{made_then-nil, token_step, bad_step, last_step}, specs.Pointer.{is_slash, slash_separated}}
use Rattle.json_pointer.proofs.pointer.read_tokens.Goals as goal

pub loop-token-init : goal.loop-token-init
loop-token-init c =
    let same = c.into_iter-token-iterator.ensures.into_iter_gives in (
      slice_split is_slash c.args.written.now,
      (YieldsList-from_str_split 47 c.args.written.now (lit< tt) (ap split_text same ∙ c.split-token-items.ensures.text) (ap split_has_more same ∙ c.split-token-items.ensures.has_more)
          (ap split_pattern same ∙ c.split-token-items.ensures.pattern)).runs,
      ap (λ ts. made_then ts (slash_separated c.args.written.now)) c.new-tokens.ensures.items ∙ made_then-nil (slash_separated c.args.written.now),
    )

pub returns-in_err-read_token-clause-bad : goal.returns-in_err-read_token-clause-bad
returns-in_err-read_token-clause-bad c =
    let told = err_from_is_err_and c.from_residual.result c.from_residual.ensures.1 in
    λ same. bad_step (split_steps FindsChar (λ a b. b ≡ a)) (λ x. x.now) (slash_separated c.args.written.now) _ c.next.new.self _ c.in-Some.token c.loop-token.invariant c.in-Some.ensures.steps
    (c.in_err-read_token.ensures.bad (cc (told.1, told.2, same)))

pub loop-token-preserved : goal.loop-token-preserved
loop-token-preserved c =
    let Left = Comes (split_steps FindsChar (λ a b. b ≡ a)) (λ x. x.now) (slash_separated c.args.written.now) c.next.new.self in
    rw c.in_ok-push.ensures.items
    (token_step (split_steps FindsChar (λ a b. b ≡ a)) (λ x. x.now) (slash_separated c.args.written.now) _ c.next.new.self c.loop-token.tokens.items c.in-Some.token c.in_ok-read_token.field-0 c.loop-token.invariant
    c.in-Some.ensures.steps c.in_ok-read_token.ensures.token)

pub returns-clause-tokens : goal.returns-clause-tokens
returns-clause-tokens c = last_step (split_steps FindsChar (λ a b. b ≡ a)) (λ x. x.now) (slash_separated c.args.written.now) _ c.next.new.self _ c.loop-token.invariant c.in-None.ensures.steps
