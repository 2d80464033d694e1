use Rattle.std.proofs.{Common.{◌≡◌, ◌≤◌, ◌<◌, ◌+◌, ◌++◌, ◌∷◌, [], take, length, sym, ◌∙◌, ap, subst, arith}, lemmas.List.{length-take-le, take_all, take_more}}
use Rattle.{iodef_tree.specs.Paths.located, policy.specs.{Ahead.ahead_of, Inherited.{carried, inherited_at}}}
use Rattle.policy.proofs.deciding.said_at.Goals as goal

pub loop-place-init : goal.loop-place-init
loop-place-init c = record {
  ahead = c.in_ok-ahead.ensures;
  reached = c.at_root-descent.ensures c.args.case.now c.args.standing.now c.in_ok-ahead.ensures;
}

pub below-descent-requires-clause-depth : goal.below-descent-requires-clause-depth
below-descent-requires-clause-depth c =
    let xs = c.tokens-tokens.result.now in
    let i = c.loop-place.place in
    let more : i < length xs = omega arith in
    let low : c.loop-place.descent.depth ≤ length (take i xs) = c.loop-place.invariant.reached.depth in
    let before : length (take i xs) ≡ i = length-take-le i xs (omega (arith, more)) in
    let now : length (take (i + 1) xs) ≡ i + 1 = length-take-le (i + 1) xs (omega (arith, more)) in
    omega (arith, low, before, now)

pub below-descent-requires-clause-filled : goal.below-descent-requires-clause-filled
below-descent-requires-clause-filled c = c.loop-place.invariant.reached.filled

pub loop-place-preserved : goal.loop-place-preserved
loop-place-preserved c =
    let k = c.args.case.now in
    let s = c.args.standing.now in
    let xs = c.tokens-tokens.result.now in
    let i = c.loop-place.place in
    let p = take i xs in
    let t = c.index-tokens-place.result in
    let longer : take (i + 1) xs ≡ p ++ t ∷ [] = take_more xs i t (omega arith) ∙ sym (ap (λ y. p ++ y ∷ []) c.index-tokens-place.is) in
    let ahead = c.in_ok-ahead-2.ensures k s p c.loop-place.invariant.ahead
    ∙ ap (λ x. ahead_of k s (p ++ x ∷ [])) c.as_str.ensures ∙ ap (ahead_of k s) (sym longer) in
    record {
      ahead = ahead;
      reached = c.below-descent.ensures c.args.document.now k s p t longer ahead c.loop-place.invariant.reached;
    }

pub returns : goal.returns
returns c =
    let xs = c.tokens-tokens.result.now in
    let all : take c.loop-place.place xs ≡ c.args.path.now = take_all c.loop-place.place xs (omega arith) ∙ c.tokens-tokens.ensures in
    subst (λ q. carried q c.loop-place.descent.said ≡ inherited_at (located c.args.document.now) c.args.case.now c.args.standing.now q) all c.loop-place.invariant.reached.said
