use Rattle.{std.proofs.{Common.{◌≡◌, ◌++◌, ◌∷◌, [], take, sym, ◌∙◌, ap, arith, rules}, lemmas.List.take_more}, explain.proofs.Passages.passages-root}
use Rattle.explain.{proofs.Passages.passages-push, specs.Explanation.{passages_at, passages_on}}
use Rattle.explain.proofs.explaining.passages.Goals as goal

pub loop-token-init : goal.loop-token-init
loop-token-init c =
    let k = c.args.case.now in
    let s = c.args.standing.now in
    let empty : c.new-passages.result.items ≡ [] = search rules in
    record {
      here = c.root-here.ensures;
      passages = c.in_ok-push_passages.ensures
          ∙ ap (λ xs. xs ++ passages_at k s c.root-here.result) empty
          ∙ ap (passages_at k s) c.root-here.ensures ∙ passages-root k s
          ∙ ap (passages_on k s) (sym c.root-here.ensures);
    }

pub loop-token-preserved : goal.loop-token-preserved
loop-token-preserved c =
    let k = c.args.case.now in
    let s = c.args.standing.now in
    let p = c.loop-token.here in
    let t = c.token-item.result in
    let xs = c.tokens-token-items.result.now in
    let i = c.loop-token.token-index in
    let longer : c.in_ok-here.here ≡ p ++ t ∷ [] = c.in_ok-here.ensures ∙ ap (λ x. p ++ x ∷ []) c.as_str.ensures in
    record {
      here = longer ∙ ap (λ q. q ++ t ∷ []) c.loop-token.invariant.here
          ∙ ap (λ y. take i xs ++ y ∷ []) c.token-item.is ∙ sym (take_more xs i t (omega arith));
      passages = c.in_ok-push_passages-2.ensures
          ∙ ap (λ ys. ys ++ passages_at k s c.in_ok-here.here) c.loop-token.invariant.passages
          ∙ ap (λ q. passages_on k s p ++ passages_at k s q) longer
          ∙ sym (passages-push k s p t)
          ∙ ap (passages_on k s) (sym longer);
    }
