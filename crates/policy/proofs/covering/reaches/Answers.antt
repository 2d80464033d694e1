use Rattle.std.{proofs.{Common.{◌≡◌, ◌++◌, ◌∷◌, [], ◌&&◌, ◌||◌, take, sym, ◌∙◌, ap, arith}, lemmas.List.take_more}, specs.Prelude.is_none}
use Rattle.{iodef_tree.specs.{Paths.located, Text.same_path}, marking.specs.Marks.written_label, policy.proofs.Reaches.{reaches-push, reaches-root}}
use Rattle.policy.specs.Permissions.{reaches}
use Rattle.policy.proofs.covering.reaches.Goals as goal

pub loop-token-init : goal.loop-token-init
loop-token-init c =
    let es = located c.args.document.now in
    let q = c.args.from.now in
    record {
      here = c.root-here.ensures;
      reached = c.eq-reached.ensures ∙ ap (same_path q) c.root-here.ensures ∙ reaches-root es q
          ∙ ap (reaches es q) (sym c.root-here.ensures);
    }

pub loop-token-preserved : goal.loop-token-preserved
loop-token-preserved c =
    let es = located c.args.document.now in
    let q = c.args.from.now in
    let p = c.loop-token.here in
    let t = c.token-item.result in
    let xs = c.tokens-token-items.result.now in
    let i = c.loop-token.token-index in
    let longer : c.in_ok-here.here ≡ p ++ t ∷ [] = c.in_ok-here.ensures in
    record {
      here = longer ∙ ap (λ z. z ++ t ∷ []) c.loop-token.invariant.here
          ∙ ap (λ y. take i xs ++ y ∷ []) c.token-item.is ∙ sym (take_more xs i t (omega arith));
      reached = c.goes_on-reached.ensures
          ∙ ap (λ b. (b && is_none (written_label es c.in_ok-here.here)) || same_path q c.in_ok-here.here) c.loop-token.invariant.reached
          ∙ ap (λ z. (reaches es q p && is_none (written_label es z)) || same_path q z) longer
          ∙ sym (reaches-push es q p t)
          ∙ ap (reaches es q) (sym longer);
    }
