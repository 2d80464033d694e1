-- The gates on the way to a path, token by token.
use Rattle.std.{proofs.{Common.{◌≡◌, [], ◌∷◌, ◌++◌, sym, ◌∙◌, ap}, lemmas.List.{append-nil, Concat.flat_map-append}}, specs.List.flat_map}
use Rattle.{iodef_tree.specs.Text.{Bytes, Tokens, prefixes}, policy.{proofs.Steps.prefixes-push, specs.declared.{case.Case.Case, standing.Standing.Standing}}}
use Rattle.explain.specs.Explanation.{passages_at, passages_on}

pub passages-root : (c : Case) (s : Standing) → passages_at c s [] ≡ passages_on c s []
passages-root c s = sym (append-nil (passages_at c s []))

-- the gates above come first
pub passages-push : (c : Case) (s : Standing) (p : Tokens) (x : Bytes) →
    passages_on c s (p ++ x ∷ []) ≡ passages_on c s p ++ passages_at c s (p ++ x ∷ [])
passages-push c s p x =
    let q = p ++ x ∷ [] in
    ap (flat_map (passages_at c s)) (prefixes-push p x)
    ∙ flat_map-append (passages_at c s) (prefixes p) (q ∷ [])
    ∙ ap (λ ys. passages_on c s p ++ ys) (append-nil (passages_at c s q))
