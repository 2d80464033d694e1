-- What a look-up from a class on the way finds, said of the whole path.
use Rattle.std.proofs.Common.{◌≡◌, ℕ, zero, suc, ◌<◌, ◌≤◌, List, [], ◌∷◌, ◌++◌, Bool, false, ◌||◌, length, take, drop, refl, sym, ◌∙◌, ap, subst, arith}
use Rattle.{std.proofs.lemmas.List.{take-append-drop, take-append-le, take_all}, iodef_tree.specs.{Laws.StandsAt, Paths.{LocatedLine, has_class}, Text.Bytes}}
use Rattle.iodef_tree.specs.{Text.{Tokens, is_root}, Tree.Forest}

-- the path of the class above and the tokens of the look-up make the whole path
whole : (p : Tokens) (x : Bytes) (here : Tokens) (depth : ℕ) → here ≡ p ++ x ∷ [] → depth ≤ length p → take depth p ++ drop depth here ≡ here
whole p x here depth is low =
    ap (λ q. q ++ drop depth here) (sym (take-append-le depth p (x ∷ []) low) ∙ ap (take depth) (sym is)) ∙ take-append-drop depth here

some-left : (n : ℕ) (p : Tokens) → n < length p → is_root (drop n p) ≡ false
some-left n [] h = absurd (omega (arith, h))
some-left zero (x ∷ p) h = refl
some-left (suc n) (x ∷ p) h = some-left n p (omega (arith, h))

pub found-here : (es : List LocatedLine) (p : Tokens) (x : Bytes) (here : Tokens) (depth : ℕ) (found : Bool) → here ≡ p ++ x ∷ [] → depth ≤ length p → depth < length here →
    found ≡ (is_root (drop depth here) || has_class es (take depth p ++ drop depth here)) → found ≡ has_class es here
found-here es p x here depth found is low more said =
    said
    ∙ ap (λ b. b || has_class es (take depth p ++ drop depth here)) (some-left depth here more)
    ∙ ap (has_class es) (whole p x here depth is low)

pub stands-here : (es : List LocatedLine) (p : Tokens) (x : Bytes) (here : Tokens) (depth : ℕ) (f : Forest) → here ≡ p ++ x ∷ [] → depth ≤ length p →
    StandsAt es (take depth p ++ drop depth here) f → StandsAt es here f
stands-here es p x here depth f is low at = subst (λ q. StandsAt es q f) (whole p x here depth is low) at

pub stands-whole : (es : List LocatedLine) (here : Tokens) (f : Forest) → StandsAt es here f → StandsAt es (take (length here) here) f
stands-whole es here f at = subst (λ q. StandsAt es q f) (sym (take_all (length here) here (omega arith))) at

-- the class above is still at the beginning of the longer path
pub still-stands : (es : List LocatedLine) (p : Tokens) (x : Bytes) (here : Tokens) (depth : ℕ) (f : Forest) → here ≡ p ++ x ∷ [] → depth ≤ length p →
    StandsAt es (take depth p) f → StandsAt es (take depth here) f
still-stands es p x here depth f is low at =
    subst (λ q. StandsAt es q f) (sym (take-append-le depth p (x ∷ []) low) ∙ ap (take depth) (sym is)) at
