-- Lines that have come keep their paths, whatever comes behind them.
use Rattle.std.proofs.{Common.{◌≡◌, ℕ, suc, ◌≤◌, Bool, true, false, cond, ◌||◌, List, [], ◌∷◌, ◌++◌, refl, sym, ◌∙◌, ap, arith}, lemmas.Bool.or_left}
use Rattle.std.{proofs.lemmas.{Bool.{or_right, eq-eqb, ne_eqb}, List.Folds.list_any-append}, specs.{List.list_any, Option.option_map_or, Prelude.{Some, find}}}
use Rattle.iodef_tree.specs.{Paths.{LocatedLine, is_one_less_deep, parent_path, placed, located, located_after}, declared.line.Line.Line}
use Rattle.redact.specs.Sifted.{located_onto, located_back}

after-append : (before : List LocatedLine) (xs ys : List Line) → located_after before (xs ++ ys) ≡ located_after before xs ++ located_after (located_onto before xs) ys
after-append before [] ys = refl
after-append before (x ∷ xs) ys = ap (λ es. placed before x ∷ es) (after-append (placed before x ∷ before) xs ys)

pub located-append : (xs ys : List Line) → located (xs ++ ys) ≡ located xs ++ located_after (located_back xs) ys
located-append xs ys = after-append [] xs ys

pub onto-push : (ls : List Line) (l : Line) (before : List LocatedLine) → located_onto before (ls ++ l ∷ []) ≡ placed (located_onto before ls) l ∷ located_onto before ls
onto-push [] l before = refl
onto-push (x ∷ ls) l before = onto-push ls l (placed before x ∷ before)

-- if some line passes a test, it passes with more lines behind
pub any-stays : (f : LocatedLine → Bool) (xs ys : List Line) → list_any f (located xs) ≡ true → list_any f (located (xs ++ ys)) ≡ true
any-stays f xs ys h =
    ap (list_any f) (located-append xs ys) ∙ list_any-append f (located xs) (located_after (located_back xs) ys)
    ∙ or_left (list_any f (located xs)) (list_any f (located_after (located_back xs) ys)) h

pub any-implied : {X : Type 0} (f g : X → Bool) → ((x : X) → f x ≡ true → g x ≡ true) → (xs : List X) → list_any f xs ≡ true → list_any g xs ≡ true
any-implied f g k [] h = h
any-implied {X} f g k (x ∷ xs) h = by_test (f x) refl (any-implied f g k xs) h
  where
    by_test : (b : Bool) → f x ≡ b → (list_any f xs ≡ true → list_any g xs ≡ true) → (b || list_any f xs) ≡ true → (g x || list_any g xs) ≡ true
    by_test true e rest r = or_left (g x) (list_any g xs) (k x e)
    by_test false e rest r = or_right (g x) (list_any g xs) (rest r)

-- ---- the place of a line behind others

pub parent-old : (e : LocatedLine) (before : List LocatedLine) (d : ℕ) → d ≤ e.line.depth → parent_path (e ∷ before) d ≡ parent_path before d
parent-old e before d h =
    ap (λ t. option_map_or (λ (x : LocatedLine). x.path) (cond t (Some e) (find (is_one_less_deep d) before)) []) (ne_eqb (suc e.line.depth) d (λ q. omega (arith, h, q)))

pub parent-new : (e : LocatedLine) (before : List LocatedLine) (d : ℕ) → d ≡ suc e.line.depth → parent_path (e ∷ before) d ≡ e.path
parent-new e before d h =
    ap (λ t. option_map_or (λ (x : LocatedLine). x.path) (cond t (Some e) (find (is_one_less_deep d) before)) []) (eq-eqb (suc e.line.depth) d (sym h))
