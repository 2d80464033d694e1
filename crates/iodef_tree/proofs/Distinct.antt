-- No two lines of a sound document have the same path.
use Rattle.std.proofs.Common.{◌≡◌, ℕ, suc, List, [], ◌∷◌, ◌++◌, Bool, false, map, filter, sym, subst, append-nil, append_assoc, Option, arith}
use Rattle.{std.{proofs.lemmas.{Bool.cond_both, List.map-append}, specs.List.{AllByRecursion, IsDistinct}}, json_pointer.specs.Text.{Bytes, Tokens, same_path}}
use Rattle.iodef_tree.proofs.{Apart.sound-apart, Located.located-lines, Order.{is_false, same_path-true, same_path-common, same_path-longer, is_prefix-append}}
use Rattle.iodef_tree.{proofs.Siblings.{all-append, all-map, siblings-all, siblings-map, walk-all}, specs.Laws.{AllSiblings, AreApart, HasApart}}
use Rattle.iodef_tree.specs.{Paths.{LocatedLine, is_class, located, classes_of}, Sound.IsSound, Tree.{Forest, end, leaf, branch, steps, lines}, Walk.walk}

abbrev path_of : LocatedLine → Tokens
path_of e = e.path

-- no path of the list is this one
abbrev IsFresh : Tokens → List Tokens → Type 0
IsFresh p qs = AllByRecursion (λ q. same_path p q ≡ false) qs

distinct-append : (xs ys : List Tokens) → IsDistinct same_path xs → IsDistinct same_path ys → AllByRecursion (λ x. IsFresh x ys) xs → IsDistinct same_path (xs ++ ys)
unfolding IsDistinct
distinct-append [] ys h k cross = k
distinct-append (x ∷ xs) ys h k cross = (all-append (λ q. same_path x q ≡ false) xs ys h.0 cross.0, distinct-append xs ys h.1 k cross.1)

-- two paths differ if one goes on from a sibling and the other from a sibling apart from it
pub apart-differ : (p : Tokens) (n : Bytes) (o : Option ℕ) (n' : Bytes) (o' : Option ℕ) → AreApart n o n' o' → (z z' : Tokens) → same_path (p ++ (steps n o ++ z)) (p ++ (steps n' o' ++ z')) ≡ false
apart-differ p n o n' o' h z z' = grind (arith, is_false, is_prefix-append, same_path-common, same_path-true)

-- a path that goes on from a sibling is none of the paths behind it
fresh-behind : (f : Forest) (d : ℕ) (p : Tokens) (n : Bytes) (o : Option ℕ) (z : Tokens) → AllSiblings (AreApart n o) f → IsFresh (p ++ (steps n o ++ z)) (map path_of (walk d p f))
fresh-behind f d p n o z apart =
    all-map (λ q. same_path (p ++ (steps n o ++ z)) q ≡ false) path_of (walk d p f)
    (walk-all (λ q. same_path (p ++ (steps n o ++ z)) q ≡ false) f d p
    (siblings-map (AreApart n o) (λ n' o'. (z' : Tokens) → same_path (p ++ (steps n o ++ z)) (p ++ (steps n' o' ++ z')) ≡ false) f (λ n' o' h z'. apart-differ p n o n' o' h z z') apart))

here-behind : (f : Forest) (d : ℕ) (p : Tokens) (n : Bytes) (o : Option ℕ) → AllSiblings (AreApart n o) f → IsFresh (p ++ steps n o) (map path_of (walk d p f))
here-behind f d p n o apart = subst (λ z. IsFresh (p ++ z) (map path_of (walk d p f))) (append-nil (steps n o)) (fresh-behind f d p n o [] apart)

-- a class has none of the paths below it
fresh-below : (f : Forest) (d : ℕ) (q : Tokens) → IsFresh q (map path_of (walk d q f))
fresh-below f d q =
    all-map (λ x. same_path q x ≡ false) path_of (walk d q f)
    (walk-all (λ x. same_path q x ≡ false) f d q (siblings-all (λ n o. (z : Tokens) → same_path q (q ++ (steps n o ++ z)) ≡ false) f (λ n o z. same_path-longer q n o z)))

distinct-walk : (f : Forest) (d : ℕ) (p : Tokens) → HasApart f → IsDistinct same_path (map path_of (walk d p f))
unfolding IsDistinct
distinct-walk end d p apart = tt
distinct-walk (leaf i rest) d p apart = (here-behind rest d p i.name i.place apart.0, distinct-walk rest d p apart.1)
distinct-walk (branch n o kids rest) d p apart =
    let q = p ++ steps n o in
    let K = map path_of (walk (suc d) q kids) in
    let R = map path_of (walk d p rest) in
    let cross : AllByRecursion (λ x. IsFresh x R) K =
    all-map (λ x. IsFresh x R) path_of (walk (suc d) q kids)
    (walk-all (λ x. IsFresh x R) kids (suc d) q
    (siblings-all (λ n' o'. (z : Tokens) → IsFresh (q ++ (steps n' o' ++ z)) R) kids
    (λ n' o' z. subst (λ x. IsFresh x R) (sym (append_assoc p (steps n o) (steps n' o' ++ z))) (fresh-behind rest d p n o (steps n' o' ++ z) apart.0)))) in
    subst (λ ps. IsDistinct same_path (q ∷ ps)) (sym (map-append path_of (walk (suc d) q kids) (walk d p rest))) (
      all-append (λ x. same_path q x ≡ false) K R (fresh-below kids (suc d) q) (here-behind rest d p n o apart.0),
      distinct-append K R (distinct-walk kids (suc d) q apart.1) (distinct-walk rest d p apart.2) cross,
    )

pub paths-distinct : (f : Forest) → IsSound f → IsDistinct same_path (map (λ (e : LocatedLine). e.path) (located (lines 1 f)))
paths-distinct f sound = subst (λ es. IsDistinct same_path (map path_of es)) (sym (located-lines f sound)) (distinct-walk f 1 [] (sound-apart f sound))

-- ---- some of the lines

fresh-filter : (P : LocatedLine → Bool) (p : Tokens) (es : List LocatedLine) → IsFresh p (map path_of es) → IsFresh p (map path_of (filter P es))
fresh-filter P p [] h = tt
fresh-filter P p (e ∷ es) h = cond_both (P e) (e ∷ filter P es) (filter P es) (λ xs. IsFresh p (map path_of xs)) (λ _. (h.0, fresh-filter P p es h.1)) (λ _. fresh-filter P p es h.1)

pub distinct-filter : (P : LocatedLine → Bool) (es : List LocatedLine) → IsDistinct same_path (map (λ (e : LocatedLine). e.path) es) → IsDistinct same_path (map (λ (e : LocatedLine). e.path) (filter P es))
unfolding IsDistinct
distinct-filter P [] h = tt
distinct-filter P (e ∷ es) h =
    let later = distinct-filter P es h.1 in
    cond_both (P e) (e ∷ filter P es) (filter P es) (λ xs. IsDistinct same_path (map path_of xs)) (λ _. (fresh-filter P e.path es h.0, later)) (λ _. later)

pub class_paths-distinct : (f : Forest) → IsSound f → IsDistinct same_path (classes_of (lines 1 f))
class_paths-distinct f sound = distinct-filter is_class (located (lines 1 f)) (paths-distinct f sound)
