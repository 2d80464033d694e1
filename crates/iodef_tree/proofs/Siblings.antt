-- Properties of siblings, and so of all lines at or below them.
use Rattle.std.proofs.Common.{◌≡◌, ℕ, suc, List, [], ◌∷◌, ◌++◌, Bool, true, false, map, filter, refl, sym, ◌∙◌, ap, subst, append-nil, append_assoc, Option}
use Rattle.{std.{proofs.lemmas.Bool.{cond-true, cond-false}, specs.List.AllByRecursion}, json_pointer.specs.Text.{Bytes, Tokens}}
use Rattle.iodef_tree.specs.{Laws.AllSiblings, Paths.LocatedLine, Tree.{Forest, end, leaf, branch, steps}, Walk.walk}

-- ---- lists

pub all-append : {X : Type 0} (Q : X → Type 0) (xs ys : List X) → AllByRecursion Q xs → AllByRecursion Q ys → AllByRecursion Q (xs ++ ys)
all-append Q [] ys h k = k
all-append Q (x ∷ xs) ys h k = (h.0, all-append Q xs ys h.1 k)

pub all-split : {X : Type 0} (Q : X → Type 0) (xs : List X) (y : X) → AllByRecursion Q (xs ++ y ∷ []) → AllByRecursion Q xs × Q y
all-split Q [] y h = (tt, h.0)
all-split Q (x ∷ xs) y h = let r = all-split Q xs y h.1 in ((h.0, r.0), r.1)

pub all-map : {X Y : Type 0} (Q : Y → Type 0) (f : X → Y) (xs : List X) → AllByRecursion (λ x. Q (f x)) xs → AllByRecursion Q (map f xs)
all-map Q f [] h = tt
all-map Q f (x ∷ xs) h = (h.0, all-map Q f xs h.1)

pub filter-none : {X : Type 0} (P : X → Bool) (xs : List X) → AllByRecursion (λ x. P x ≡ false) xs → filter P xs ≡ []
filter-none P [] h = refl
filter-none P (x ∷ xs) h = cond-false (P x) _ _ h.0 ∙ filter-none P xs h.1

pub filter-all : {X : Type 0} (P : X → Bool) (xs : List X) → AllByRecursion (λ x. P x ≡ true) xs → filter P xs ≡ xs
filter-all P [] h = refl
filter-all P (x ∷ xs) h = cond-true (P x) _ _ h.0 ∙ ap (λ ys. x ∷ ys) (filter-all P xs h.1)

-- ---- siblings

pub siblings-all : (Q : Bytes → Option ℕ → Type 0) (f : Forest) → ((n : Bytes) (o : Option ℕ) → Q n o) → AllSiblings Q f
siblings-all Q end h = tt
siblings-all Q (leaf i rest) h = (h i.name i.place, siblings-all Q rest h)
siblings-all Q (branch n o kids rest) h = (h n o, siblings-all Q rest h)

pub siblings-map : (Q R : Bytes → Option ℕ → Type 0) (f : Forest) → ((n : Bytes) (o : Option ℕ) → Q n o → R n o) → AllSiblings Q f → AllSiblings R f
siblings-map Q R end h all = tt
siblings-map Q R (leaf i rest) h all = (h i.name i.place all.0, siblings-map Q R rest h all.1)
siblings-map Q R (branch n o kids rest) h all = (h n o all.0, siblings-map Q R rest h all.1)

-- a property of all paths that go on from the siblings holds of each line
pub walk-all : (Q : Tokens → Type 0) (f : Forest) (d : ℕ) (p : Tokens) → AllSiblings (λ n o. (z : Tokens) → Q (p ++ (steps n o ++ z))) f → AllByRecursion (λ (e : LocatedLine). Q e.path) (walk d p f)
walk-all Q end d p h = tt
walk-all Q (leaf i rest) d p h =
    (subst (λ z. Q (p ++ z)) (append-nil (steps i.name i.place)) (h.0 []), walk-all Q rest d p h.1)
walk-all Q (branch n o kids rest) d p h =
    let q = p ++ steps n o in (
      subst (λ z. Q (p ++ z)) (append-nil (steps n o)) (h.0 []),
      all-append (λ (e : LocatedLine). Q e.path) (walk (suc d) q kids) (walk d p rest)
          (walk-all Q kids (suc d) q (siblings-all (λ n' o'. (z : Tokens) → Q (q ++ (steps n' o' ++ z))) kids
          (λ n' o' z. subst Q (sym (append_assoc p (steps n o) (steps n' o' ++ z))) (h.0 (steps n' o' ++ z)))))
          (walk-all Q rest d p h.1),
    )
