-- What a query of one table shows of the elements of its rows.
use Rattle.std.proofs.{Common.{◌≡◌, List, [], ◌∷◌, map, filter, Bool, true, refl, ap, subst, ◌∙◌}, lemmas.List.Sorted.{IsPermutation-map, IsPermutation-trans}}
use Rattle.{std.specs.List.{AllByRecursion, Sorted.IsPermutation}, sqlite_value.specs.Order.Row, sqlite_trees.proofs.ListLemmas.{map-map, filter-map}}
use Rattle.{sqlite_trees.proofs.ListLemmas.{filter_same, IsPermutation-filter}, iodef_tree.proofs.Siblings.filter-all}

pub always : {X : Type 0} {P : X → Type 0} → ((x : X) → P x) → (xs : List X) → AllByRecursion P xs
always h [] = tt
always h (x ∷ xs) = (h x, always h xs)

-- a test of the rows of some elements is one of the elements
pub filter_rows : {X Y : Type 0} (row : X → Y) (p : Y → Bool) (q : X → Bool) → ((x : X) → p (row x) ≡ q x) → (xs : List X) → filter p (map row xs) ≡ map row (filter q xs)
filter_rows row p q same xs = filter-map p row xs ∙ ap (map row) (filter_same (λ x. p (row x)) q xs (always same xs))

pub filter_all : {X : Type 0} (xs : List X) → filter (λ x. true) xs ≡ xs
filter_all xs = filter-all (λ x. true) xs (always (λ x. refl) xs)

pub map_each : {X Y : Type 0} (f g : X → Y) → ((x : X) → f x ≡ g x) → (xs : List X) → map f xs ≡ map g xs
map_each f g same [] = refl
map_each f g same (x ∷ xs) = let head = same x in let tail = map_each f g same xs in cc

-- the rows that pass show the elements that pass
pub shown_of : {X Y : Type 0} (row : X → Row) (keep : Row → Bool) (shown : Row → Y) (q : X → Bool) (all : List X) (rows : List Row) (found : List Y) → ((x : X) → keep (row x) ≡ q x) → IsPermutation (map row all) rows
    → IsPermutation (map shown (filter keep rows)) found → IsPermutation (map (λ x. shown (row x)) (filter q all)) found
shown_of row keep shown q all rows found same table is =
    let kept = IsPermutation-map shown _ _ (IsPermutation-filter keep _ _ table) in
    IsPermutation-trans _ _ _ (subst (λ l. IsPermutation l (map shown (filter keep rows))) (ap (map shown) (filter_rows row keep q same all) ∙ map-map shown row _) kept) is
