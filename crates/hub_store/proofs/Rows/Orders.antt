-- A list that was sorted is the one that rises.
use Rattle.std.proofs.{Common.{◌≡◌, suc, List, [], ◌∷◌, false, refl, sym, ap, ◌∙◌, arith, add-one, true≢false}, lemmas.List.Elements.recursion_from_All}
use Rattle.std.proofs.lemmas.List.Sorted.{IsPermutation-cons, IsPermutation-trans, IsPermutation-refl, IsPermutation-sym, sorted_far, ranks_by}
use Rattle.std.specs.{Cmp.IsTotalOrder, List.Sorted.{IsPermutation, IsSortedBy}, Ordering.{is_eq, is_lt, ordering_reverse}, declared.cmp.Ordering.Ordering}
use Rattle.{std.specs.declared.cmp.Ordering.TheVariants.{Less, Equal, Greater}, sqlite_trees.proofs.ListLemmas.{all-permutation, all_both, along_permutation}}
use Rattle.{sqlite_trees.{proofs.ListLemmas.ascending_weaker, specs.Tree.IsAscending}, hub_store.proofs.Rows.Lists.{Rises, flipped, same_rising, has_permuted}}

module _ {X K : Type 0} {R : K → K → Ordering} (total : IsTotalOrder R) (key : X → K) where
  Apart : X → X → Type 0
  Apart a b = is_eq (R (key a) (key b)) ≡ false

  apart_back : (a b : X) → Apart a b → Apart b a
  unfolding Apart
  apart_back a b = go (R (key a) (key b)) (R (key b) (key a)) (total.antisymm (key b) (key a))
    where
      go : (o p : Ordering) → p ≡ ordering_reverse o → is_eq o ≡ false → is_eq p ≡ false
      go Less p e h = ap is_eq e
      go Equal p e h = absurd (true≢false h)
      go Greater p e h = ap is_eq e

  apart_permuted : (xs ys : List X) → IsPermutation xs ys → IsPermutation xs ys × (IsAscending Apart xs → IsAscending Apart ys)
  apart_permuted = along_permutation (λ xs ys. IsPermutation xs ys × (IsAscending Apart xs → IsAscending Apart ys))
      (λ xs. (IsPermutation-refl xs, λ h. h))
      (λ x xs ys f. (IsPermutation-cons x xs ys f.0, λ h. (all-permutation (Apart x) xs ys f.0 h.0, f.1 h.1)))
      (λ x y xs. (flipped x y xs, λ h. ((apart_back x y h.0.0, h.1.0), (h.0.1, h.1.1))))
      (λ xs ys zs f g. (IsPermutation-trans xs ys zs f.0 g.0, λ h. g.1 (f.1 h)))

  NoHigher : X → X → Type 0
  NoHigher a b = is_lt (R (key b) (key a)) ≡ false

  from_sorted : (ys : List X) → IsSortedBy (λ x y. is_lt (R (key x) (key y))) ys → IsAscending NoHigher ys
  unfolding NoHigher
  from_sorted [] up = tt
  from_sorted (y ∷ ys) up = (
    recursion_from_All (λ b. is_lt (R (key b) (key y)) ≡ false) ys (λ i d low. sorted_far (λ x y. is_lt (R (key x) (key y))) (ranks_by total key) (y ∷ ys) up 0 (suc i) d (omega arith) (omega arith)),
    from_sorted ys (λ k d low high. rw add-one (rw add-one at (up (suc k) d (omega arith) (omega arith)))),
  )

  below : (a b : X) → Apart a b → NoHigher a b → R (key a) (key b) ≡ Less
  unfolding Apart NoHigher
  below a b = go (R (key a) (key b)) (R (key b) (key a)) (total.antisymm (key b) (key a)) refl
    where
      go : (o p : Ordering) → p ≡ ordering_reverse o → o ≡ o → is_eq o ≡ false → is_lt p ≡ false → o ≡ Less
      go Less p e _ h k = refl
      go Equal p e _ h k = absurd (true≢false h)
      go Greater p e _ h k = absurd (true≢false (sym (ap is_lt e) ∙ k))

  both : (ys : List X) → IsAscending Apart ys → IsAscending NoHigher ys → Rises R key ys
  both [] h k = tt
  both (y ∷ ys) h k = (all_both _ _ _ (below y) ys h.0 k.0, both ys h.1 k.1)

  -- sorting the elements of a list that rises returns that list
  pub sorted_as : (xs ys : List X) → Rises R key xs → IsPermutation xs ys → IsSortedBy (λ x y. is_lt (R (key x) (key y))) ys → ys ≡ xs
  unfolding Apart
  sorted_as xs ys up same sorted =
      let apart = (apart_permuted xs ys same).1 (ascending_weaker _ Apart (λ a b h. ap is_eq h) xs up) in
      sym (same_rising total key xs ys up (both ys apart (from_sorted ys sorted)) (has_permuted xs ys same) (has_permuted ys xs (IsPermutation-sym xs ys same)))
