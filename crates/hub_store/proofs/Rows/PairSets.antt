-- Five sets in one table, told apart by a column with the set's name.
use Rattle.std.proofs.Common.{◌≡◌, ℕ, zero, suc, pos, List, [], ◌∷◌, ◌++◌, map, filter, take, drop, slice_get, Bool, true, false, not, ◌&&◌, ◌==◌, Some, refl}
use Rattle.std.proofs.{Common.{sym, ap, subst, ◌∙◌}, lemmas.{Bool.{and_parts, not-true}, List.{Elements.filter-append, Sorted.IsPermutation-map}}}
use Rattle.std.proofs.lemmas.List.Sorted.{IsPermutation-append_left, IsPermutation-append_right, IsPermutation-middle, IsPermutation-trans, IsPermutation-sym}
use Rattle.{std.specs.{List.{list_all, Sorted.IsPermutation}, Str.bytes_eq}, sqlite_value.specs.{Order.Row, declared.value.Value.TheVariants.{Int, Text}}}
use Rattle.hub_store.{proofs.Rows.{Compare.{equal_numbers, equal_texts, and-true, begins}, Found.{filter_all, filter_rows}}, specs.Pairs.{Pair, PairSet}}
use Rattle.hub_store.specs.Pairs.{pair_row, rows_of_pairs}

pub some_set : (x y : PairSet) → Some x ≡ Some y → x ≡ y
some_set x y e = cc

-- ---- a pair is put

pub pair_in : (at : ℕ) (sets after : List PairSet) (kind : List ℕ) (one : Pair) (pairs more : List Pair) → slice_get sets at ≡ Some (kind, pairs) → after ≡ take at sets ++ (kind, more) ∷ drop (suc at) sets →
    IsPermutation (one ∷ pairs) more → IsPermutation (pair_row kind one ∷ rows_of_pairs sets) (rows_of_pairs after)
pair_in at sets after kind one pairs more is now same = subst (λ l. IsPermutation (pair_row kind one ∷ rows_of_pairs sets) (rows_of_pairs l)) (sym now) (go at sets is)
  where
    first : (set : PairSet) (rest : List PairSet) → set ≡ (kind, pairs) → IsPermutation (pair_row kind one ∷ (map (pair_row set.0) set.1 ++ rows_of_pairs rest)) (map (pair_row kind) more ++ rows_of_pairs rest)
    first set rest e =
        subst (λ (set : PairSet). IsPermutation (pair_row kind one ∷ (map (pair_row set.0) set.1 ++ rows_of_pairs rest)) (map (pair_row kind) more ++ rows_of_pairs rest)) (sym e)
        (IsPermutation-append_left (rows_of_pairs rest) _ _ (IsPermutation-map (pair_row kind) _ _ same))

    go : (at : ℕ) (sets : List PairSet) → slice_get sets at ≡ Some (kind, pairs) → IsPermutation (pair_row kind one ∷ rows_of_pairs sets) (rows_of_pairs (take at sets ++ (kind, more) ∷ drop (suc at) sets))
    go at [] is = absurd cc
    go zero (set ∷ rest) is = first set rest (some_set set (kind, pairs) is)
    go (suc at) (set ∷ rest) is =
        IsPermutation-trans _ _ _ (IsPermutation-sym _ _ (IsPermutation-middle (map (pair_row set.0) set.1) (pair_row kind one) (rows_of_pairs rest)))
        (IsPermutation-append_right (map (pair_row set.0) set.1) _ _ (go at rest is))

-- ---- pairs are taken

abbrev pub is_pair : ℕ → ℕ → Pair → Bool
is_pair a b p = p.0.0 == a && p.0.1 == b

abbrev pub is_row : List ℕ → ℕ → ℕ → Row → Bool
is_row kind a b = begins 0 (Text kind ∷ Int (pos a) ∷ Int (pos b) ∷ [])

row_test : (kind other : List ℕ) (a b : ℕ) (p : Pair) → is_row kind a b (pair_row other p) ≡ (bytes_eq other kind && is_pair a b p)
row_test kind other a b p = rw (equal_texts other kind, equal_numbers p.0.0 a, equal_numbers p.0.1 b, and-true (p.0.1 == b)) refl

same_kind : (kind other : List ℕ) (a b : ℕ) (p : Pair) → bytes_eq other kind ≡ true → not (is_row kind a b (pair_row other p)) ≡ not (is_pair a b p)
same_kind kind other a b p e = ap not (row_test kind other a b p ∙ ap (λ t. t && is_pair a b p) e)

other_kind : (kind other : List ℕ) (a b : ℕ) (p : Pair) → bytes_eq other kind ≡ false → not (is_row kind a b (pair_row other p)) ≡ true
other_kind kind other a b p e = ap not (row_test kind other a b p ∙ ap (λ t. t && is_pair a b p) e)

other_set : (kind : List ℕ) (a b : ℕ) (set : PairSet) → bytes_eq set.0 kind ≡ false → filter (λ r. not (is_row kind a b r)) (map (pair_row set.0) set.1) ≡ map (pair_row set.0) set.1
other_set kind a b set e = filter_rows (pair_row set.0) (λ r. not (is_row kind a b r)) (λ p. true) (λ p. other_kind kind set.0 a b p e) set.1 ∙ ap (map (pair_row set.0)) (filter_all set.1)

abbrev pub is_other_kind : List ℕ → PairSet → Bool
is_other_kind kind set = not (bytes_eq set.0 kind)

other_sets : (kind : List ℕ) (a b : ℕ) (sets : List PairSet) → list_all (is_other_kind kind) sets ≡ true → filter (λ r. not (is_row kind a b r)) (rows_of_pairs sets) ≡ rows_of_pairs sets
other_sets kind a b [] others = refl
other_sets kind a b (set ∷ sets) others =
    let both = and_parts _ _ others in
    filter-append (λ r. not (is_row kind a b r)) (map (pair_row set.0) set.1) (rows_of_pairs sets)
    ∙ (ap (λ l. l ++ filter (λ r. not (is_row kind a b r)) (rows_of_pairs sets)) (other_set kind a b set (not-true _ both.0)) ∙ ap (λ l. map (pair_row set.0) set.1 ++ l) (other_sets kind a b sets both.1))

-- the pair of these numbers is taken out of its set only
pub pair_out : (at : ℕ) (sets after : List PairSet) (kind : List ℕ) (a b : ℕ) (pairs : List Pair) → slice_get sets at ≡ Some (kind, pairs) → bytes_eq kind kind ≡ true →
    after ≡ take at sets ++ (kind, filter (λ p. not (is_pair a b p)) pairs) ∷ drop (suc at) sets → list_all (is_other_kind kind) (take at sets ++ drop (suc at) sets) ≡ true →
    filter (λ r. not (is_row kind a b r)) (rows_of_pairs sets) ≡ rows_of_pairs after
pair_out at sets after kind a b pairs is itself now others = go at sets is others ∙ ap rows_of_pairs (sym now)
  where
    own : filter (λ r. not (is_row kind a b r)) (map (pair_row kind) pairs) ≡ map (pair_row kind) (filter (λ p. not (is_pair a b p)) pairs)
    own = filter_rows (pair_row kind) (λ r. not (is_row kind a b r)) (λ p. not (is_pair a b p)) (λ p. same_kind kind kind a b p itself) pairs

    first : (set : PairSet) → set ≡ (kind, pairs) → filter (λ r. not (is_row kind a b r)) (map (pair_row set.0) set.1) ≡ map (pair_row kind) (filter (λ p. not (is_pair a b p)) pairs)
    first set e = ap (λ (set : PairSet). filter (λ r. not (is_row kind a b r)) (map (pair_row set.0) set.1)) e ∙ own

    go : (at : ℕ) (sets : List PairSet) → slice_get sets at ≡ Some (kind, pairs) → list_all (is_other_kind kind) (take at sets ++ drop (suc at) sets) ≡ true →
        filter (λ r. not (is_row kind a b r)) (rows_of_pairs sets) ≡ rows_of_pairs (take at sets ++ (kind, filter (λ p. not (is_pair a b p)) pairs) ∷ drop (suc at) sets)
    go at [] is others = absurd cc
    go zero (set ∷ rest) is others =
        filter-append (λ r. not (is_row kind a b r)) (map (pair_row set.0) set.1) (rows_of_pairs rest)
        ∙ (ap (λ l. l ++ filter (λ r. not (is_row kind a b r)) (rows_of_pairs rest)) (first set (some_set set (kind, pairs) is)) ∙ ap (λ l. map (pair_row kind) (filter (λ p. not (is_pair a b p)) pairs) ++ l) (other_sets kind a b rest others))
    go (suc at) (set ∷ rest) is others =
        let both = and_parts _ _ others in
        filter-append (λ r. not (is_row kind a b r)) (map (pair_row set.0) set.1) (rows_of_pairs rest)
        ∙ (ap (λ l. l ++ filter (λ r. not (is_row kind a b r)) (rows_of_pairs rest)) (other_set kind a b set (not-true _ both.0)) ∙ ap (λ l. map (pair_row set.0) set.1 ++ l) (go at rest is both.1))
