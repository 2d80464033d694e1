-- One of the sets of pairs, as a query by its name sees it.
use Rattle.std.proofs.Common.{◌≡◌, ℕ, zero, suc, List, [], ◌∷◌, ◌++◌, map, filter, take, drop, slice_get, Bool, true, false, ◌&&◌, Some, refl, sym, ap, ◌∙◌}
use Rattle.std.{proofs.lemmas.{Bool.{and_parts, not-true}, List.{append-nil, Elements.filter-append}}, specs.{List.list_all, Str.bytes_eq}}
use Rattle.{sqlite_value.specs.{Order.{Row, column}, declared.value.Value.TheVariants.Text}, sqlite_trees.proofs.ListLemmas.filter_none}
use Rattle.hub_store.{proofs.Rows.{Compare.{is_same, equal_texts}, Found.{always, filter_rows}, PairSets.{is_other_kind, some_set}}, specs.Pairs.Pair}
use Rattle.hub_store.specs.Pairs.{PairSet, pair_row, rows_of_pairs}

-- the row has the name of the set, and the rest of it passes
abbrev pub is_of : List ℕ → (Row → Bool) → Row → Bool
is_of kind test r = is_same (column r 0) (Text kind) && test r

module _ (kind : List ℕ) (test : Row → Bool) where
  other_set : (set : PairSet) → bytes_eq set.0 kind ≡ false → filter (is_of kind test) (map (pair_row set.0) set.1) ≡ []
  other_set set e =
      filter_rows (pair_row set.0) (is_of kind test) (λ p. false) (λ p. ap (λ b. b && test (pair_row set.0 p)) (equal_texts set.0 kind ∙ e)) set.1 ∙ ap (map (pair_row set.0)) (filter_none (λ p. false) set.1 (always (λ p. refl) set.1))

  other_sets : (sets : List PairSet) → list_all (is_other_kind kind) sets ≡ true → filter (is_of kind test) (rows_of_pairs sets) ≡ []
  other_sets [] others = refl
  other_sets (set ∷ sets) others =
      let both = and_parts _ _ others in
      filter-append (is_of kind test) (map (pair_row set.0) set.1) (rows_of_pairs sets)
      ∙ (ap (λ l. l ++ filter (is_of kind test) (rows_of_pairs sets)) (other_set set (not-true _ both.0)) ∙ other_sets sets both.1)

  own_set : (pairs : List Pair) → bytes_eq kind kind ≡ true → filter (is_of kind test) (map (pair_row kind) pairs) ≡ filter test (map (pair_row kind) pairs)
  own_set pairs itself =
      filter_rows (pair_row kind) (is_of kind test) (λ p. test (pair_row kind p)) (λ p. ap (λ b. b && test (pair_row kind p)) (equal_texts kind kind ∙ itself)) pairs
      ∙ sym (filter_rows (pair_row kind) test (λ p. test (pair_row kind p)) (λ p. refl) pairs)

  -- a query by the name of a set sees only that set
  pub kind_alone : (at : ℕ) (sets : List PairSet) (pairs : List Pair) → slice_get sets at ≡ Some (kind, pairs) → bytes_eq kind kind ≡ true → list_all (is_other_kind kind) (take at sets ++ drop (suc at) sets) ≡ true →
      filter (is_of kind test) (rows_of_pairs sets) ≡ filter test (map (pair_row kind) pairs)
  kind_alone at [] pairs is itself others = absurd cc
  kind_alone zero (set ∷ sets) pairs is itself others =
      filter-append (is_of kind test) (map (pair_row set.0) set.1) (rows_of_pairs sets)
      ∙ (ap (λ l. filter (is_of kind test) (map (pair_row set.0) set.1) ++ l) (other_sets sets others)
      ∙ (append-nil (filter (is_of kind test) (map (pair_row set.0) set.1)) ∙ (ap (λ (set : PairSet). filter (is_of kind test) (map (pair_row set.0) set.1)) (some_set set (kind, pairs) is) ∙ own_set pairs itself)))
  kind_alone (suc at) (set ∷ sets) pairs is itself others =
      let both = and_parts _ _ others in
      filter-append (is_of kind test) (map (pair_row set.0) set.1) (rows_of_pairs sets)
      ∙ (ap (λ l. l ++ filter (is_of kind test) (rows_of_pairs sets)) (other_set set (not-true _ both.0)) ∙ kind_alone at sets pairs is itself both.1)
