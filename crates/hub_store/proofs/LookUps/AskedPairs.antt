-- What queries of the table of pairs show of one of its sets.
use Rattle.std.proofs.Common.{◌≡◌, ℕ, pos, negsuc, List, [], ◌∷◌, map, filter, drop, Bool, true, false, ◌==◌, codes, Option, Some, None, nat_cmp, refl, ap}
use Rattle.std.{proofs.{Common.{subst, ◌∙◌}, lemmas.Bool.{and_parts, eqb-true, false_from_ne_true}}, specs.{List.Sorted.IsPermutation, Option.option_to_list}}
use Rattle.{std.specs.declared.cmp.Ordering.TheVariants.Less, sqlite_value.{proofs.OrderLemmas.value_cmp-Int, specs.Order.{Row, column}}}
use Rattle.{sqlite_value.specs.declared.{keys.Key.Key, value.Value.TheVariants.{Int, Text}}, sqlite_trees.proofs.ListLemmas.{all_weaker, ascending-map}}
use Rattle.{sqlite_trees.specs.Tree.{Trees, IsAscending}, sqlite_sql.specs.{Query.{IsAnswer, Output, output_cmp}, Term.{Term, lit, col, eval_all}}}
use Rattle.{sqlite.proofs.Callers.one_permutation, circle.specs.{Directory.Directory, Ordered.pair_cmp}, hub_state.specs.Sound.IsSound}
use Rattle.hub_store.proofs.LookUps.{Finding.{seen_through, of_elements, only_one, Once, no_permutation}, Listed.{in_its_order, int_below, not_less}}
use Rattle.hub_store.proofs.{LookUps.{Listed.{first_decides, next_decides, outs, past_outs}, Placed.{int_as_nat, last_two}}, Rows.Compare.begins}
use Rattle.hub_store.proofs.Rows.{Compare.{equal_numbers, and-true, column_past, past}, Forms.{one_table, is_param, by_column, ordered_by}, Found.filter_all}
use Rattle.hub_store.proofs.Rows.{OneKind.{kind_alone, is_of}, Places.{pair_place, pair_tree, held_of}, Rising.rising, Statements.{keeps, shows, selected}}
use Rattle.hub_store.specs.{Holdings.holding_without_rowids, Means.Means, Pairs.{Pair, pair_row, rows_of_pairs}, Rows.{pair_sets, client_pair, membership_pair}}
use Rattle.hub_store.specs.{Rows.{connection_pair, group_member_pair, arrangement_pair}, declared.pair_kind.PairKind.PairKind, inner.Adds.pair_shown}
use Rattle.hub_store.specs.inner.PairKinds.{kind_name, pairs_of, is_between, pair_between, pairs_from, pairs_to, value_shown, first_shown, second_shown}
use Rattle.circle.specs.Sound as circle
use Rattle.hub_state.specs.State as core
use Rattle.hub_store.specs.declared.pair_kind.PairKind.TheVariants as kind

-- ---- one set of the table

seen_kind : (k : PairKind) (test : Row → Bool) (d : Directory) → filter (is_of (kind_name k) test) (rows_of_pairs (pair_sets d)) ≡ filter test (map (pair_row (kind_name k)) (pairs_of k d))
seen_kind kind.Client test d = kind_alone (codes "client") test 0 (pair_sets d) (map client_pair d.clients) refl refl refl
seen_kind kind.Membership test d = kind_alone (codes "member") test 1 (pair_sets d) (map membership_pair d.memberships) refl refl refl
seen_kind kind.Connection test d = kind_alone (codes "link") test 2 (pair_sets d) (map connection_pair d.connections) refl refl refl
seen_kind kind.GroupMember test d = kind_alone (codes "grp_member") test 3 (pair_sets d) (map group_member_pair d.group_members) refl refl refl
seen_kind kind.Arrangement test d = kind_alone (codes "arrangement") test 4 (pair_sets d) (map arrangement_pair d.arrangements) refl refl refl

abbrev pub Below : Pair → Pair → Type 0
Below p q = pair_cmp p.0 q.0 ≡ Less

-- each set is in the order of its two numbers
pub pairs_rise : (k : PairKind) (d : Directory) → circle.IsSound d → IsAscending Below (pairs_of k d)
pairs_rise kind.Client d sound = ascending-map Below client_pair d.clients (rising _ d.clients sound.clients.rising)
pairs_rise kind.Membership d sound = ascending-map Below membership_pair d.memberships (rising _ d.memberships sound.memberships.rising)
pairs_rise kind.Connection d sound = ascending-map Below connection_pair d.connections (rising _ d.connections sound.connections.rising)
pairs_rise kind.GroupMember d sound = ascending-map Below group_member_pair d.group_members (rising _ d.group_members sound.group_members.rising)
pairs_rise kind.Arrangement d sound = ascending-map Below arrangement_pair d.arrangements (rising _ d.arrangements sound.arrangements.rising)

-- two numbers are in a set once
pub once_between : (a b : ℕ) (ps : List Pair) → IsAscending Below ps → Once (is_between a b) ps
once_between a b [] up = tt
once_between a b (p ∷ ps) up = (all_weaker (Below p) (λ q. is_between a b p ≡ true → is_between a b q ≡ false) (λ q h is. false_from_ne_true (is_between a b q) (apart q h (and_parts (p.0.0 == a) (p.0.1 == b) is))) ps up.0, once_between a b ps up.1)
  where
    apart : (q : Pair) → Below p q → ((p.0.0 == a) ≡ true) × ((p.0.1 == b) ≡ true) → is_between a b q ≡ true → ⊥
    apart q h one also =
        let other = and_parts (q.0.0 == a) (q.0.1 == b) also in
        not_less p.0.1 q.0.1 b (eqb-true p.0.1 b one.1) (eqb-true q.0.1 b other.1) (next_decides p.0.0 q.0.0 a (nat_cmp p.0.1 q.0.1) one.0 other.0 h)

-- ---- queries

alone : {X : Type 0} (shown : X → Row) (o : Option X) (rows : List Row) → IsPermutation (map shown (option_to_list o)) rows → rows ≡ map shown (option_to_list o)
alone shown None rows same = no_permutation rows same
alone shown (Some x) rows same = one_permutation (shown x) rows same

module _ (db : Trees) (s : core.State) (k : PairKind) (sound : IsSound s) (means : Means db s) where
  -- the pairs of the set that pass, in some order
  passing : {Y : Type 0} (keep : Row → Bool) (show : Row → Y) (test : Row → Bool) (out : Row → Y) (q : Pair → Bool) (found : List Y) → ((r : Row) → keep r ≡ is_of (kind_name k) test (drop 1 r)) → ((r : Row) → show r ≡ out (drop 1 r)) → ((p : Pair) → test (pair_row (kind_name k) p) ≡ q p)
      → IsPermutation (map show (filter keep (db 9))) found → IsPermutation (map (λ p. out (pair_row (kind_name k) p)) (filter q (pairs_of k s.directory))) found
  passing keep show test out q found keeps shows same is =
      let seen = seen_through db (holding_without_rowids pair_tree (rows_of_pairs (pair_sets s.directory))) keep show (is_of (kind_name k) test) out found keeps shows (held_of s pair_place _ refl means) is in
      of_elements (pair_row (kind_name k)) test out q (pairs_of k s.directory) found same (subst (λ l. IsPermutation (map out l) found) (seen_kind k test s.directory) seen)

  pub between_shown : (a b : ℕ) (rows : List Row) → IsAnswer (one_table pair_tree (is_param 1 0 ∷ is_param 2 1 ∷ is_param 3 2 ∷ []) (col 1 4 ∷ [])) db (Text (kind_name k) ∷ Int (pos a) ∷ Int (pos b) ∷ []) rows → rows ≡ map value_shown (option_to_list (pair_between k a b s.directory))
  between_shown a b rows answer =
      let terms = is_param 1 0 ∷ is_param 2 1 ∷ is_param 3 2 ∷ [] in
      let params = Text (kind_name k) ∷ Int (pos a) ∷ Int (pos b) ∷ [] in
      let found = passing (keeps terms params) (shows (col 1 4 ∷ []) params) (begins 1 (Int (pos a) ∷ Int (pos b) ∷ [])) (λ r. column r 3 ∷ []) (is_between a b) rows (past 0 (0 ∷ 1 ∷ 2 ∷ []) params) (λ r. ap (λ v. v ∷ []) (column_past r 3))
      (λ p. rw (equal_numbers p.0.0 a, equal_numbers p.0.1 b, and-true (p.0.1 == b)) refl) (selected db pair_tree terms (col 1 4 ∷ []) params rows answer) in
      alone value_shown (pair_between k a b s.directory) rows (subst (λ l. IsPermutation (map value_shown l) rows) (only_one (is_between a b) (pairs_of k s.directory) (once_between a b (pairs_of k s.directory) (pairs_rise k s.directory sound.directory))) found)

  -- the pairs of the set that pass, in the order of the query
  ordered : (terms project : List Term) (order : List (Term × Key)) (params : Row) (test : Row → Bool) (out : Row → Output) (q : Pair → Bool) (rows : List Row) → ((r : Row) → keeps terms params r ≡ is_of (kind_name k) test (drop 1 r))
      → ((r : Row) → (eval_all (map (λ (key : Term × Key). key.0) order) (params ∷ r ∷ []), shows project params r) ≡ out (drop 1 r)) → ((p : Pair) → test (pair_row (kind_name k) p) ≡ q p)
      → ((a b : Pair) → q a ≡ true → Below a b → q b ≡ true → output_cmp (ordered_by order (one_table pair_tree terms project)) (out (pair_row (kind_name k) a)) (out (pair_row (kind_name k) b)) ≡ Less)
      → IsAnswer (ordered_by order (one_table pair_tree terms project)) db params rows → rows ≡ map (λ p. (out (pair_row (kind_name k) p)).1) (filter q (pairs_of k s.directory))
  ordered terms project order params test out q rows kept show same below answer =
      in_its_order db pair_tree (pairs_of k s.directory) q terms project order (lit (Int (negsuc 0))) params (λ p. out (pair_row (kind_name k) p)) rows Below (pairs_rise k s.directory sound.directory) below
      (λ all found. passing (keeps terms params) (λ r. (eval_all (map (λ (key : Term × Key). key.0) order) (params ∷ r ∷ []), shows project params r)) test out q all kept show same found) answer

  pub from_shown : (a : ℕ) (rows : List Row) → IsAnswer (ordered_by (by_column 3 ∷ []) (one_table pair_tree (is_param 1 0 ∷ is_param 2 1 ∷ []) (col 1 3 ∷ col 1 4 ∷ []))) db (Text (kind_name k) ∷ Int (pos a) ∷ []) rows → rows ≡ map second_shown (pairs_from k a s.directory)
  from_shown a rows answer =
      let params = Text (kind_name k) ∷ Int (pos a) ∷ [] in
      ordered (is_param 1 0 ∷ is_param 2 1 ∷ []) (col 1 3 ∷ col 1 4 ∷ []) (by_column 3 ∷ []) params (begins 1 (Int (pos a) ∷ [])) (outs (2 ∷ []) (2 ∷ 3 ∷ [])) (λ (p : Pair). p.0.0 == a) rows (past 0 (0 ∷ 1 ∷ []) params) (past_outs (2 ∷ []) (2 ∷ 3 ∷ []) params) (λ p. and-true _ ∙ equal_numbers p.0.0 a)
      (λ p q one less other. rw (value_cmp-Int (pos p.0.1) (pos q.0.1), int_below p.0.1 q.0.1 (next_decides p.0.0 q.0.0 a (nat_cmp p.0.1 q.0.1) one other less)) refl) answer

  pub to_shown : (b : ℕ) (rows : List Row) → IsAnswer (ordered_by (by_column 2 ∷ []) (one_table pair_tree (is_param 1 0 ∷ is_param 3 1 ∷ []) (col 1 2 ∷ col 1 4 ∷ []))) db (Text (kind_name k) ∷ Int (pos b) ∷ []) rows → rows ≡ map first_shown (pairs_to k b s.directory)
  to_shown b rows answer =
      let params = Text (kind_name k) ∷ Int (pos b) ∷ [] in
      ordered (is_param 1 0 ∷ is_param 3 1 ∷ []) (col 1 2 ∷ col 1 4 ∷ []) (by_column 2 ∷ []) params (begins 2 (Int (pos b) ∷ [])) (outs (1 ∷ []) (1 ∷ 3 ∷ [])) (λ (p : Pair). p.0.1 == b) rows (past 0 (0 ∷ 2 ∷ []) params) (past_outs (1 ∷ []) (1 ∷ 3 ∷ []) params) (λ p. and-true _ ∙ equal_numbers p.0.1 b)
      (λ p q one less other. rw (value_cmp-Int (pos p.0.0) (pos q.0.0), int_below p.0.0 q.0.0 (first_decides p.0.0 q.0.0 p.0.1 q.0.1 b one other less)) refl) answer

  -- all pairs of the set, in the order of their numbers
  pub all_shown : (rows : List Row) → IsAnswer (ordered_by (by_column 2 ∷ by_column 3 ∷ []) (one_table pair_tree (is_param 1 0 ∷ []) (col 1 2 ∷ col 1 3 ∷ col 1 4 ∷ []))) db (Text (kind_name k) ∷ []) rows → rows ≡ map pair_shown (pairs_of k s.directory)
  all_shown rows answer =
      let params = Text (kind_name k) ∷ [] in
      ordered (is_param 1 0 ∷ []) (col 1 2 ∷ col 1 3 ∷ col 1 4 ∷ []) (by_column 2 ∷ by_column 3 ∷ []) params (begins 1 []) (outs (1 ∷ 2 ∷ []) (1 ∷ 2 ∷ 3 ∷ [])) (λ p. true) rows (past 0 (0 ∷ []) params) (past_outs (1 ∷ 2 ∷ []) (1 ∷ 2 ∷ 3 ∷ []) params) (λ p. refl)
      (λ p q _ less _. rw (value_cmp-Int (pos p.0.0) (pos q.0.0), value_cmp-Int (pos p.0.1) (pos q.0.1), int_as_nat p.0.0 q.0.0, int_as_nat p.0.1 q.0.1) (last_two (nat_cmp p.0.0 q.0.0) (nat_cmp p.0.1 q.0.1) less)) answer
      ∙ ap (map pair_shown) (filter_all (pairs_of k s.directory))
