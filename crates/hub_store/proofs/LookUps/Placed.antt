-- The gates, the permissions and the recipients of an incident, as queries list them.
use Rattle.std.proofs.{Common.{◌≡◌, ℕ, pos, List, [], ◌∷◌, map, filter, true, ◌==◌, nat_cmp, refl, sym, ◌∙◌, arith}, lemmas.Bool.{eqb-true, Decides.nat_tests}}
use Rattle.std.specs.{Cmp.Lexicographic.slice_cmp, Ordering.{ordering_then, int_cmp}, declared.cmp.Ordering.{Ordering, TheVariants.{Less, Equal, Greater}}}
use Rattle.sqlite_value.{proofs.OrderLemmas.{value_cmp-Int, value_cmp-Text}, specs.{Order.Row, declared.value.Value.TheVariants.Int}}
use Rattle.{sqlite_trees.{proofs.ListLemmas.map-map, specs.Tree.Trees}, sqlite_sql.specs.Query.IsAnswer, iodef_tree.specs.Pointer.pointer_text}
use Rattle.hub_state.specs.{Reads.{its_gates, its_recipients, its_permissions}, Sound.IsSound, State.{gate_cmp, recipient_cmp, permission_cmp, target_key}}
use Rattle.hub_state.specs.{State.grantee_key, declared.state.{Gate.Gate, Permission.Permission, Recipient.Recipient}}
use Rattle.hub_store.proofs.{LookUps.Listed.{listed_past, in_order, columns_after, int_below, not_less, next_decides}, Rows.Compare.{begins, equal_numbers}}
use Rattle.hub_store.proofs.Rows.{Compare.{and-true, past}, Forms.{one_table, is_param, ordered_by}, Places.{gate_place, gate_tree, permission_place}}
use Rattle.hub_store.{proofs.Rows.{Places.{permission_tree, recipient_place, recipient_tree, held_of}, Rising.rising}, specs.{Means.Means, Rows.gate_row}}
use Rattle.hub_store.specs.{Rows.{recipient_row, permission_row}, inner.Shown.{gate_shown, target_shown, permission_shown}}
use Rattle.hub_state.specs.State as core

pub gates_listed : (db : Trees) (s : core.State) (n : ℕ) (rows : List Row) → IsSound s → Means db s
    → IsAnswer (ordered_by (in_order (1 ∷ [])) (one_table gate_tree (is_param 1 0 ∷ []) (columns_after (1 ∷ 2 ∷ 3 ∷ [])))) db (Int (pos n) ∷ []) rows
    → rows ≡ map gate_shown (its_gates n s.gates)
gates_listed db s n rows sound means a =
    let params = Int (pos n) ∷ [] in
    let is_its = λ (g : Gate). g.incident == n in
    listed_past db gate_tree gate_row s.gates is_its (is_param 1 0 ∷ []) (1 ∷ []) (1 ∷ 2 ∷ 3 ∷ []) params (begins 0 params) rows
    (past 0 (0 ∷ []) params) (λ g. and-true _ ∙ equal_numbers g.incident n)
    (λ a b. gate_cmp a b ≡ Less) (rising _ s.gates sound.gates.rising)
    (λ a b p less q. rw (value_cmp-Text (pointer_text a.gate.path) (pointer_text b.gate.path), next_decides a.incident b.incident n (slice_cmp nat_cmp (pointer_text a.gate.path) (pointer_text b.gate.path)) p q less) refl)
    (held_of s gate_place _ refl means) a
    ∙ sym (map-map gate_shown (λ (g : Gate). g.gate) (filter is_its s.gates))

-- ---- permissions: by path, kind and number

int_equal : (a b : ℕ) → nat_cmp a b ≡ Equal → int_cmp (pos a) (pos b) ≡ Equal
int_equal a b h = grind (arith, nat_tests)

int_above : (a b : ℕ) → nat_cmp a b ≡ Greater → int_cmp (pos a) (pos b) ≡ Greater
int_above a b h = grind (arith, nat_tests)

pub int_as_nat : (a b : ℕ) → int_cmp (pos a) (pos b) ≡ nat_cmp a b
int_as_nat a b = go (nat_cmp a b) refl
  where
    go : (c : Ordering) → nat_cmp a b ≡ c → int_cmp (pos a) (pos b) ≡ nat_cmp a b
    go Less is = int_below a b is ∙ sym is
    go Equal is = int_equal a b is ∙ sym is
    go Greater is = int_above a b is ∙ sym is

pub last_three : (o p q : Ordering) → ordering_then o (ordering_then p q) ≡ Less → ordering_then o (ordering_then p (ordering_then q Equal)) ≡ Less
last_three Less p q h = refl
last_three Greater p q h = absurd cc
last_three Equal Less q h = refl
last_three Equal Greater q h = absurd cc
last_three Equal Equal Less h = refl
last_three Equal Equal Equal h = absurd cc
last_three Equal Equal Greater h = absurd cc

three_decide : (m n k : ℕ) (o p q : Ordering) → (m == k) ≡ true → (n == k) ≡ true → ordering_then (ordering_then (nat_cmp m n) o) (ordering_then p q) ≡ Less → ordering_then o (ordering_then p (ordering_then q Equal)) ≡ Less
three_decide m n k o p q e f h = go (nat_cmp m n) refl h
  where
    go : (c : Ordering) → nat_cmp m n ≡ c → ordering_then (ordering_then c o) (ordering_then p q) ≡ Less → ordering_then o (ordering_then p (ordering_then q Equal)) ≡ Less
    go Less is more = absurd (not_less m n k (eqb-true m k e) (eqb-true n k f) is)
    go Equal is more = last_three o p q more
    go Greater is more = absurd cc

pub permissions_listed : (db : Trees) (s : core.State) (n : ℕ) (rows : List Row) → IsSound s → Means db s
    → IsAnswer (ordered_by (in_order (1 ∷ 2 ∷ 3 ∷ [])) (one_table permission_tree (is_param 1 0 ∷ []) (columns_after (1 ∷ 2 ∷ 3 ∷ 4 ∷ [])))) db (Int (pos n) ∷ []) rows
    → rows ≡ map permission_shown (its_permissions n s.permissions)
permissions_listed db s n rows sound means a =
    let params = Int (pos n) ∷ [] in
    let is_its = λ (x : Permission). x.incident == n in
    listed_past db permission_tree permission_row s.permissions is_its (is_param 1 0 ∷ []) (1 ∷ 2 ∷ 3 ∷ []) (1 ∷ 2 ∷ 3 ∷ 4 ∷ []) params (begins 0 params) rows
    (past 0 (0 ∷ []) params) (λ x. and-true _ ∙ equal_numbers x.incident n)
    (λ a b. permission_cmp a b ≡ Less) (rising _ s.permissions sound.permissions.rising)
    (λ a b p less q. rw (value_cmp-Text (pointer_text a.permission.path) (pointer_text b.permission.path), value_cmp-Int (pos (grantee_key a.permission.grantee).0) (pos (grantee_key b.permission.grantee).0), value_cmp-Int (pos (grantee_key a.permission.grantee).1) (pos (grantee_key b.permission.grantee).1), int_as_nat (grantee_key a.permission.grantee).0 (grantee_key b.permission.grantee).0, int_as_nat (grantee_key a.permission.grantee).1 (grantee_key b.permission.grantee).1)
    (three_decide a.incident b.incident n (slice_cmp nat_cmp (pointer_text a.permission.path) (pointer_text b.permission.path)) (nat_cmp (grantee_key a.permission.grantee).0 (grantee_key b.permission.grantee).0) (nat_cmp (grantee_key a.permission.grantee).1 (grantee_key b.permission.grantee).1) p q less))
    (held_of s permission_place _ refl means) a
    ∙ sym (map-map permission_shown (λ (x : Permission). x.permission) (filter is_its s.permissions))

-- ---- recipients: by kind and number

pub last_two : (o p : Ordering) → ordering_then o p ≡ Less → ordering_then o (ordering_then p Equal) ≡ Less
last_two Less p h = refl
last_two Greater p h = absurd cc
last_two Equal Less h = refl
last_two Equal Equal h = absurd cc
last_two Equal Greater h = absurd cc

pub recipients_listed : (db : Trees) (s : core.State) (n : ℕ) (rows : List Row) → IsSound s → Means db s
    → IsAnswer (ordered_by (in_order (1 ∷ 2 ∷ [])) (one_table recipient_tree (is_param 1 0 ∷ []) (columns_after (1 ∷ 2 ∷ [])))) db (Int (pos n) ∷ []) rows
    → rows ≡ map target_shown (its_recipients n s.recipients)
recipients_listed db s n rows sound means a =
    let params = Int (pos n) ∷ [] in
    let is_its = λ (r : Recipient). r.incident == n in
    listed_past db recipient_tree recipient_row s.recipients is_its (is_param 1 0 ∷ []) (1 ∷ 2 ∷ []) (1 ∷ 2 ∷ []) params (begins 0 params) rows
    (past 0 (0 ∷ []) params) (λ r. and-true _ ∙ equal_numbers r.incident n)
    (λ a b. recipient_cmp a b ≡ Less) (rising _ s.recipients sound.recipients.rising)
    (λ a b p less q. rw (value_cmp-Int (pos (target_key a.target).0) (pos (target_key b.target).0), value_cmp-Int (pos (target_key a.target).1) (pos (target_key b.target).1), int_as_nat (target_key a.target).0 (target_key b.target).0, int_as_nat (target_key a.target).1 (target_key b.target).1)
    (last_two (nat_cmp (target_key a.target).0 (target_key b.target).0) (nat_cmp (target_key a.target).1 (target_key b.target).1)
    (next_decides a.incident b.incident n (ordering_then (nat_cmp (target_key a.target).0 (target_key b.target).0) (nat_cmp (target_key a.target).1 (target_key b.target).1)) p q less)))
    (held_of s recipient_place _ refl means) a
    ∙ sym (map-map target_shown (λ (r : Recipient). r.target) (filter is_its s.recipients))
