-- Only rows with equal keys compare as equal.
use Rattle.std.proofs.{Common.{◌≡◌, ◌≢◌, ℕ, ◌==◌, ◌&&◌, Bool, true, false, Some, refl, sym, ap, ◌∙◌, arith}, lemmas.Bool.Decides.nat_tests}
use Rattle.std.{proofs.lemmas.Map.Text.is_eq-slice_cmp, specs.{Cmp.Lexicographic.slice_cmp, Ordering.{is_eq, nat_cmp, ordering_then}, Str.bytes_eq}}
use Rattle.{std.specs.declared.cmp.Ordering.{Ordering, TheVariants.{Less, Equal, Greater}}, iodef_tree.proofs.Inverse.pointer_tokens-pointer_text}
use Rattle.iodef_tree.{proofs.Order.{bytes_eq-refl, bytes_eq-true, same_path-refl}, specs.{Pointer.{pointer_text, pointer_tokens}, Text.{Bytes, Tokens}}}
use Rattle.{iodef_tree.specs.Text.same_path, circle.specs.Ordered.pair_cmp, hub_state.specs.State.{path_cmp, recipient_cmp, permission_cmp, permission_key}}
use Rattle.hub_state.specs.{State.{target_key, grantee_key, same_pair, is_gate_at, is_recipient_being, is_permission_being}, declared.state.Gate.Gate}
use Rattle.hub_state.specs.declared.state.{GateKey.GateKey, Permission.Permission, Recipient.Recipient}

-- ---- a path is known by its pointer

pub one_path : (p q : Tokens) → pointer_text p ≡ pointer_text q → p ≡ q
one_path p q h = let same : Some p ≡ Some q = sym (pointer_tokens-pointer_text p) ∙ (ap pointer_tokens h ∙ pointer_tokens-pointer_text q) in cc

path_of_text : (p q : Tokens) → bytes_eq (pointer_text q) (pointer_text p) ≡ true → same_path q p ≡ true
path_of_text p q h = ap (same_path q) (sym (one_path q p (bytes_eq-true (pointer_text q) (pointer_text p) h))) ∙ same_path-refl q

-- ---- rows with different keys don't compare as equal

tie : (i j : ℕ) (o : Ordering) (same : Bool) → is_eq o ≡ same → (j == i && same) ≡ false → ordering_then (nat_cmp i j) o ≢ Equal
tie i j Less same is h = grind (arith, nat_tests)
tie i j Equal same is h = grind (arith, nat_tests)
tie i j Greater same is h = grind (arith, nat_tests)

turned_text : (s t : Bytes) (b : Bool) → bytes_eq t s ≡ b → is_eq (slice_cmp nat_cmp s t) ≡ b
turned_text s t true h = is_eq-slice_cmp s t ∙ (ap (bytes_eq s) (bytes_eq-true t s h) ∙ bytes_eq-refl s)
turned_text s t false h = is_eq-slice_cmp s t ∙ unequal (bytes_eq s t) refl
  where
    unequal : (b : Bool) → bytes_eq s t ≡ b → bytes_eq s t ≡ false
    unequal false is = is
    unequal true is = let back : bytes_eq t s ≡ true = ap (bytes_eq t) (bytes_eq-true s t is) ∙ bytes_eq-refl t in cc

-- by the pointers
pub apart_text : (n m : ℕ) (s t : Bytes) → (m == n && bytes_eq t s) ≡ false → ordering_then (nat_cmp n m) (slice_cmp nat_cmp s t) ≢ Equal
apart_text n m s t h = tie n m (slice_cmp nat_cmp s t) (bytes_eq t s) (turned_text s t (bytes_eq t s) refl) h

weaker : (a b c : Bool) → (c ≡ true → b ≡ true) → (a && b) ≡ false → (a && c) ≡ false
weaker a true c go h = grind arith
weaker a false true go h = let no : false ≡ true = go refl in cc
weaker true false false go h = refl
weaker false b false go h = refl

pub apart_gate : (key : GateKey) (g : Gate) → is_gate_at key g ≡ false → path_cmp key.incident key.path g.incident g.gate.path ≢ Equal
apart_gate key g h =
    apart_text key.incident g.incident (pointer_text key.path) (pointer_text g.gate.path)
    (weaker (g.incident == key.incident) (same_path g.gate.path key.path) (bytes_eq (pointer_text g.gate.path) (pointer_text key.path)) (path_of_text key.path g.gate.path) h)

abbrev recipient_by : ℕ → ℕ → ℕ × ℕ → ℕ × ℕ → Ordering
recipient_by i j a b = ordering_then (nat_cmp i j) (pair_cmp a b)

pairs_apart : (i j : ℕ) (a b : ℕ × ℕ) → (j == i && same_pair b a) ≡ false → recipient_by i j a b ≢ Equal
pairs_apart i j a b h = grind (arith, nat_tests)

pub apart_recipient : (row r : Recipient) → is_recipient_being row.incident row.target r ≡ false → recipient_cmp row r ≢ Equal
apart_recipient row r h = pairs_apart row.incident r.incident (target_key row.target) (target_key r.target) h

ties : (i j : ℕ) (o : Ordering) (same : Bool) (a b : ℕ × ℕ) → is_eq o ≡ same → (j == i && (same && same_pair b a)) ≡ false → ordering_then (ordering_then (nat_cmp i j) o) (pair_cmp a b) ≢ Equal
ties i j Less same a b is h = grind (arith, nat_tests)
ties i j Equal same a b is h = grind (arith, nat_tests)
ties i j Greater same a b is h = grind (arith, nat_tests)

weaker_inside : (a b c d : Bool) → (c ≡ true → b ≡ true) → (a && (b && d)) ≡ false → (a && (c && d)) ≡ false
weaker_inside a true c d go h = grind arith
weaker_inside a false true d go h = let no : false ≡ true = go refl in cc
weaker_inside true false false d go h = refl
weaker_inside false b false d go h = refl

pub apart_permission : (row x : Permission) → is_permission_being (permission_key row) x ≡ false → permission_cmp row x ≢ Equal
apart_permission row x h =
    let s = pointer_text row.permission.path in
    let t = pointer_text x.permission.path in
    ties row.incident x.incident (slice_cmp nat_cmp s t) (bytes_eq t s) (grantee_key row.permission.grantee) (grantee_key x.permission.grantee) (turned_text s t (bytes_eq t s) refl)
    (weaker_inside (x.incident == row.incident) (same_path x.permission.path row.permission.path) (bytes_eq t s) (same_pair (grantee_key x.permission.grantee) (grantee_key row.permission.grantee)) (path_of_text row.permission.path x.permission.path) h)
