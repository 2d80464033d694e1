-- A test or count on the rows of one incident is a test or count on all rows of the state.
use Rattle.std.proofs.Common.{◌≡◌, ℕ, ◌+◌, ◌==◌, ◌&&◌, ◌||◌, Bool, true, false, not, List, [], ◌∷◌, filter, map, length, if◌then◌else◌, Option, Some, None}
use Rattle.std.{proofs.{Common.{refl, sym, ap, ◌∙◌, arith}, lemmas.{Bool.eq-eqb, List.{length-map, Sums.length-filter}}}, specs.List.list_any}
use Rattle.{std.specs.{Option.option_map_or, Prelude.{ℤ, count_by}}, iodef_tree.specs.{Pointer.pointer_tokens, Text.{Bytes, Tokens, same_path, is_root}}}
use Rattle.policy.specs.declared.{gate.Gate.Gate as CaseGate, permission.{Grantee.Grantee, Permission.Permission as CasePermission}}
use Rattle.{redact.proofs.Counts.count_by-cons, circle.{proofs.Lookup.any_having, specs.Ordered.put_by}, hub_state.proofs.{Indexing.and_and, Keeping.count_put}}
use Rattle.hub_state.{proofs.Keeping.any_map, specs.{Documents.at_pointer, Facts.stands_in, Reads.{its_gates, its_permissions, its_recipients}, State.State}}
use Rattle.hub_state.specs.State.{gate_cmp, gate_with, is_gate_at, is_permission_being, is_recipient_being, same_end, same_group, same_target, has_gate}
use Rattle.hub_state.specs.State.{has_recipient, has_permission, has_permission_until, class_gates, recipients_of, permissions_of}
use Rattle.hub_state.specs.declared.{request.{Grant.Grant, Redistribute.Redistribute, Target.Target, Withdraw.Withdraw}, state.Gate.Gate}
use Rattle.hub_state.specs.{declared.state.{Permission.Permission, Recipient.Recipient}, inner.Questions.{is_gate_among, is_target_among, is_permission_among}}
use Rattle.hub_state.specs.inner.Questions.{is_permission_among_until, is_permission_of, class_gates_among, class_gates_with, targets_beside}
use Rattle.hub_state.specs.inner.Questions.{permissions_beside}
use Rattle.hub_state.specs.declared.request.Request.TheVariants as ask

-- two tests that agree give the same result
pub any_same : {X : Type 0} (p q : X → Bool) (xs : List X) → ((x : X) → p x ≡ q x) → list_any p xs ≡ list_any q xs
any_same p q [] same = refl
any_same p q (x ∷ xs) same = ap (λ b. b || list_any p xs) (same x) ∙ ap (λ b. q x || b) (any_same p q xs same)

pub count_agree : {X : Type 0} (p q : X → Bool) (xs : List X) → ((x : X) → p x ≡ q x) → count_by p xs ≡ count_by q xs
count_agree p q [] same = refl
count_agree p q (x ∷ xs) same = count_by-cons p x xs ∙ (ap (λ b. (if b then 1 else 0) + count_by p xs) (same x) ∙ (ap (λ n. (if q x then 1 else 0) + n) (count_agree p q xs same) ∙ sym (count_by-cons q x xs)))

-- a count among the elements that pass another test
pub count_filter : {X : Type 0} (p q : X → Bool) (xs : List X) → count_by p (filter q xs) ≡ count_by (λ x. q x && p x) xs
count_filter p q [] = refl
count_filter p q (x ∷ xs) = split (q x) (count_filter p q xs) ∙ sym (count_by-cons (λ x. q x && p x) x xs)
  where
    split : (b : Bool) → count_by p (filter q xs) ≡ count_by (λ x. q x && p x) xs → count_by p (if b then x ∷ filter q xs else filter q xs) ≡ (if b && p x then 1 else 0) + count_by (λ x. q x && p x) xs
    split true rest = count_by-cons p x (filter q xs) ∙ ap (λ n. (if p x then 1 else 0) + n) rest
    split false rest = omega (arith, rest)

beside : (a b : Bool) → (a && not b) ≡ (not (a && b) && a)
beside true true = refl
beside true false = refl
beside false b = refl

turned : (a b c : Bool) → (a && (not b && c)) ≡ (not (a && b) && (a && c))
turned true b c = refl
turned false b c = refl

-- tests and counts on what the rows of an incident have
module _ {X Y : Type 0} (mine : X → Bool) (get : X → Y) where
  any_among : (test : Y → Bool) (xs : List X) → list_any test (map get (filter mine xs)) ≡ list_any (λ x. mine x && test (get x)) xs
  any_among test xs = any_map test get (filter mine xs) ∙ any_having mine (λ x. test (get x)) xs

  count_map : (test : Y → Bool) (xs : List X) → count_by test (map get xs) ≡ count_by (λ x. test (get x)) xs
  count_map test [] = refl
  count_map test (x ∷ xs) = count_by-cons test (get x) (map get xs) ∙ (ap (λ n. (if test (get x) then 1 else 0) + n) (count_map test xs) ∙ sym (count_by-cons (λ x. test (get x)) x xs))

  count_among : (test : Y → Bool) (xs : List X) → count_by test (map get (filter mine xs)) ≡ count_by (λ x. mine x && test (get x)) xs
  count_among test xs = count_map test (filter mine xs) ∙ count_filter (λ x. test (get x)) mine xs

  -- a count of all but some
  count_beside : (some : Y → Bool) (xs : List X) → count_by (λ y. not (some y)) (map get (filter mine xs)) ≡ count_by mine (filter (λ x. not (mine x && some (get x))) xs)
  count_beside some xs =
      count_among (λ y. not (some y)) xs
      ∙ (count_agree (λ x. mine x && not (some (get x))) (λ x. not (mine x && some (get x)) && mine x) xs (λ x. beside (mine x) (some (get x)))
      ∙ sym (count_filter mine (λ x. not (mine x && some (get x))) xs))

  count_all : (xs : List X) → length (map get (filter mine xs)) ≡ count_by mine xs
  count_all xs = length-map (filter mine xs) get ∙ length-filter mine xs

-- ---- is there such a one?

pub gate_among : (n : ℕ) (p : Tokens) (level : ℕ) (group : Option ℕ) (s : State) → is_gate_among p level group (its_gates n s.gates) ≡ has_gate (record { incident = n; path = p }) level group s
gate_among n p level group s =
    any_among (λ (g : Gate). g.incident == n) (λ (g : Gate). g.gate) (λ (g : CaseGate). same_path g.path p && (g.level == level && same_group g.group group)) s.gates
    ∙ any_same (λ (g : Gate). g.incident == n && (same_path g.gate.path p && (g.gate.level == level && same_group g.gate.group group))) (λ (g : Gate). is_gate_at (record { incident = n; path = p }) g && (g.gate.level == level && same_group g.gate.group group)) s.gates
    (λ g. sym (and_and (g.incident == n) (same_path g.gate.path p) (g.gate.level == level && same_group g.gate.group group)))

pub target_among : (n : ℕ) (target : Target) (s : State) → is_target_among target (its_recipients n s.recipients) ≡ has_recipient n target s
target_among n target s = any_among (λ (r : Recipient). r.incident == n) (λ (r : Recipient). r.target) (λ (t : Target). same_target t target) s.recipients

pub permission_among : (n : ℕ) (p : Tokens) (grantee : Grantee) (s : State) → is_permission_among p grantee (its_permissions n s.permissions) ≡ has_permission (record { incident = n; path = p; grantee = grantee }) s
permission_among n p grantee s = any_among (λ (x : Permission). x.incident == n) (λ (x : Permission). x.permission) (is_permission_of p grantee) s.permissions

pub permission_among_until : (n : ℕ) (p : Tokens) (grantee : Grantee) (until : Option ℤ) (s : State) →
    is_permission_among_until p grantee until (its_permissions n s.permissions) ≡ has_permission_until (record { incident = n; path = p; grantee = grantee }) until s
permission_among_until n p grantee until s =
    any_among (λ (x : Permission). x.incident == n) (λ (x : Permission). x.permission) (λ (x : CasePermission). is_permission_of p grantee x && same_end x.until until) s.permissions
    ∙ any_same (λ (x : Permission). x.incident == n && (is_permission_of p grantee x.permission && same_end x.permission.until until))
    (λ (x : Permission). is_permission_being (record { incident = n; path = p; grantee = grantee }) x && same_end x.permission.until until) s.permissions
    (λ x. sym (and_and (x.incident == n) (is_permission_of p grantee x.permission) (same_end x.permission.until until)))

-- at the path that a text is the pointer of
pub at_same : (f g : Tokens → Bool) (path : Bytes) → ((p : Tokens) → f p ≡ g p) → at_pointer f path ≡ at_pointer g path
at_same f g path same = split (pointer_tokens path)
  where
    split : (o : Option Tokens) → option_map_or f o false ≡ option_map_or g o false
    split None = refl
    split (Some p) = same p

pub gate_stands : (s : State) (r : Redistribute) (gates : List CaseGate) → gates ≡ its_gates r.incident s.gates → at_pointer (λ p. is_gate_among p r.level r.group gates) r.path ≡ stands_in s (ask.Redistribute r)
gate_stands s r gates is = at_same (λ p. is_gate_among p r.level r.group gates) (λ p. has_gate (record { incident = r.incident; path = p }) r.level r.group s) r.path (λ p. ap (is_gate_among p r.level r.group) is ∙ gate_among r.incident p r.level r.group s)

pub permission_stands : (s : State) (r : Withdraw) (permissions : List CasePermission) → permissions ≡ its_permissions r.incident s.permissions →
    at_pointer (λ p. is_permission_among p r.grantee permissions) r.path ≡ stands_in s (ask.Withdraw r)
permission_stands s r permissions is = at_same (λ p. is_permission_among p r.grantee permissions) (λ p. has_permission (record { incident = r.incident; path = p; grantee = r.grantee }) s) r.path (λ p. ap (is_permission_among p r.grantee) is ∙ permission_among r.incident p r.grantee s)

pub granted_stands : (s : State) (r : Grant) (permissions : List CasePermission) → permissions ≡ its_permissions r.incident s.permissions →
    at_pointer (λ p. is_permission_among_until p r.grantee r.until permissions) r.path ≡ stands_in s (ask.Grant r)
granted_stands s r permissions is = at_same (λ p. is_permission_among_until p r.grantee r.until permissions) (λ p. has_permission_until (record { incident = r.incident; path = p; grantee = r.grantee }) r.until s) r.path
    (λ p. ap (is_permission_among_until p r.grantee r.until) is ∙ permission_among_until r.incident p r.grantee r.until s)

-- ---- how many are there?

pub gates_counted : (n : ℕ) (rows : List Gate) → class_gates_among (its_gates n rows) ≡ class_gates n rows
gates_counted n rows = count_among (λ (g : Gate). g.incident == n) (λ (g : Gate). g.gate) (λ (g : CaseGate). not (is_root g.path)) rows

-- with a gate in place of the one at its path
pub gates_exchanged : (n : ℕ) (p : Tokens) (level : ℕ) (group : Option ℕ) (rows : List Gate) →
    class_gates_with p (its_gates n rows) ≡ class_gates n (put_by gate_cmp (gate_with (record { incident = n; path = p }) level group) (filter (λ (g : Gate). not (is_gate_at (record { incident = n; path = p }) g)) rows))
gates_exchanged n p level group rows =
    let other : Gate → Bool = λ (g : Gate). not (is_gate_at (record { incident = n; path = p }) g) in
    let row : Gate = gate_with (record { incident = n; path = p }) level group in
    let test : Gate → Bool = λ (g : Gate). g.incident == n && not (is_root g.gate.path) in
    sym (count_put test gate_cmp row (filter other rows)
    ∙ (count_by-cons test row (filter other rows)
    ∙ (ap (λ b. (if b && not (is_root p) then 1 else 0) + count_by test (filter other rows)) (eq-eqb n n refl)
    ∙ ap (λ m. (if not (is_root p) then 1 else 0) + m)
    (count_filter test other rows
    ∙ (count_agree (λ (g : Gate). other g && test g) (λ (g : Gate). g.incident == n && (not (same_path g.gate.path p) && not (is_root g.gate.path))) rows
    (λ g. sym (turned (g.incident == n) (same_path g.gate.path p) (not (is_root g.gate.path))))
    ∙ sym (count_among (λ (g : Gate). g.incident == n) (λ (g : Gate). g.gate) (λ (g : CaseGate). not (same_path g.path p) && not (is_root g.path)) rows))))))

pub recipients_counted : (n : ℕ) (rows : List Recipient) → length (its_recipients n rows) ≡ recipients_of n rows
recipients_counted n rows = count_all (λ (r : Recipient). r.incident == n) (λ (r : Recipient). r.target) rows

pub recipients_left : (n : ℕ) (target : Target) (rows : List Recipient) → targets_beside target (its_recipients n rows) ≡ recipients_of n (filter (λ (r : Recipient). not (is_recipient_being n target r)) rows)
recipients_left n target rows = count_beside (λ (r : Recipient). r.incident == n) (λ (r : Recipient). r.target) (λ (t : Target). same_target t target) rows

pub permissions_counted : (n : ℕ) (rows : List Permission) → length (its_permissions n rows) ≡ permissions_of n rows
permissions_counted n rows = count_all (λ (x : Permission). x.incident == n) (λ (x : Permission). x.permission) rows

pub permissions_left : (n : ℕ) (p : Tokens) (grantee : Grantee) (rows : List Permission) →
    permissions_beside p grantee (its_permissions n rows) ≡ permissions_of n (filter (λ (x : Permission). not (is_permission_being (record { incident = n; path = p; grantee = grantee }) x)) rows)
permissions_left n p grantee rows = count_beside (λ (x : Permission). x.incident == n) (λ (x : Permission). x.permission) (is_permission_of p grantee) rows
