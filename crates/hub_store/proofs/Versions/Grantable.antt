-- The permissions of a sound state that a migration to version 3 puts: the new table takes them.
use Rattle.std.proofs.Common.{◌≡◌, ℕ, zero, suc, ◌*◌, ◌<◌, ◌≤◌, ◌&&◌, ◌==◌, not, List, [], ◌∷◌, ◌++◌, map, filter, length, Bool, true, false, cond, refl, sym}
use Rattle.std.proofs.{Common.{ap, ap₂, subst, ◌∙◌, arith, Ordering, Less, Equal}, lemmas.Bool.{eqb-true, and_parts, false_from_ne_true, Decides.nat_tests}}
use Rattle.std.{proofs.lemmas.{Cmp.tied_itself, List.{length-map, Filters.length-filter_both, Sums.length-filter}}, specs.List.AllByRecursion}
use Rattle.{std.specs.{Ordering.ordering_then, Str.bytes_eq}, iodef_tree.{proofs.Order.bytes_eq-true, specs.{Pointer.pointer_text, Text.Tokens}}}
use Rattle.{sqlite_value.specs.{Keys.first_key, Order.Row, declared.value.Value.TheVariants.Null}, policy.specs.declared.permission.Grantee.Grantee}
use Rattle.{circle.specs.Ordered.pair_cmp, hub_state.proofs.{Bounded.few_permissions, Keeping.{count_left, found_each, found_is, found_passing}, Keys.one_path}}
use Rattle.hub_state.specs.{Documents.is_class_in, Orders.permission_total, Sound.IsSound, State.{grantee_key, path_cmp, permission_cmp, permissions_of}}
use Rattle.hub_state.specs.{State.{incident_in, is_class_of}, declared.{TheConstants.INCIDENT_LIMIT, state.{Incident.Incident, Permission.Permission}}}
use Rattle.{sqlite_trees.proofs.ListLemmas.{all_both, all_weaker, ascending_weaker}, hub_store.proofs.Rows.Compare.{and-true, equal_numbers, equal_texts}}
use Rattle.hub_store.{proofs.{Rows.{Rising.rising, Unique.one_grantee}, Versions.{Movable.all_low, Standing.can_hold}}, specs.Fit.{AreTaken, AreEndless}}
use Rattle.hub_store.specs.{Fit.{IsEndless, ShortPermission, IsShort}, Rows.{endless_row, permission_row}, Values.moment_or_null, inner.Beside.CanGrant}
use Rattle.hub_store.specs.inner.Beside.{Unlike, alike, ending_row}
use Rattle.hub_state.specs.State as core

-- ---- they differ

abbrev key : List ℕ
key = 0 ∷ 1 ∷ 2 ∷ 3 ∷ []

record AreOneKey (a b : Permission) : Type 0 where
  incident : a.incident ≡ b.incident
  path : a.permission.path ≡ b.permission.path
  grantee : a.permission.grantee ≡ b.permission.grantee

alike_is : (a b : Permission) → alike key (ending_row a) (ending_row b)
    ≡ (a.incident == b.incident && (bytes_eq (pointer_text a.permission.path) (pointer_text b.permission.path) && ((grantee_key a.permission.grantee).0 == (grantee_key b.permission.grantee).0 && (grantee_key a.permission.grantee).1 == (grantee_key b.permission.grantee).1)))
unfolding first_key
alike_is a b =
    ap₂ (λ x y. x && y) (equal_numbers a.incident b.incident) (ap₂ (λ x y. x && y) (equal_texts (pointer_text a.permission.path) (pointer_text b.permission.path))
    (ap₂ (λ x y. x && y) (equal_numbers (grantee_key a.permission.grantee).0 (grantee_key b.permission.grantee).0) (and-true _ ∙ equal_numbers (grantee_key a.permission.grantee).1 (grantee_key b.permission.grantee).1)))

one_key : (a b : Permission) → alike key (ending_row a) (ending_row b) ≡ true → AreOneKey a b
one_key a b same =
    let incident = and_parts _ _ (sym (alike_is a b) ∙ same) in
    let path = and_parts _ _ incident.1 in
    let grantee = and_parts _ _ path.1 in
    record {
      incident = eqb-true a.incident b.incident incident.0;
      path = one_path a.permission.path b.permission.path (bytes_eq-true (pointer_text a.permission.path) (pointer_text b.permission.path) path.0);
      grantee = one_grantee a.permission.grantee b.permission.grantee (eqb-true (grantee_key a.permission.grantee).0 (grantee_key b.permission.grantee).0 grantee.0) (eqb-true (grantee_key a.permission.grantee).1 (grantee_key b.permission.grantee).1 grantee.1);
    }

turned : (a b : Permission) → AreOneKey a b → AreOneKey b a
turned a b one = record { incident = sym one.incident; path = sym one.path; grantee = sym one.grantee }

key_cmp : Permission → ℕ → Tokens → Grantee → Ordering
key_cmp a n path grantee = ordering_then (path_cmp a.incident a.permission.path n path) (pair_cmp (grantee_key a.permission.grantee) (grantee_key grantee))

tied : (a b : Permission) → AreOneKey a b → permission_cmp a b ≡ Equal
unfolding key_cmp
tied a b one =
    let same : key_cmp a a.incident a.permission.path a.permission.grantee ≡ key_cmp a b.incident b.permission.path b.permission.grantee = λ i. key_cmp a (one.incident i) (one.path i) (one.grantee i) in
    sym same ∙ tied_itself permission_total a

less_apart : (a b : Permission) → permission_cmp a b ≡ Less → Unlike key (ending_row a) (ending_row b)
less_apart a b less = (
  false_from_ne_true _ (λ same. let both = sym less ∙ tied a b (one_key a b same) in cc),
  false_from_ne_true _ (λ same. let both = sym less ∙ tied a b (turned b a (one_key b a same)) in cc),
)

-- ---- they are not many

all_under : {X : Type 0} (number : X → ℕ) (n : ℕ) (xs : List X) → AllByRecursion (λ x. number x < suc n) xs → AllByRecursion (λ x. number x < n) (filter (λ x. not (number x == n)) xs)
all_under number n [] low = tt
all_under number n (x ∷ xs) low = go (number x == n) refl (all_under number n xs low.1)
  where
    other : (m : ℕ) → m < suc n → (m == n) ≡ false → m < n
    other m below is = grind (arith, nat_tests)

    go : (b : Bool) → (number x == n) ≡ b → AllByRecursion (λ x. number x < n) (filter (λ x. not (number x == n)) xs) → AllByRecursion (λ x. number x < n) (cond (not b) (x ∷ filter (λ x. not (number x == n)) xs) (filter (λ x. not (number x == n)) xs))
    go true is more = more
    go false is more = (other (number x) low.0 is, more)

bounded : (n : ℕ) (xs : List Permission) → ((m : ℕ) → permissions_of m xs ≤ 64) → AllByRecursion (λ (x : Permission). x.incident < n) xs → length xs ≤ 64 * n
bounded zero [] few low = omega arith
bounded zero (x ∷ xs) few low = absurd (omega (arith, low.0))
bounded (suc n) xs few low =
    let here = few n in
    let left = filter (λ (x : Permission). not (x.incident == n)) xs in
    let rest = bounded n left (λ m. at_most m (count_left (λ (x : Permission). x.incident == m) (λ (x : Permission). not (x.incident == n)) xs)) (all_under (λ (x : Permission). x.incident) n xs low) in
    omega (arith, here, rest, length-filter (λ (x : Permission). x.incident == n) xs, length-filter_both (λ (x : Permission). x.incident == n) (λ (x : Permission). not (x.incident == n)) (λ x. refl) xs)
  where
    at_most : (m : ℕ) → permissions_of m (filter (λ (x : Permission). not (x.incident == n)) xs) ≤ permissions_of m xs → permissions_of m (filter (λ (x : Permission). not (x.incident == n)) xs) ≤ 64
    at_most m fewer = omega (arith, fewer, few m)

under : (s : core.State) (x : Permission) → IsSound s → is_class_of s.incidents x.incident x.permission.path ≡ true → x.incident < 1000001
under s x sound there =
    let found = found_passing (λ (i : Incident). is_class_in i.document x.permission.path) (incident_in x.incident s.incidents) there in
    let low = found_each (λ (i : Incident). i.naming.number ≤ INCIDENT_LIMIT) (λ (i : Incident). i.naming.number == x.incident) s.incidents found.0 found.1 (all_low s sound) in
    let is = eqb-true found.0.naming.number x.incident (found_is (λ (i : Incident). i.naming.number == x.incident) s.incidents found.0 found.1) in
    omega (arith, low, is)

few : (s : core.State) → IsSound s → length s.permissions ≤ 64 * 1000001
few s sound =
    bounded 1000001 s.permissions (λ m. omega (arith, few_permissions s m sound))
    (all_weaker (λ (x : Permission). is_class_of s.incidents x.incident x.permission.path ≡ true) (λ (x : Permission). x.incident < 1000001) (λ x there. under s x sound there) s.permissions sound.permissions.places)

-- ---- the table takes them

pub grants_stand : (s : core.State) → IsSound s → AreEndless s → AreTaken s → CanGrant (map ending_row s.permissions)
grants_stand s sound endless taken = (
  can_hold (Unlike key) ending_row (λ x. IsShort (Null ∷ ending_row x)) s.permissions
      (ascending_weaker (λ (a b : Permission). permission_cmp a b ≡ Less) (λ (a b : Permission). Unlike key (ending_row a) (ending_row b)) less_apart s.permissions (rising _ s.permissions sound.permissions.rising))
      (all_both IsEndless ShortPermission (λ x. IsShort (Null ∷ ending_row x)) (λ x none short. subst (λ u. IsShort (Null ∷ endless_row x ++ moment_or_null u ∷ [])) none short) s.permissions endless taken.permissions),
  omega (arith, length-map s.permissions ending_row, few s sound),
)

-- together they are the rows of version 3
pub as_kept : (xs : List Permission) → AllByRecursion IsEndless xs → map ending_row xs ≡ map permission_row xs
as_kept [] endless = refl
as_kept (x ∷ xs) endless = ap₂ (λ (r : Row) (l : List Row). r ∷ l) (ap (λ u. endless_row x ++ moment_or_null u ∷ []) (sym endless.0)) (as_kept xs endless.1)
