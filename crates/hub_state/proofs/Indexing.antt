-- Rows have different keys, and the index of the incidents.
use Rattle.std.proofs.Common.{◌≡◌, ℕ, ◌==◌, ◌&&◌, ◌||◌, Bool, true, false, not, List, [], ◌∷◌, filter, if◌then◌else◌, refl, sym, ap, ◌∙◌, arith}
use Rattle.std.{proofs.lemmas.{Bool.Decides.{Decides-like, same_from_decides, nat_tests}, Slice.Eq.{bytes_eq-Decides, slice_eq-Decides}}, specs.List.list_any}
use Rattle.{std.specs.{Ordering.{is_lt, is_eq, nat_cmp, ordering_then}, Str.bytes_eq, declared.cmp.Ordering.Ordering}, iodef_tree.specs.Pointer.pointer_text}
use Rattle.{iodef_tree.specs.Text.{Tokens, same_path}, circle.{proofs.Lookup.any_having, specs.Ordered.put_by}, hub_state.proofs.Keys.one_path}
use Rattle.hub_state.specs.{Lists.IsIndexOf, Orders.{incident_cmp, named_cmp, named}, declared.{rows.Named.Named, state.Incident.Incident}}

-- ---- the index

swap_or : (a b c : Bool) → a || (b || c) ≡ b || (a || c)
swap_or true true c = refl
swap_or true false c = refl
swap_or false true c = refl
swap_or false false c = refl

pub any_put_is : {X : Type 0} (p : X → Bool) (cmp : X → X → Ordering) (x : X) (xs : List X) → list_any p (put_by cmp x xs) ≡ (p x || list_any p xs)
any_put_is p cmp x [] = refl
any_put_is p cmp x (y ∷ ys) = split (is_lt (cmp x y)) (any_put_is p cmp x ys)
  where
    split : (b : Bool) → list_any p (put_by cmp x ys) ≡ (p x || list_any p ys) → list_any p (if b then x ∷ y ∷ ys else y ∷ put_by cmp x ys) ≡ (p x || (p y || list_any p ys))
    split true rest = refl
    split false rest = ap (λ b. p y || b) rest ∙ swap_or (p y) (p x) (list_any p ys)

pub index_put : (i : Incident) (incidents : List Incident) (names : List Named) → IsIndexOf incidents names → IsIndexOf (put_by incident_cmp i incidents) (put_by named_cmp (named i) names)
index_put i incidents names all test =
    any_put_is (λ x. test (named x)) incident_cmp i incidents ∙ (ap (λ b. test (named i) || b) (all test) ∙ sym (any_put_is test named_cmp (named i) names))

pub index_left : (n : ℕ) (incidents : List Incident) (names : List Named) → IsIndexOf incidents names → IsIndexOf (filter (λ (i : Incident). not (i.naming.number == n)) incidents) (filter (λ (e : Named). not (e.number == n)) names)
index_left n incidents names all test =
    any_having (λ (i : Incident). not (i.naming.number == n)) (λ x. test (named x)) incidents ∙ (all (λ e. not (e.number == n) && test e) ∙ sym (any_having (λ (e : Named). not (e.number == n)) test names))

-- ---- rows under one key

-- two paths are the same exactly if their pointers are
pub paths_by_pointers : (p q : Tokens) → bytes_eq (pointer_text p) (pointer_text q) ≡ same_path p q
paths_by_pointers p q =
    let s = pointer_text p in
    let t = pointer_text q in
    same_from_decides (bytes_eq s t) (same_path p q) (Decides-like (bytes_eq s t) (one_path p q) (λ e. ap pointer_text e) (bytes_eq-Decides s t)) (slice_eq-Decides bytes_eq-Decides p q (same_path p q) refl)

pub equal_then : (m n : ℕ) (o : Ordering) → is_eq (ordering_then (nat_cmp m n) o) ≡ ((m == n) && is_eq o)
equal_then m n o = grind (arith, nat_tests)

pub and_and : (a b c : Bool) → ((a && b) && c) ≡ (a && (b && c))
and_and true b c = refl
and_and false b c = refl
