-- How many rows each incident has after a put.
use Rattle.std.{proofs.{Common.{◌≡◌, ℕ, ◌≤◌, ◌==◌, Bool, true, false, List, refl, sym, subst}, lemmas.Bool.eqb-true}, specs.Prelude.count_by}
use Rattle.{std.specs.declared.cmp.Ordering.Ordering, circle.{proofs.Keeping.each_weaker, specs.{Ordered.put_by, Sound.Each}}}
use Rattle.hub_state.{proofs.Keeping.count_same, specs.declared.state.Incident.Incident}

still_within : {X : Type 0} (number : X → ℕ) (cmp : X → X → Ordering) (limit : ℕ) (x : X) (xs : List X) (n : ℕ) →
    count_by (λ y. number y == number x) (put_by cmp x xs) ≤ limit → count_by (λ y. number y == n) xs ≤ limit → count_by (λ y. number y == n) (put_by cmp x xs) ≤ limit
still_within number cmp limit x xs n here there = split (number x == n) refl
  where
    split : (b : Bool) → (number x == n) ≡ b → count_by (λ y. number y == n) (put_by cmp x xs) ≤ limit
    split true is = subst (λ m. count_by (λ y. number y == m) (put_by cmp x xs) ≤ limit) (eqb-true (number x) n is) here
    split false is = subst (λ m. m ≤ limit) (sym (count_same (λ y. number y == n) cmp x xs is)) there

-- each incident's rows keep the limit, if those of the new row's incident do
pub limit_put : {X : Type 0} (number : X → ℕ) (cmp : X → X → Ordering) (limit : ℕ) (x : X) (xs : List X) (incidents : List Incident) →
    count_by (λ y. number y == number x) (put_by cmp x xs) ≤ limit →
    Each (λ (i : Incident). count_by (λ y. number y == i.naming.number) xs ≤ limit) incidents →
    Each (λ (i : Incident). count_by (λ y. number y == i.naming.number) (put_by cmp x xs) ≤ limit) incidents
limit_put number cmp limit x xs incidents here all = each_weaker _ _ incidents (λ i e. still_within number cmp limit x xs i.naming.number here e) all
