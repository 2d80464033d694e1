-- Clearances: no row that holds is stricter than the clearance, and a raised standing is cleared for no less.
use Rattle.std.proofs.{Common.{◌≡◌, Bool, true, false, not, List, [], ◌∷◌, refl, arith, ◌&&◌, ◌||◌}, lemmas.Bool.{and_parts, and_from, false≢true}}
use Rattle.std.{proofs.lemmas.List.Sums.AllPass-from_list_all, specs.{List.list_all, Option.option_map_or, Prelude.{find, All, slice_index_or}}}
use Rattle.{marking.specs.{Label.is_at_most, declared.label.Handling.{Handling, TheVariants.{Clear, Green, Amber, Strict, Red}}}, policy.specs.Clearance.Row}
use Rattle.policy.specs.{Clearance.{row, clearance_rows, cleared_by, clearance_of}, Laws.IsRaised, declared.rule.Rule.TheVariants.{P, O, C, M, A}}
use Rattle.policy.specs.declared.standing.Standing.{Standing}

pub at_most-trans : (a b c : Handling) → is_at_most a b ≡ true → is_at_most b c ≡ true → is_at_most a c ≡ true
at_most-trans a b c h k = grind arith

-- the table, by the four tests of its rows
abbrev rows_by : Bool → Bool → Bool → Bool → List Row
rows_by p o c m = row P p Red ∷ row O o Strict ∷ row C c Amber ∷ row M m Green ∷ row A true Clear ∷ []

abbrev cleared : Bool → Bool → Bool → Bool → Handling
cleared p o c m = (option_map_or cleared_by (find (λ r. r.holds) (rows_by p o c m)) (Clear, A)).0

below_red : (o c m : Bool) → is_at_most (cleared false o c m) Red ≡ true
below_red true c m = refl
below_red false true m = refl
below_red false false true = refl
below_red false false false = refl

below_strict : (c m : Bool) → is_at_most (cleared false false c m) Strict ≡ true
below_strict true m = refl
below_strict false true = refl
below_strict false false = refl

below_amber : (m : Bool) → is_at_most (cleared false false false m) Amber ≡ true
below_amber true = refl
below_amber false = refl

rises : (p o c m p' o' c' m' : Bool) → (p ≡ true → p' ≡ true) → (o ≡ true → o' ≡ true) → (c ≡ true → c' ≡ true) → (m ≡ true → m' ≡ true) →
    is_at_most (cleared p o c m) (cleared p' o' c' m') ≡ true
rises true o c m true o' c' m' hp ho hc hm = refl
rises true o c m false o' c' m' hp ho hc hm = absurd (false≢true (hp refl))
rises false o c m true o' c' m' hp ho hc hm = below_red o c m
rises false true c m false true c' m' hp ho hc hm = refl
rises false true c m false false c' m' hp ho hc hm = absurd (false≢true (ho refl))
rises false false c m false true c' m' hp ho hc hm = below_strict c m
rises false false true m false false true m' hp ho hc hm = refl
rises false false true m false false false m' hp ho hc hm = absurd (false≢true (hc refl))
rises false false false m false false true m' hp ho hc hm = below_amber m
rises false false false true false false false true hp ho hc hm = refl
rises false false false true false false false false hp ho hc hm = absurd (false≢true (hm refl))
rises false false false false false false false true hp ho hc hm = refl
rises false false false false false false false false hp ho hc hm = refl

both : (a b a' b' : Bool) → (a ≡ true → a' ≡ true) → (b ≡ true → b' ≡ true) → (a && b) ≡ true → (a' && b') ≡ true
both a b a' b' f g h = let parts = and_parts a b h in and_from a' b' (f parts.0) (g parts.1)

pub clearance-raised : (s t : Standing) → IsRaised s t → is_at_most (clearance_of s).0 (clearance_of t).0 ≡ true
clearance-raised s t up =
    rises s.person (s.nominated && s.addressed) (s.nominated && s.client) s.peer
    t.person (t.nominated && t.addressed) (t.nominated && t.client) t.peer
    up.person
    (both s.nominated s.addressed t.nominated t.addressed up.nominated up.addressed)
    (both s.nominated s.client t.nominated t.client up.nominated up.client)
    up.peer

abbrev is_within : Handling → Row → Bool
is_within h r = not r.holds || is_at_most r.handling h

rows_within : (p o c m : Bool) → list_all (is_within (cleared p o c m)) (rows_by p o c m) ≡ true
rows_within true true true true = refl
rows_within true true true false = refl
rows_within true true false true = refl
rows_within true true false false = refl
rows_within true false true true = refl
rows_within true false true false = refl
rows_within true false false true = refl
rows_within true false false false = refl
rows_within false true true true = refl
rows_within false true true false = refl
rows_within false true false true = refl
rows_within false true false false = refl
rows_within false false true true = refl
rows_within false false true false = refl
rows_within false false false true = refl
rows_within false false false false = refl

pub clearance-strictest : (s : Standing) → All (λ r. r.holds ≡ true → is_at_most r.handling (clearance_of s).0 ≡ true) (clearance_rows s)
clearance-strictest s k d below =
    implied (slice_index_or (clearance_rows s) k d).holds _
    (AllPass-from_list_all (is_within (clearance_of s).0) (clearance_rows s)
    (rows_within s.person (s.nominated && s.addressed) (s.nominated && s.client) s.peer) k d below)
  where
    implied : (a b : Bool) → (not a || b) ≡ true → a ≡ true → b ≡ true
    implied true b h is = h
    implied false b h is = absurd (false≢true is)
