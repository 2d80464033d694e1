-- An incident found by its name, and the incidents above a number.
use Rattle.std.proofs.Common.{◌≡◌, ◌≢◌, ℕ, ◌==◌, ◌&&◌, ◌||◌, Bool, true, false, not, List, [], ◌∷◌, filter, if◌then◌else◌, Option, Some, None, refl, sym, ap}
use Rattle.std.proofs.{Common.{◌∙◌, arith, ◌≤◌, true≢false}, lemmas.{Bool.{eqb-true, eq-eqb, Decides.nat_tests}, List.Elements.filter_agree}}
use Rattle.std.{proofs.lemmas.{Map.Text.is_eq-slice_cmp, Slice.Eq.bytes_eq-Decides}, specs.{Cmp.Lexicographic.slice_cmp, List.{list_any, find}}}
use Rattle.std.specs.{List.Sorted.{IsPartitionPoint, IsPartitionedBy}, Ordering.{is_lt, nat_cmp}, Prelude.{option_map, nat_le, nat_lt, is_some, drop, length}}
use Rattle.{std.specs.Str.bytes_eq, circle.specs.Sound.{Each, Differ}, iodef_tree.specs.Text.Bytes, hub_state.proofs.{Indexing.equal_then, Ranked.partitioned}}
use Rattle.hub_state.{proofs.Ranked.gone_before, specs.{InOrder.{IsInOrder, is_alike}, Lists.IsIndexOf, Orders.{incident_cmp, named_cmp}}}
use Rattle.hub_state.specs.{State.incident_number, declared.{rows.Named.Named, state.Incident.Incident}}

-- ---- an incident by its name

any_found : {X : Type 0} (p : X → Bool) (xs : List X) → is_some (find p xs) ≡ list_any p xs
any_found p [] = refl
any_found p (x ∷ xs) = split (p x) (any_found p xs)
  where
    split : (b : Bool) → is_some (find p xs) ≡ list_any p xs → is_some (if b then Some x else find p xs) ≡ (b || list_any p xs)
    split true rest = refl
    split false rest = rest

find_same : {X : Type 0} (p q : X → Bool) (xs : List X) → ((x : X) → p x ≡ q x) → find p xs ≡ find q xs
find_same p q [] same = refl
find_same p q (x ∷ xs) same = ap (λ b. if b then Some x else find p xs) (same x) ∙ ap (λ o. if q x then Some x else o) (find_same p q xs same)

found_passes : {X : Type 0} (p r : X → Bool) (xs : List X) (x : X) → find p xs ≡ Some x → r x ≡ true → list_any (λ y. p y && r y) xs ≡ true
found_passes p r [] x h k = cc
found_passes p r (y ∷ ys) x h k = split (p y) h (found_passes p r ys x)
  where
    some_same : Some y ≡ Some x → y ≡ x
    some_same e = cc

    split : (b : Bool) → (if b then Some y else find p ys) ≡ Some x → (find p ys ≡ Some x → r x ≡ true → list_any (λ y. p y && r y) ys ≡ true) → ((b && r y) || list_any (λ y. p y && r y) ys) ≡ true
    split true e rest = ap (λ z. r z || list_any (λ y. p y && r y) ys) (some_same e) ∙ ap (λ b. b || list_any (λ y. p y && r y) ys) k
    split false e rest = rest e k

-- only one element passes p, so the one that is found passes whatever one of them passes
none_later : {X K : Type 0} (key : X → K) (p r : X → Bool) (x : X) (xs : List X) → ((a b : X) → p a ≡ true → p b ≡ true → key a ≡ key b) → p x ≡ true → Each (λ y. key x ≢ key y) xs → list_any (λ y. p y && r y) xs ≡ false
none_later key p r x [] alone here all = refl
none_later key p r x (y ∷ ys) alone here all = split (p y) refl (none_later key p r x ys alone here all.1)
  where
    split : (b : Bool) → p y ≡ b → list_any (λ y. p y && r y) ys ≡ false → ((b && r y) || list_any (λ y. p y && r y) ys) ≡ false
    split true is rest = absurd (all.0 (alone x y here is))
    split false is rest = rest

only_found : {X K : Type 0} (key : X → K) (p r : X → Bool) (xs : List X) → ((a b : X) → p a ≡ true → p b ≡ true → key a ≡ key b) → Differ key xs → list_any (λ y. p y && r y) xs ≡ true → (x : X) × (find p xs ≡ Some x) × (r x ≡ true)
only_found key p r [] alone all h = cc
only_found key p r (y ∷ ys) alone all h = split (p y) refl h (only_found key p r ys alone all.1)
  where
    split : (b : Bool) → p y ≡ b → ((b && r y) || list_any (λ y. p y && r y) ys) ≡ true → (list_any (λ y. p y && r y) ys ≡ true → (x : _) × (find p ys ≡ Some x) × (r x ≡ true)) → (x : _) × ((if b then Some y else find p ys) ≡ Some x) × (r x ≡ true)
    split true is e rest = (y, refl, last (r y) (list_any (λ y. p y && r y) ys) e (none_later key p r y ys alone is all.0))
      where
        last : (a b : Bool) → (a || b) ≡ true → b ≡ false → a ≡ true
        last true b e f = refl
        last false b e f = absurd (true≢false (sym e ∙ f))
    split false is e rest = rest e

alike_names : (key e : Named) → is_alike named_cmp e key ≡ (e.source == key.source && bytes_eq e.ident key.ident)
alike_names key e = equal_then e.source key.source (slice_cmp nat_cmp e.ident key.ident) ∙ ap (λ b. (e.source == key.source) && b) (is_eq-slice_cmp e.ident key.ident)

pub one_name : (source : ℕ) (ident : Bytes) (a b : Incident) → (a.naming.source == source && bytes_eq a.naming.ident ident) ≡ true → (b.naming.source == source && bytes_eq b.naming.ident ident) ≡ true → (let key : Incident → ℕ × List ℕ = λ (i : Incident). (i.naming.source, i.naming.ident) in key a ≡ key b)
one_name source ident a b h k =
    let one : bytes_eq a.naming.ident ident ≡ true = grind arith in
    let two : bytes_eq b.naming.ident ident ≡ true = grind arith in
    let first : a.naming.source ≡ b.naming.source = grind (arith, nat_tests) in
    let same : a.naming.ident ≡ b.naming.ident = (bytes_eq-Decides a.naming.ident ident).0 one ∙ sym ((bytes_eq-Decides b.naming.ident ident).0 two) in
    cc

pub name_found : (key : Named) (incidents : List Incident) (names : List Named) → IsIndexOf incidents names → Differ {K = ℕ × List ℕ} (λ (i : Incident). (i.naming.source, i.naming.ident)) incidents → (o : Option Named) → find (λ e. is_alike named_cmp e key) names ≡ o →
    option_map (λ (e : Named). e.number) o ≡ option_map incident_number (find (λ (i : Incident). i.naming.source == key.source && bytes_eq i.naming.ident key.ident) incidents)
name_found key incidents names indexed apart o is = split o (sym (find_same (λ e. is_alike named_cmp e key) (λ (e : Named). e.source == key.source && bytes_eq e.ident key.ident) names (alike_names key)) ∙ is)
  where
    no_found : (o : Option Incident) → is_some o ≡ false → None ≡ option_map incident_number o
    no_found None e = refl
    no_found (Some i) e = cc

    split : (o : Option Named) → find (λ (e : Named). e.source == key.source && bytes_eq e.ident key.ident) names ≡ o → option_map (λ (e : Named). e.number) o ≡ option_map incident_number (find (λ (i : Incident). i.naming.source == key.source && bytes_eq i.naming.ident key.ident) incidents)
    split None is = no_found _ (any_found (λ (i : Incident). i.naming.source == key.source && bytes_eq i.naming.ident key.ident) incidents
        ∙ (indexed (λ (e : Named). e.source == key.source && bytes_eq e.ident key.ident) ∙ (sym (any_found (λ (e : Named). e.source == key.source && bytes_eq e.ident key.ident) names) ∙ ap is_some is)))
    split (Some e) is =
        let among = found_passes (λ (f : Named). f.source == key.source && bytes_eq f.ident key.ident) (λ (f : Named). f.number == e.number) names e is (eq-eqb e.number e.number refl) in
        let there = only_found (λ (i : Incident). (i.naming.source, i.naming.ident)) (λ (i : Incident). i.naming.source == key.source && bytes_eq i.naming.ident key.ident) (λ (i : Incident). i.naming.number == e.number) incidents (one_name key.source key.ident) apart
        (indexed (λ (f : Named). (f.source == key.source && bytes_eq f.ident key.ident) && (f.number == e.number)) ∙ among) in
        ap Some (sym (eqb-true there.0.naming.number e.number there.2)) ∙ sym (ap (option_map incident_number) there.1)

-- ---- incidents above a number

above_or_not : (m n : ℕ) → not (nat_le m n) ≡ nat_lt n m
above_or_not m n = grind (arith, nat_tests)

number_back : (a b n : ℕ) → is_lt (nat_cmp b a) ≡ false → nat_le b n ≡ true → nat_le a n ≡ true
number_back a b n h k = grind (arith, nat_tests)

pub all_above : (n : ℕ) (xs : List Incident) (from : ℕ) → IsInOrder incident_cmp xs → from ≤ length xs →
    (IsPartitionedBy (λ (i : Incident). nat_le i.naming.number n) xs → IsPartitionPoint (λ (i : Incident). nat_le i.naming.number n ≡ true) (λ (i : Incident). nat_le i.naming.number n ≡ false) xs from) →
    drop from xs ≡ filter (λ (i : Incident). nat_lt n i.naming.number) xs
all_above n xs from all h point =
    sym (gone_before (λ (i : Incident). nat_le i.naming.number n) xs from h (point (partitioned (λ a b. is_lt (incident_cmp b a) ≡ false) (λ (i : Incident). nat_le i.naming.number n) xs (λ a b. number_back a.naming.number b.naming.number n) all)))
    ∙ filter_agree (λ (i : Incident). not (nat_le i.naming.number n)) (λ (i : Incident). nat_lt n i.naming.number) (λ i. above_or_not i.naming.number n) xs
