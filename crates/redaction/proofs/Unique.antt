-- No member comes twice: the test, and what a strict reading says.
use Rattle.std.proofs.{Common.{◌≡◌, ℕ, List, [], ◌∷◌, Bool, true, false, ◌||◌, refl, sym, bytes_eq, true≢false}, lemmas.Map.Made.AllPairs-from_IsDistinct}
use Rattle.std.{proofs.lemmas.{Map.Made.IsDistinct-from_AllPairs, Slice.Eq.bytes_eq-Decides}, specs.List.{IsDistinct, AllByRecursion, list_any}}
use Rattle.json.specs.{Json.{Json, Items, Members}, Strict.{keys, HasUniqueKeys, ItemsHaveUniqueKeys, MembersHaveUniqueKeys}}
use Rattle.redaction.specs.Values.{stands_twice, has_doubled, items_have_doubled, members_have_doubled}
use Rattle.json.specs.Json as json

neither : (a b : Bool) → (a || b) ≡ false → (a ≡ false) × (b ≡ false)
neither true b h = absurd (true≢false h)
neither false b h = (refl, h)

both-false : (a b : Bool) → a ≡ false → b ≡ false → (a || b) ≡ false
both-false a b p q = rw p q

absent : (k : List ℕ) (ks : List (List ℕ)) → list_any (bytes_eq k) ks ≡ false → AllByRecursion (λ y. bytes_eq k y ≡ false) ks
absent k [] h = tt
absent k (l ∷ ks) h = let both = neither (bytes_eq k l) (list_any (bytes_eq k) ks) h in (both.0, absent k ks both.1)

none : (k : List ℕ) (ks : List (List ℕ)) → AllByRecursion (λ y. bytes_eq k y ≡ false) ks → list_any (bytes_eq k) ks ≡ false
none k [] h = refl
none k (l ∷ ks) h = both-false (bytes_eq k l) (list_any (bytes_eq k) ks) h.0 (none k ks h.1)

distinct : (ks : List (List ℕ)) → stands_twice ks ≡ false → IsDistinct bytes_eq ks
unfolding IsDistinct
distinct [] h = tt
distinct (k ∷ ks) h = let both = neither (list_any (bytes_eq k) ks) (stands_twice ks) h in (absent k ks both.0, distinct ks both.1)

once : (ks : List (List ℕ)) → IsDistinct bytes_eq ks → stands_twice ks ≡ false
unfolding IsDistinct
once [] h = refl
once (k ∷ ks) h = both-false (list_any (bytes_eq k) ks) (stands_twice ks) (none k ks h.0) (once ks h.1)

mutual
  unique : (j : Json) → has_doubled j ≡ false → HasUniqueKeys j
  unique json.null h = tt
  unique (json.boolean b) h = tt
  unique (json.number s) h = tt
  unique (json.string s) h = tt
  unique (json.array js) h = items-unique js h
  unique (json.object ms) h =
      let both = neither (stands_twice (keys ms)) (members_have_doubled ms) h in
      (AllPairs-from_IsDistinct bytes_eq-Decides (keys ms) (distinct (keys ms) both.0), members-unique ms both.1)

  items-unique : (js : Items) → items_have_doubled js ≡ false → ItemsHaveUniqueKeys js
  items-unique json.no_items h = tt
  items-unique (json.item j js) h = let both = neither (has_doubled j) (items_have_doubled js) h in (unique j both.0, items-unique js both.1)

  members-unique : (ms : Members) → members_have_doubled ms ≡ false → MembersHaveUniqueKeys ms
  members-unique json.no_members h = tt
  members-unique (json.member k j ms) h = let both = neither (has_doubled j) (members_have_doubled ms) h in (unique j both.0, members-unique ms both.1)

mutual
  pub undoubled : (j : Json) → HasUniqueKeys j → has_doubled j ≡ false
  undoubled json.null h = refl
  undoubled (json.boolean b) h = refl
  undoubled (json.number s) h = refl
  undoubled (json.string s) h = refl
  undoubled (json.array js) h = items-undoubled js h
  undoubled (json.object ms) h =
      both-false (stands_twice (keys ms)) (members_have_doubled ms) (once (keys ms) (IsDistinct-from_AllPairs bytes_eq-Decides (keys ms) h.0)) (members-undoubled ms h.1)

  items-undoubled : (js : Items) → ItemsHaveUniqueKeys js → items_have_doubled js ≡ false
  items-undoubled json.no_items h = refl
  items-undoubled (json.item j js) h = both-false (has_doubled j) (items_have_doubled js) (undoubled j h.0) (items-undoubled js h.1)

  members-undoubled : (ms : Members) → MembersHaveUniqueKeys ms → members_have_doubled ms ≡ false
  members-undoubled json.no_members h = refl
  members-undoubled (json.member k j ms) h = both-false (has_doubled j) (members_have_doubled ms) (undoubled j h.0) (members-undoubled ms h.1)

by-test : (j : Json) (b : Bool) → b ≡ has_doubled j → ¬ HasUniqueKeys j → b ≡ true
by-test j true e never = refl
by-test j false e never = absurd (never (unique j (sym e)))

pub doubled : (j : Json) → ¬ HasUniqueKeys j → has_doubled j ≡ true
doubled j never = by-test j (has_doubled j) refl never
