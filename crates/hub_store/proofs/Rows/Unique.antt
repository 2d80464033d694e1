-- The tables stand for one state.
use Rattle.std.proofs.Common.{◌≡◌, inl, inr, ℕ, suc, ◌+◌, ◌<◌, List, [], ◌∷◌, map, filter, drop, find, cond, ◌==◌, pos, Bool, eq-eqb, false, Option, Some, Ok}
use Rattle.std.proofs.{Common.{Result, refl, sym, ap, ap₂, subst₂, ◌∙◌, arith}, lemmas.{Bool.Decides.nat_tests, Cmp.nat_cmp_total}}
use Rattle.std.{proofs.lemmas.List.Sorted.{IsPermutation-trans, IsPermutation-sym}, specs.{Cmp.IsTotalOrder, List.Sorted.IsPermutation}}
use Rattle.{std.specs.declared.cmp.Ordering.Ordering, sqlite_value.specs.{Order.Row, declared.value.Value.TheVariants.Int}}
use Rattle.{sqlite_trees.{proofs.ListLemmas.{map-map, IsPermutation-filter}, specs.Tree.Trees}, sqlite_rules.specs.Lists.Has}
use Rattle.{iodef_tree.specs.declared.fault.ReadFault.ReadFault, policy.specs.declared.permission.Grantee.Grantee, circle.specs.Sound.CountsFrom}
use Rattle.hub_state.specs.{Documents.Lines, Sound.IsSound, State.{incident_number, incident_of, grantee_key}, declared.state.Incident.Incident}
use Rattle.{hub_state.specs.declared.state.Naming.Naming, hub_store.proofs.Rows.Backs.{grantee_of, grantee_back, is_set, flag_back, option_in, option_back}}
use Rattle.hub_store.proofs.Rows.{Compare.{begins, and-true, equal_numbers}, Found.filter_rows, Items.{its_items, its_places_rise, items_at, one_kind}}
use Rattle.hub_store.proofs.Rows.{Lists.{Rises, same_rising, has_permuted}, Places.{incident_place, incident_tree, item_place, item_tree, held_of}}
use Rattle.hub_store.proofs.Rows.{Rising.counted, SetKinds.{Kind, held_in}, Sets.{orgs, persons, communities, groups, gates, recipients, permissions, in_pairs}}
use Rattle.hub_store.{proofs.Rows.Sets.{clients, memberships, connections, group_members, arrangements}, specs.{Fit.IsFit, Holdings.IsHeld, Items.Item}}
use Rattle.hub_store.specs.{Items.{items_from, items_of, item_row, kind_number}, Means.Means, Rows.naming_row, Values.{number_or_null, flag}}
use Rattle.hub_state.specs.State as core

-- ---- members by their rows

module _ {X : Type 0} (row : X → Row) (one : (a b : X) → row a ≡ row b → a ≡ b) where
  into : (xs : List X) (x : X) → Has xs x → Has (map row xs) (row x)
  into [] x h = absurd h
  into (y ∷ ys) x (inl is) = inl (ap row is)
  into (y ∷ ys) x (inr h) = inr (into ys x h)

  out : (xs : List X) (x : X) → Has (map row xs) (row x) → Has xs x
  out [] x h = absurd h
  out (y ∷ ys) x (inl is) = inl (one x y is)
  out (y ∷ ys) x (inr h) = inr (out ys x h)

  members : (xs ys : List X) → IsPermutation (map row xs) (map row ys) → (x : X) → Has xs x → Has ys x
  members xs ys same x h = out ys x (has_permuted _ _ same (row x) (into xs x h))

  -- two lists that rise and have the same rows are one
  same_set : {K : Type 0} {R : K → K → Ordering} → IsTotalOrder R → (key : X → K) (xs ys : List X) → Rises R key xs
      → Rises R key ys → IsPermutation (map row xs) (map row ys) → xs ≡ ys
  same_set total key xs ys up vp same =
      same_rising total key xs ys up vp (members xs ys same) (members ys xs (IsPermutation-sym _ _ same))

-- ---- the rows of incidents and lines, which are those of no other

pub one_grantee : (a b : Grantee) → (grantee_key a).0 ≡ (grantee_key b).0 → (grantee_key a).1 ≡ (grantee_key b).1 → a ≡ b
one_grantee a b e f = sym (grantee_back a) ∙ (ap₂ grantee_of e f ∙ grantee_back b)

pub some_one : (x y : Lines) → ◌≡◌ {A = Result (List Lines) ReadFault} (Ok (x ∷ [])) (Ok (y ∷ [])) → x ≡ y
some_one x y e = cc

one_flag : (a b : Bool) → flag a ≡ flag b → a ≡ b
one_flag a b e = sym (flag_back a) ∙ (ap is_set e ∙ flag_back b)

one_number : (a b : Option ℕ) → number_or_null a ≡ number_or_null b → a ≡ b
one_number a b e = sym (option_back a) ∙ (ap option_in e ∙ option_back b)

one_naming : (a b : Naming) → naming_row a ≡ naming_row b → a ≡ b
one_naming a b e =
    let number : a.number ≡ b.number = cc in
    let source : a.source ≡ b.source = cc in
    let ident : a.ident ≡ b.ident = cc in
    let revision : a.revision ≡ b.revision = cc in
    let null : number_or_null a.community ≡ number_or_null b.community = cc in
    let community = one_number a.community b.community null in
    λ i. record { number = number i; source = source i; ident = ident i; revision = revision i; community = community i }

one_item : (a b : Item) → item_row a ≡ item_row b → a ≡ b
one_item a b e =
    let incident : a.incident ≡ b.incident = cc in
    let place : a.place ≡ b.place = cc in
    let depth : a.line.depth ≡ b.line.depth = cc in
    let name : a.line.name ≡ b.line.name = cc in
    let array : flag a.line.in_array ≡ flag b.line.in_array = cc in
    let code : kind_number a.line.kind ≡ kind_number b.line.kind = cc in
    let text : a.line.text ≡ b.line.text = cc in
    let in_array = one_flag a.line.in_array b.line.in_array array in
    let kind = one_kind a.line.kind b.line.kind code in
    λ i. record { incident = incident i; place = place i; line = record { depth = depth i; name = name i; in_array = in_array i; kind = kind i; text = text i } }

-- ---- incidents, by their rows and the rows of their lines

-- an incident has the same lines in both states
its_same : (a b : core.State) → IsSound a → IsSound b → IsPermutation (map item_row (items_of a)) (map item_row (items_of b)) → (n : ℕ) → its_items (incident_of n a) ≡ its_items (incident_of n b)
its_same a b up vp same n =
    let test = begins 0 (Int (pos n) ∷ []) in
    let passing : (s : core.State) → IsSound s → filter test (map item_row (items_of s)) ≡ map item_row (its_items (incident_of n s)) =
    λ s sound. filter_rows item_row test (λ (x : Item). x.incident == n) (λ x. and-true _ ∙ equal_numbers x.incident n) (items_of s) ∙ ap (map item_row) (items_at s n sound) in
    same_set item_row one_item nat_cmp_total (λ (x : Item). x.place) (its_items (incident_of n a)) (its_items (incident_of n b)) (its_places_rise (incident_of n a)) (its_places_rise (incident_of n b))
    (subst₂ IsPermutation (passing a up) (passing b vp) (IsPermutation-filter test _ _ same))

abbrev names_of : List Incident → List Naming
names_of = map (λ (i : Incident). i.naming)

namings_count : (n : ℕ) (is : List Incident) → CountsFrom incident_number n is → CountsFrom (λ (k : Naming). k.number) n (names_of is)
namings_count n [] counts = counts
namings_count n (i ∷ is) counts = (counts.0, namings_count (n + 1) is counts.1)

-- the lines without their places
lines_back : (n place : ℕ) (ls : Lines) → map (λ (x : Item). x.line) (items_from n place ls) ≡ ls
lines_back n place [] = refl
lines_back n place (l ∷ ls) = ap (λ rest. l ∷ rest) (lines_back n (suc place) ls)

below : (m k n : ℕ) → m ≡ k + 1 → k + 1 < n → (m == n) ≡ false
below m k n e h = grind (arith, nat_tests)

deeper : (k n : ℕ) → k + 1 < n → k < n
deeper k n h = omega (arith, h)

above_itself : (k : ℕ) → k < k + 1
above_itself k = omega arith

same_incidents : (k : ℕ) (xs ys : List Incident) → CountsFrom incident_number k xs → CountsFrom incident_number k ys → names_of xs ≡ names_of ys
    → ((n : ℕ) → k < n → its_items (find (λ (i : Incident). i.naming.number == n) xs) ≡ its_items (find (λ (i : Incident). i.naming.number == n) ys)) → xs ≡ ys
same_incidents k [] [] counts also same docs = refl
same_incidents k [] (b ∷ ys) counts also same docs = absurd cc
same_incidents k (a ∷ xs) [] counts also same docs = absurd cc
same_incidents k (a ∷ xs) (b ∷ ys) counts also same docs =
    let naming : a.naming ≡ b.naming = cc in
    let rest : names_of xs ≡ names_of ys = cc in
    let at : ℕ → Incident → Bool = λ n i. i.naming.number == n in
    let own : its_items (Some a) ≡ its_items (Some b) =
    subst₂ (λ c d. its_items (cond c (Some a) (find (at (k + 1)) xs)) ≡ its_items (cond d (Some b) (find (at (k + 1)) ys))) (eq-eqb a.naming.number (k + 1) counts.0) (eq-eqb b.naming.number (k + 1) also.0) (docs (k + 1) (above_itself k)) in
    let document : a.document ≡ b.document = sym (lines_back a.naming.number 1 a.document) ∙ (ap (map (λ (x : Item). x.line)) own ∙ lines_back b.naming.number 1 b.document) in
    let tails = same_incidents (k + 1) xs ys counts.1 also.1 rest
    (λ n h. subst₂ (λ c d. its_items (cond c (Some a) (find (at n) xs)) ≡ its_items (cond d (Some b) (find (at n) ys))) (below a.naming.number k n counts.0 h) (below b.naming.number k n also.0 h) (docs n (deeper k n h))) in
    λ i. record { naming = naming i; document = document i } ∷ tails i

-- ---- the state

module _ (db : Trees) (a b : core.State) (up : IsSound a) (vp : IsSound b) (m : Means db a) (n : Means db b) where
  -- the rows of a set are the same, so the set is
  same : {X : Type 0} (K : Kind X) → K.get a ≡ K.get b
  same K =
      let rows = IsPermutation-trans _ _ _ (held_in K db a m).same (IsPermutation-sym _ _ (held_in K db b n).same) in
      same_set K.row (λ x y e. sym (K.backed x) ∙ (ap K.back e ∙ K.backed y)) K.total (λ x. x) (K.get a) (K.get b)
      (K.rises a up) (K.rises b vp) (K.alike a b rows)

  between : (tree : ℕ) (seen : Row → Row) (xs ys : List Row) → IsHeld db (record { tree = tree; seen = seen; rows = xs })
      → IsHeld db (record { tree = tree; seen = seen; rows = ys }) → IsPermutation xs ys
  between tree seen xs ys h k = IsPermutation-trans _ _ _ h.same (IsPermutation-sym _ _ k.same)

  all_same : a ≡ b
  all_same =
      let named = between incident_tree (λ r. r) _ _ (held_of a incident_place _ refl m) (held_of b incident_place _ refl n) in
      let names : names_of a.incidents ≡ names_of b.incidents =
      same_set naming_row one_naming nat_cmp_total (λ (k : Naming). k.number) (names_of a.incidents) (names_of b.incidents)
      (counted _ 0 (names_of a.incidents) (namings_count 0 a.incidents up.incidents.numbered.0))
      (counted _ 0 (names_of b.incidents) (namings_count 0 b.incidents vp.incidents.numbered.0))
      (subst₂ IsPermutation (sym (map-map naming_row (λ (i : Incident). i.naming) a.incidents))
      (sym (map-map naming_row (λ (i : Incident). i.naming) b.incidents)) named) in
      let lines = between item_tree (drop 1) _ _ (held_of a item_place _ refl m) (held_of b item_place _ refl n) in
      let incidents = same_incidents 0 a.incidents b.incidents up.incidents.numbered.0 vp.incidents.numbered.0 names
      (λ k _. its_same a b up vp lines k) in
      λ i. record {
        directory = record {
          orgs = same orgs i;
          accounts = same persons i;
          clients = same (in_pairs clients) i;
          communities = same communities i;
          memberships = same (in_pairs memberships) i;
          connections = same (in_pairs connections) i;
          groups = same groups i;
          group_members = same (in_pairs group_members) i;
          arrangements = same (in_pairs arrangements) i;
        };
        incidents = incidents i;
        gates = same gates i;
        recipients = same recipients i;
        permissions = same permissions i;
      }

pub same_means : (db : Trees) (a b : core.State) → IsSound a → IsSound b → IsFit a → IsFit b → Means db a → Means db b → a ≡ b
same_means db a b up vp _ _ m n = all_same db a b up vp m n
