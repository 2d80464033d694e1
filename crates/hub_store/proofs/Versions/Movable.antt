-- The incidents of a sound state that a migration moves: they can be read, and the new tables take their lines and
-- names.
use Rattle.std.proofs.Common.{◌≡◌, ◌≢◌, ℕ, suc, ◌+◌, ◌*◌, ◌<◌, ◌≤◌, ◌&&◌, ◌==◌, pos, List, [], ◌∷◌, ◌++◌, map, filter, take, length, length-append, Bool, true}
use Rattle.std.proofs.{Common.{false, cond, nat_lt, Ok, Err, refl, sym, ap, ap₂, subst, ◌∙◌, arith, drop}, lemmas.Bool.{eqb-true, and_parts}}
use Rattle.std.proofs.lemmas.{Bool.{false_from_ne_true, cond_both, ltb-false, Decides.nat_tests}, List.{length-map, map-append, take-append-drop}}
use Rattle.std.{proofs.lemmas.List.{Concat.flat_map-append, Elements.{All-contains, All-from_recursion}}, specs.List.{AllByRecursion, list_any}}
use Rattle.{std.specs.{Ordering.{is_eq, int_cmp}, Str.bytes_eq}, iodef_tree.{proofs.{Fitness.bind-ok, Order.bytes_eq-true}, specs.Reading.{◌>>=◌, reading}}}
use Rattle.iodef_tree.specs.{Reading.{parsed, or_fault, incidents_of, all_complete, all_fit, document_of, if_short, documents}, Text.Bytes, Tree.lines}
use Rattle.iodef_tree.specs.declared.{TheConstants.LINE_LIMIT, fault.ReadFault.TheVariants.{NotDocument, TooManyLines}}
use Rattle.{sqlite_value.{proofs.OrderLemmas.value_cmp-Int, specs.{Keys.first_key, Order.Row}}, sqlite_trees.proofs.ListLemmas.{all-append, all-map, all_both}}
use Rattle.{sqlite_trees.{proofs.ListLemmas.{all_weaker, ascending-append, ascending-map}, specs.Tree.IsAscending}, sqlite_rules.proofs.ListLemmas.all_has}
use Rattle.{sqlite_rules.proofs.ListLemmas.some_has, serde_json.specs.Find.as_object, circle.specs.{Directory.org_number, Sound.{CountsFrom, Pairwise}}}
use Rattle.{circle.specs.declared.directory.Org.Org, hub_state.{proofs.Keeping.numbers_above, specs.{Documents.Lines, Sound.{IsSound, IsAccepted}}}}
use Rattle.hub_state.specs.{State.incident_number, declared.{TheConstants.{INCIDENT_LIMIT, REVISION_LIMIT}, state.{Incident.Incident, Naming.Naming}}}
use Rattle.hub_store.proofs.{Rows.Compare.{and-true, equal_numbers, equal_texts}, Versions.{OldTexts.read_back, Standing.{can_hold, number_before}}}
use Rattle.hub_store.specs.{Fit.{AreTaken, IsShort, ShortItem, ShortNaming, FitIncident}, Items.{Item, items_from, items_in, item_row, items_of}}
use Rattle.hub_store.specs.{Rows.{named_row_2, naming_row_2}, inner.Beside.{CanName, CanStand, NumberedApart, ShortNamingAs, Unlike, alike, IsRowOf}}
use Rattle.hub_store.specs.inner.Moving.{HasTexts, IsReadable, ReadsFirst, old_shown, incidents_up_to, naming_in}
use Rattle.serde_json.specs.Data as json
use Rattle.hub_state.specs.State as core

-- ---- limits

up_to_length : {X : Type 0} (number : X → ℕ) (n : ℕ) (xs : List X) → CountsFrom number n xs → AllByRecursion (λ x. number x ≤ n + length xs) xs
up_to_length number n [] counts = tt
up_to_length number n (x ∷ xs) counts = (omega (arith, counts.0), all_weaker (λ y. number y ≤ n + 1 + length xs) (λ y. number y ≤ n + length (x ∷ xs)) (λ y low. omega (arith, low)) xs (up_to_length number (n + 1) xs counts.1))

pub all_low : (s : core.State) → IsSound s → AllByRecursion (λ (i : Incident). i.naming.number ≤ INCIDENT_LIMIT) s.incidents
all_low s sound = all_weaker (λ (i : Incident). i.naming.number ≤ 0 + length s.incidents) (λ (i : Incident). i.naming.number ≤ INCIDENT_LIMIT) (λ i low. omega (arith, low, sound.incidents.numbered.1)) s.incidents (up_to_length incident_number 0 s.incidents sound.incidents.numbered.0)

low_numbers : (s : core.State) → IsSound s → AllByRecursion (λ (i : Incident). i.naming.number ≤ 1000000) s.incidents
low_numbers s sound = all_weaker (λ (i : Incident). i.naming.number ≤ 0 + length s.incidents) (λ (i : Incident). i.naming.number ≤ 1000000) (λ i low. omega (arith, low, sound.incidents.numbered.1)) s.incidents (up_to_length incident_number 0 s.incidents sound.incidents.numbered.0)

low_org : (s : core.State) (n : ℕ) → IsSound s → list_any (λ (o : Org). o.number == n) s.directory.orgs ≡ true → n ≤ 1000
low_org s n sound there =
    let found = some_has (λ (o : Org). o.number == n) s.directory.orgs there in
    let low = all_has (λ (o : Org). o.number ≤ 0 + length s.directory.orgs) s.directory.orgs found.0 (up_to_length org_number 0 s.directory.orgs sound.directory.orgs.numbered.0) found.1 in
    let is = eqb-true found.0.number n found.2 in
    omega (arith, low, is, sound.directory.orgs.numbered.1)

-- ---- reading

readable : (i : Incident) → i.naming.number ≤ 1000000 → i.naming.source ≤ 1000 → i.naming.revision ≤ 1000000 → ShortNaming i → IsAccepted i.document → FitIncident i → IsReadable i
readable i number source revision short accepted text = record {
  number = omega (arith, number);
  source = omega (arith, source);
  ident = short.0;
  revision = omega (arith, revision);
  text = text;
  back = read_back i.document accepted text;
}

pub all_readable : (s : core.State) → HasTexts s → AreTaken s → AllByRecursion IsReadable s.incidents
all_readable s has taken =
    let sound = has.sound in
    let sources = all_weaker (λ (i : Incident). list_any (λ (o : Org). o.number == i.naming.source) s.directory.orgs ≡ true) (λ (i : Incident). i.naming.source ≤ 1000) (λ i there. low_org s i.naming.source sound there) s.incidents sound.incidents.sources in
    let one = all_both (λ (i : Incident). i.naming.number ≤ 1000000) (λ (i : Incident). i.naming.source ≤ 1000) (λ (i : Incident). (i.naming.number ≤ 1000000) × (i.naming.source ≤ 1000)) (λ i p q. (p, q)) s.incidents (low_numbers s sound) sources in
    let two = all_both _ (λ (i : Incident). i.naming.revision ≤ REVISION_LIMIT) (λ (i : Incident). ((i.naming.number ≤ 1000000) × (i.naming.source ≤ 1000)) × (i.naming.revision ≤ 1000000)) (λ i p q. (p, omega (arith, q))) s.incidents one sound.incidents.revisions in
    let three = all_both ShortNaming (λ (i : Incident). IsAccepted i.document) (λ (i : Incident). ShortNaming i × IsAccepted i.document) (λ i p q. (p, q)) s.incidents taken.incidents sound.incidents.documents in
    let four = all_both _ FitIncident (λ (i : Incident). (ShortNaming i × IsAccepted i.document) × FitIncident i) (λ i p q. (p, q)) s.incidents three has.texts in
    all_both _ _ IsReadable (λ i p q. readable i p.0.0 p.0.1 p.1 q.0.0 q.0.1 q.1) s.incidents two four

pub first_readable : (p : Incident → Bool) (is : List Incident) → AllByRecursion IsReadable is → ReadsFirst (take 1 (map old_shown (filter p is)))
first_readable p [] all = tt
first_readable p (i ∷ is) all = go (p i) (first_readable p is all.1)
  where
    go : (b : Bool) → ReadsFirst (take 1 (map old_shown (filter p is))) → ReadsFirst (take 1 (map old_shown (cond b (i ∷ filter p is) (filter p is))))
    go true more = (i, refl, all.0)
    go false more = more

-- ---- how many lines

short_is : (ls d : Lines) → if_short ls ≡ Ok d → length d ≤ 4096
short_is ls d is = cond_both (nat_lt LINE_LIMIT (length ls)) (Err TooManyLines) (Ok ls) (λ r. r ≡ Ok d → length d ≤ 4096) (λ _ e. absurd cc) (λ b e. let same : ls ≡ d = cc in subst (λ (l : Lines). length l ≤ 4096) same (ltb-false LINE_LIMIT (length ls) b)) is

all_short : (root : json.Members) (ds : json.Items) (docs : List Lines) → documents root ds ≡ Ok docs → AllByRecursion (λ d. length d ≤ 4096) docs
all_short root json.no_items docs given = let none : [] ≡ docs = cc in subst (AllByRecursion (λ d. length d ≤ 4096)) none tt
all_short root (json.item x ds) docs given =
    let here = bind-ok (if_short (lines 1 (document_of x root))) (λ first. documents root ds >>= λ others. Ok (first ∷ others)) docs given in
    let more = bind-ok (documents root ds) (λ others. Ok (here.0 ∷ others)) docs here.2 in
    let whole : here.0 ∷ more.0 ≡ docs = let e = more.2 in cc in
    subst (AllByRecursion (λ d. length d ≤ 4096)) whole (short_is (lines 1 (document_of x root)) here.0 here.1, all_short root ds more.0 more.1)

read_short : (body : Bytes) (docs : List Lines) → reading body ≡ Ok docs → AllByRecursion (λ d. length d ≤ 4096) docs
unfolding reading
read_short body docs h =
    let read = bind-ok (parsed body) _ docs h in
    let root = bind-ok (or_fault NotDocument (as_object read.0)) _ docs read.2 in
    let incidents = bind-ok (or_fault NotDocument (incidents_of root.0)) _ docs root.2 in
    let complete = bind-ok (all_complete 0 incidents.0) _ docs incidents.2 in
    let fine = bind-ok (all_fit read.0) _ docs complete.2 in
    all_short root.0 incidents.0 docs fine.2

document_short : (doc : Lines) → IsAccepted doc → length doc ≤ 4096
document_short doc accepted =
    All-contains (λ d. length d ≤ 4096) accepted.docs doc (All-from_recursion (λ d. length d ≤ 4096) accepted.docs (read_short accepted.body accepted.docs accepted.read)) accepted.among

lines_count : (n place : ℕ) (ls : Lines) → length (items_from n place ls) ≡ length ls
lines_count n place [] = refl
lines_count n place (l ∷ ls) = ap suc (lines_count n (suc place) ls)

items_few : (is : List Incident) → AllByRecursion (λ (i : Incident). IsAccepted i.document) is → length (items_in is) ≤ 4096 * length is
items_few [] all = omega arith
items_few (i ∷ is) all =
    omega (arith, length-append (items_from i.naming.number 1 i.document) (items_in is), lines_count i.naming.number 1 i.document, document_short i.document all.0, items_few is all.1)

-- ---- places

alike_is : (a b : Item) → alike (0 ∷ 1 ∷ []) (item_row a) (item_row b) ≡ (a.incident == b.incident && a.place == b.place)
unfolding first_key
alike_is a b = ap₂ (λ x y. x && y) (equal_numbers a.incident b.incident) (and-true _ ∙ equal_numbers a.place b.place)

other_place : (a b m n : ℕ) → m < n → (a == b && m == n) ≡ false
other_place a b m n low = grind (arith, nat_tests)

later_place : (a b m n : ℕ) → m < n → (a == b && n == m) ≡ false
later_place a b m n low = grind (arith, nat_tests)

other_number : (a b m n : ℕ) → a < b → (a == b && m == n) ≡ false
other_number a b m n low = grind (arith, nat_tests)

later_number : (a b m n : ℕ) → a < b → (b == a && m == n) ≡ false
later_number a b m n low = grind (arith, nat_tests)

abbrev ItemsApart : Item → Item → Type 0
ItemsApart a b = Unlike (0 ∷ 1 ∷ []) (item_row a) (item_row b)

by_place : (a b : Item) → a.place < b.place → ItemsApart a b
by_place a b low = (alike_is a b ∙ other_place a.incident b.incident a.place b.place low, alike_is b a ∙ later_place b.incident a.incident a.place b.place low)

by_incident : (a b : Item) → a.incident < b.incident → ItemsApart a b
by_incident a b low = (alike_is a b ∙ other_number a.incident b.incident a.place b.place low, alike_is b a ∙ later_number a.incident b.incident b.place a.place low)

places_above : (n m place : ℕ) (ls : Lines) → m < place → AllByRecursion (λ (x : Item). m < x.place) (items_from n place ls)
places_above n m place [] low = tt
places_above n m place (l ∷ ls) low = (low, places_above n m (suc place) ls (omega (arith, low)))

own_apart : (n place : ℕ) (ls : Lines) → IsAscending ItemsApart (items_from n place ls)
own_apart n place [] = tt
own_apart n place (l ∷ ls) =
    let x : Item = record { incident = n; place = place; line = l } in
    (all_weaker (λ (y : Item). place < y.place) (ItemsApart x) (λ y low. by_place x y low) (items_from n (suc place) ls) (places_above n place (suc place) ls (omega arith)), own_apart n (suc place) ls)

-- what holds of the number of an incident holds of its lines
its_lines : (P : ℕ → Type 0) (n place : ℕ) (ls : Lines) → P n → AllByRecursion (λ (x : Item). P x.incident) (items_from n place ls)
its_lines P n place [] one = tt
its_lines P n place (l ∷ ls) one = (one, its_lines P n (suc place) ls one)

all_lines : (P : ℕ → Type 0) (is : List Incident) → AllByRecursion (λ (i : Incident). P i.naming.number) is → AllByRecursion (λ (x : Item). P x.incident) (items_in is)
all_lines P [] all = tt
all_lines P (i ∷ is) all = all-append (λ (x : Item). P x.incident) (items_from i.naming.number 1 i.document) (items_in is) (its_lines P i.naming.number 1 i.document all.0) (all_lines P is all.1)

abbrev Ascend : List Incident → Type 0
Ascend = IsAscending (λ (a b : Incident). a.naming.number < b.naming.number)

items_apart : (is : List Incident) → Ascend is → IsAscending ItemsApart (items_in is)
items_apart [] up = tt
items_apart (i ∷ is) up =
    ascending-append ItemsApart (items_from i.naming.number 1 i.document) (items_in is) (own_apart i.naming.number 1 i.document) (items_apart is up.1)
    (all_weaker (λ (x : Item). i.naming.number ≡ x.incident) (λ (x : Item). AllByRecursion (ItemsApart x) (items_in is))
    (λ x same. all_weaker (λ (y : Item). i.naming.number < y.incident) (ItemsApart x) (λ y low. by_incident x y (subst (λ m. m < y.incident) same low)) (items_in is) (all_lines (λ m. i.naming.number < m) is up.0))
    (items_from i.naming.number 1 i.document) (its_lines (λ m. i.naming.number ≡ m) i.naming.number 1 i.document refl))

ascending : (n : ℕ) (is : List Incident) → CountsFrom incident_number n is → Ascend is
ascending n [] counts = tt
ascending n (i ∷ is) counts = (subst (λ m. AllByRecursion (λ (j : Incident). m < j.naming.number) is) (sym counts.0) (numbers_above incident_number (n + 1) is counts.1), ascending (n + 1) is counts.1)

-- the new table takes the lines of the first documents
pub lines_stand : (s : core.State) (n : ℕ) → IsSound s → AreTaken s → CanStand (map item_row (items_in (incidents_up_to n s)))
lines_stand s n sound taken =
    let first = items_in (take n s.incidents) in
    let rest = items_in (drop n s.incidents) in
    let all : first ++ rest ≡ items_of s = sym (flat_map-append (λ (i : Incident). items_from i.naming.number 1 i.document) (take n s.incidents) (drop n s.incidents)) ∙ ap items_in (take-append-drop n s.incidents) in
    let few = items_few s.incidents sound.incidents.documents in
    number_before (Unlike (0 ∷ 1 ∷ [])) (IsRowOf item_row ShortItem) (map item_row first) (map item_row rest)
    (subst CanStand (ap (map item_row) (sym all) ∙ map-append item_row first rest)
    (can_hold (Unlike (0 ∷ 1 ∷ [])) item_row ShortItem (items_of s) (items_apart s.incidents (ascending 0 s.incidents sound.incidents.numbered.0)) taken.items, omega (arith, length-map (items_of s) item_row, few, sound.incidents.numbered.1)))

-- ---- names

below : (a b : ℕ) → a < b → is_eq (int_cmp (pos a) (pos b)) ≡ false
below a b low = grind (arith, nat_tests)

above : (a b : ℕ) → a < b → is_eq (int_cmp (pos b) (pos a)) ≡ false
above a b low = grind (arith, nat_tests)

abbrev key_of : Incident → ℕ × List ℕ
key_of i = (i.naming.source, i.naming.ident)

-- incidents as a version keeps them, with more columns or none
module _ (more : Row) where
  abbrev kept : Naming → Row
  kept k = naming_row_2 k ++ more

  idents_differ : (a b : Incident) → key_of a ≢ key_of b → alike (2 ∷ 3 ∷ []) (kept a.naming) (kept b.naming) ≡ false
  unfolding first_key
  idents_differ a b other =
      ap₂ (λ x y. x && y) (equal_numbers a.naming.source b.naming.source) (and-true _ ∙ equal_texts a.naming.ident b.naming.ident)
      ∙ false_from_ne_true _ (λ both.
      let parts = and_parts (a.naming.source == b.naming.source) (bytes_eq a.naming.ident b.naming.ident) both in
      other (ap₂ (λ (x : ℕ) (y : List ℕ). (x, y)) (eqb-true a.naming.source b.naming.source parts.0) (bytes_eq-true a.naming.ident b.naming.ident parts.1)))

  names_apart : (a b : Incident) → a.naming.number < b.naming.number → key_of a ≢ key_of b → NumberedApart (2 ∷ 3 ∷ []) (kept a.naming) (kept b.naming)
  names_apart a b low other = (
    (ap is_eq (value_cmp-Int (pos a.naming.number) (pos b.naming.number)) ∙ below a.naming.number b.naming.number low, ap is_eq (value_cmp-Int (pos b.naming.number) (pos a.naming.number)) ∙ above a.naming.number b.naming.number low),
    (idents_differ a b other, idents_differ b a (λ same. other (sym same))),
  )

  all_apart : (is : List Incident) → Ascend is → Pairwise (λ (a b : Incident). key_of a ≢ key_of b) is → IsAscending (λ (a b : Incident). NumberedApart (2 ∷ 3 ∷ []) (kept a.naming) (kept b.naming)) is
  all_apart [] up others = tt
  all_apart (i ∷ is) up others =
      (all_both (λ (j : Incident). i.naming.number < j.naming.number) (λ (j : Incident). key_of i ≢ key_of j) (λ (j : Incident). NumberedApart (2 ∷ 3 ∷ []) (kept i.naming) (kept j.naming)) (λ j low other. names_apart i j low other) is up.0 others.0, all_apart is up.1 others.1)

  -- a table that keeps incidents so takes all of them
  pub names_stand_as : (s : core.State) → IsSound s → AllByRecursion (λ (i : Incident). IsShort (kept i.naming)) s.incidents → CanName kept (map kept (naming_in s.incidents))
  names_stand_as s sound short =
      let both = all_both (λ (i : Incident). IsShort (kept i.naming)) (λ (i : Incident). i.naming.number ≤ INCIDENT_LIMIT) (λ (i : Incident). ShortNamingAs kept i.naming) (λ i one low. (one, omega (arith, low))) s.incidents short (all_low s sound) in
      can_hold (NumberedApart (2 ∷ 3 ∷ [])) kept (ShortNamingAs kept) (naming_in s.incidents)
      (ascending-map (λ (a b : Naming). NumberedApart (2 ∷ 3 ∷ []) (kept a) (kept b)) (λ (i : Incident). i.naming) s.incidents (all_apart s.incidents (ascending 0 s.incidents sound.incidents.numbered.0) sound.incidents.idents))
      (all-map (ShortNamingAs kept) (λ (i : Incident). i.naming) s.incidents both)

-- without its community a row is shorter
shorter : (i : Incident) → ShortNaming i → IsShort (named_row_2 i)
shorter i short = omega (arith, short.1)

-- the table of version 2 takes all incidents
pub names_stand : (s : core.State) → IsSound s → AreTaken s → CanName naming_row_2 (map naming_row_2 (naming_in s.incidents))
names_stand s sound taken = names_stand_as [] s sound (all_weaker ShortNaming (λ (i : Incident). IsShort (named_row_2 i)) shorter s.incidents taken.incidents)
