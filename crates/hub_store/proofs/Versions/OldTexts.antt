-- The incidents of version 1 as a migration reads them: the texts of their documents read back.
use Rattle.std.proofs.Common.{◌≡◌, ◌+◌, ℕ, pos, List, [], ◌∷◌, ◌++◌, map, filter, find, take, slice_get, Bool, true, false, cond, nat_lt, nat_cmp, Option, Some}
use Rattle.std.proofs.{Common.{None, Ok, refl, sym, ap, subst, ◌∙◌, arith, zero, suc}, lemmas.{Bool.{lt-ltb, le-ltb}, List.Elements.All-contains}}
use Rattle.std.{proofs.lemmas.{List.Elements.All-from_recursion, Str.is_utf8-from_IsUtf8}, specs.{List.AllByRecursion, Str.{IsUtf8, is_utf8}}}
use Rattle.{std.specs.declared.cmp.Ordering.TheVariants.Less, sqlite_value.{proofs.OrderLemmas.value_cmp-Int, specs.{Order.Row, declared.keys.Key.Key}}}
use Rattle.{sqlite_value.specs.declared.value.Value.TheVariants.Int, sqlite_trees.{proofs.ListLemmas.all_both, specs.Tree.Trees}, sqlite_sql.specs.Query.Query}
use Rattle.{sqlite_sql.specs.{Query.{IsAnswer, Output}, Term.{Term, lit, col, eval_all}}, iodef_tree.{proofs.ReadBack.texts-read-back, specs.Reading.reading}}
use Rattle.{circle.specs.Sound.CountsFrom, hub_state.specs.{Documents.Lines, Sound.{IsSound, IsAccepted}, State.incident_number}}
use Rattle.{hub_state.specs.declared.state.Incident.Incident, hub_store.proofs.{LookUps.Listed.{listed, int_below}, Rows.Compare.{more_than, and-true}}}
use Rattle.hub_store.{proofs.Rows.{Forms.{one_table, is_above, by_column}, Rising.counted, Statements.{keeps, shows}, Unique.some_one}, specs.Fit.FitIncident}
use Rattle.hub_store.specs.{Fit.NamesNoCommunity, Holdings.IsHeld, Layout.incident_part, Parts.held, Rows.{document_text, incident_row}}
use Rattle.hub_store.specs.inner.{Moving.{ShowsIncident, old_shown, HasTexts, incident_above}, Shown.ShowsFirst}
use Rattle.hub_state.specs.State as core

-- the text of a stored document reads as that document
pub read_back : (doc : Lines) → IsAccepted doc → IsUtf8 (document_text doc) → reading (document_text doc) ≡ Ok (doc ∷ [])
read_back doc accepted utf8 =
    All-contains (λ d. is_utf8 (document_text d) ≡ true → reading (document_text d) ≡ Ok (d ∷ [])) accepted.docs doc
    (All-from_recursion (λ d. is_utf8 (document_text d) ≡ true → reading (document_text d) ≡ Ok (d ∷ [])) accepted.docs (texts-read-back accepted.body accepted.docs accepted.read))
    accepted.among (is_utf8-from_IsUtf8 (document_text doc) utf8)

abbrev pub IsStored : Incident → Type 0
IsStored i = IsAccepted i.document × FitIncident i × NamesNoCommunity i

-- ---- the next incident

abbrev pub next_query : Query
next_query = record (one_table 18 (is_above 0 0 ∷ []) (col 1 0 ∷ col 1 2 ∷ col 1 3 ∷ col 1 4 ∷ col 1 5 ∷ [])) { order = by_column 0 ∷ []; limit = lit (Int (pos 1)) }

pub next_listed : (db : Trees) (s : core.State) (number : ℕ) (rows : List Row) → IsSound s → IsHeld db (held (incident_part s)) → IsAnswer next_query db (Int (pos number) ∷ []) rows
    → rows ≡ take 1 (map old_shown (filter (λ (i : Incident). nat_lt number i.naming.number) s.incidents))
next_listed db s number rows sound holds a =
    let terms = is_above 0 0 ∷ [] in
    let project = col 1 0 ∷ col 1 2 ∷ col 1 3 ∷ col 1 4 ∷ col 1 5 ∷ [] in
    let order = by_column 0 ∷ [] in
    let params = Int (pos number) ∷ [] in
    let out : Row → Output = λ r. (eval_all (map (λ (k : Term × Key). k.0) order) (params ∷ r ∷ []), shows project params r) in
    listed db 18 (λ r. r) incident_row s.incidents (λ (i : Incident). nat_lt number i.naming.number) terms project order (lit (Int (pos 1))) params (keeps terms params) out rows (λ r. refl) (λ r. refl) (λ i. and-true _ ∙ more_than i.naming.number number)
    (λ (a b : Incident). nat_cmp a.naming.number b.naming.number ≡ Less) (counted incident_number 0 s.incidents sound.incidents.numbered.0)
    (λ a b _ less _. rw (value_cmp-Int (pos a.naming.number) (pos b.naming.number), int_below a.naming.number b.naming.number less) refl)
    holds a

one_back : (x i : Incident) → IsStored x → ShowsIncident (old_shown x) i → i ≡ x
one_back x i stored shows =
    let both = shows x.naming (document_text x.document) stored.2 refl in
    let document = some_one i.document x.document (sym both.1 ∙ read_back x.document stored.0 stored.1) in
    λ j. record { naming = both.0 j; document = document j }

first_back : (q : Incident → Bool) (is : List Incident) (found : Option Incident) → AllByRecursion IsStored is → ShowsFirst ShowsIncident (take 1 (map old_shown (filter q is))) found → found ≡ find q is
first_back q [] None stored h = refl
first_back q [] (Some i) stored h = absurd h
first_back q (x ∷ is) found stored h = go (λ later k. first_back q is later stored.1 k) (q x) found h
  where
    go : ((later : Option Incident) → ShowsFirst ShowsIncident (take 1 (map old_shown (filter q is))) later → later ≡ find q is) → (b : Bool) (found : Option Incident) → ShowsFirst ShowsIncident (take 1 (map old_shown (cond b (x ∷ filter q is) (filter q is)))) found → found ≡ cond b (Some x) (find q is)
    go more true None h = absurd h
    go more true (Some i) h = ap Some (one_back x i stored.0 h)
    go more false found h = more found h

pub reads_next : (s : core.State) (number : ℕ) (rows : List Row) (found : Option Incident) → HasTexts s → rows ≡ take 1 (map old_shown (filter (λ (i : Incident). nat_lt number i.naming.number) s.incidents)) → ShowsFirst ShowsIncident rows found → found ≡ incident_above number s
reads_next s number rows found has is h =
    first_back (λ (i : Incident). nat_lt number i.naming.number) s.incidents found (all_both (λ (i : Incident). IsAccepted i.document × FitIncident i) NamesNoCommunity IsStored (λ i p q. (p.0, p.1, q)) s.incidents (all_both (λ (i : Incident). IsAccepted i.document) FitIncident (λ (i : Incident). IsAccepted i.document × FitIncident i) (λ i p q. (p, q)) s.incidents has.sound.incidents.documents has.texts) has.unnamed) (subst (λ l. ShowsFirst ShowsIncident l found) is h)

pub shows_first : (rows : List Row) (row : Row) (i : Incident) → slice_get rows 0 ≡ Some row → ShowsIncident row i → ShowsFirst ShowsIncident rows (Some i)
shows_first [] row i is shows = absurd cc
shows_first (r ∷ rows) row i is shows = let same : r ≡ row = cc in subst (λ x. ShowsIncident x i) (sym same) shows

-- ---- those up to a number

tested : (b c : Bool) (x : Incident) (rest found : Option Incident) → b ≡ c → cond b (Some x) rest ≡ found → cond c (Some x) rest ≡ found
tested b c x rest found is h = subst (λ b. cond b (Some x) rest ≡ found) is h

-- the next above a number is the one behind so many
pub next_at : (n k m : ℕ) (is : List Incident) (i : Incident) → m ≡ k + n → CountsFrom incident_number k is → find (λ (j : Incident). nat_lt m j.naming.number) is ≡ Some i → (i.naming.number ≡ suc m) × (take (suc n) is ≡ take n is ++ i ∷ [])
next_at n k m [] i at counts found = absurd cc
next_at zero k m (x ∷ is) i at counts found =
    let same : x ≡ i = let e = tested (nat_lt m x.naming.number) true x (find (λ (j : Incident). nat_lt m j.naming.number) is) (Some i) (lt-ltb m x.naming.number (omega (arith, at, counts.0))) found in cc in
    (subst (λ (j : Incident). j.naming.number ≡ suc m) same (omega (arith, at, counts.0)), ap (λ (j : Incident). j ∷ []) same)
next_at (suc n) k m (x ∷ is) i at counts found =
    let next = next_at n (k + 1) m is i (omega (arith, at)) counts.1 (tested (nat_lt m x.naming.number) false x (find (λ (j : Incident). nat_lt m j.naming.number) is) (Some i) (le-ltb m x.naming.number (omega (arith, at, counts.0))) found) in
    (next.0, ap (λ l. x ∷ l) next.1)

-- if none is above a number, these are all
pub up_to_all : (n k m : ℕ) (is : List Incident) → m ≡ k + n → CountsFrom incident_number k is → find (λ (j : Incident). nat_lt m j.naming.number) is ≡ None → take n is ≡ is
up_to_all zero k m [] at counts found = refl
up_to_all (suc n) k m [] at counts found = refl
up_to_all zero k m (x ∷ is) at counts found =
    absurd (let e = tested (nat_lt m x.naming.number) true x (find (λ (j : Incident). nat_lt m j.naming.number) is) None (lt-ltb m x.naming.number (omega (arith, at, counts.0))) found in cc)
up_to_all (suc n) k m (x ∷ is) at counts found =
    ap (λ l. x ∷ l) (up_to_all n (k + 1) m is (omega (arith, at)) counts.1 (tested (nat_lt m x.naming.number) false x (find (λ (j : Incident). nat_lt m j.naming.number) is) None (le-ltb m x.naming.number (omega (arith, at, counts.0))) found))
