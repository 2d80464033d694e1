-- A page, made of the entries above a number.
use Rattle.std.proofs.Common.{◌≡◌, ℕ, zero, suc, ◌+◌, ◌-◌, ◌<◌, ◌≤◌, Bool, true, false, List, [], ◌∷◌, ◌++◌, cond, Option, Some, None, length, take, drop, map}
use Rattle.std.proofs.{Common.{refl, sym, ◌∙◌, ap, subst, arith, filter, slice_get, get_or, not, ◌&&◌, append_assoc, string_bytes}, Math.Seq.take-length}
use Rattle.std.proofs.lemmas.{Bool.{cond-true, cond-false, true≢false}, List.{take-append-drop, take-append-le, length-map, map-append, take-map, append-nil}}
use Rattle.std.proofs.lemmas.{List.{drop_more, drop_all, drop-drop, drop_min, length-take, take_all, Elements.filter-append}, Option.slice_get_within}
use Rattle.{std.specs.{List.AllByRecursion, Option.option_map_or, Prelude.option_map}, circle.specs.Sound.CountsFrom, hub_core.specs.Documents.Lines}
use Rattle.hub_core.specs.{Reads.{case_for, entry_of, incidents_above, entries_after}, Sound.IsSound, State.{State, incident_number, incident_of}}
use Rattle.{hub_state.specs.declared.{reply.Entry.Entry, state.Incident.Incident}, policy.specs.declared.{case.Case.Case, standing.Standing.Standing}}
use Rattle.{redact.specs.{Wants.{HasSameWords, meets, meets_by}, declared.want.Want.Want}, hub.proofs.Numbered.{above-numbered, counts-drop, counts-take}}
use Rattle.hub.{proofs.{Numbered.all_found, ShutOut.shut-tells-nothing}, specs.declared.{TheConstants.PAGE_LIMIT, page_filter.PageFilter.PageFilter}}
use Rattle.hub.specs.inner.PageFilter.{admits, is_shut_out, passes_filter, number_at_end}

-- ---- the first so many

pub take_take : {X : Type 0} (n : ℕ) (xs ys : List X) → take n (take n xs ++ ys) ≡ take n (xs ++ ys)
take_take zero xs ys = refl
take_take (suc n) [] ys = refl
take_take (suc n) (x ∷ xs) ys = ap (λ zs. x ∷ zs) (take_take n xs ys)

-- so many are there already
pub take_full : {X : Type 0} (n : ℕ) (xs ys : List X) → n ≤ length xs → length xs ≤ n → take n (xs ++ ys) ≡ xs
take_full n xs ys low high =
    let same : n ≡ length xs = omega arith in
    take-append-le n xs ys low ∙ ap (λ k. take k xs) same ∙ take-length xs

drop_as_taken : {X : Type 0} (n : ℕ) (xs : List X) → drop (length (take n xs)) xs ≡ drop n xs
drop_as_taken n xs = ap (λ k. drop k xs) (length-take n xs) ∙ drop_min n xs

at_end : (o : Option Entry) (n : ℕ) → option_map (λ (e : Entry). e.number) o ≡ Some n → (e : Entry) × (o ≡ Some e) × (e.number ≡ n)
at_end None n h = cc
at_end (Some e) n h = let same : e.number ≡ n = cc in (e, refl, same)

-- ---- tests of an incident, by its number

module _ (s : State) (test : Incident → Bool) where
  abbrev pub test_at : ℕ → Bool
  test_at n = option_map_or test (incident_of n s) false

  filter_entries : (is : List Incident) → AllByRecursion (λ (i : Incident). incident_of i.naming.number s ≡ Some i) is →
      filter (λ (e : Entry). test_at e.number) (map entry_of is) ≡ map entry_of (filter test is)
  filter_entries [] h = refl
  filter_entries (i ∷ is) h =
      let here : test_at i.naming.number ≡ test i = ap (λ o. option_map_or test o false) h.0 in
      ap (λ b. cond b (entry_of i ∷ filter (λ (e : Entry). test_at e.number) (map entry_of is)) (filter (λ (e : Entry). test_at e.number) (map entry_of is))) here
      ∙ by_case (test i) _ _ (filter_entries is h.1)
    where
      by_case : (b : Bool) (es : List Entry) (js : List Incident) → es ≡ map entry_of js → cond b (entry_of i ∷ es) es ≡ map entry_of (cond b (i ∷ js) js)
      by_case true es js same = ap (λ xs. entry_of i ∷ xs) same
      by_case false es js same = same

  all_taken : (P : Incident → Type 0) (n : ℕ) (is : List Incident) → AllByRecursion P is → AllByRecursion P (take n is)
  all_taken P zero is h = tt
  all_taken P (suc n) [] h = tt
  all_taken P (suc n) (i ∷ is) h = (h.0, all_taken P n is h.1)

  all_dropped : (P : Incident → Type 0) (n : ℕ) (is : List Incident) → AllByRecursion P is → AllByRecursion P (drop n is)
  all_dropped P zero is h = h
  all_dropped P (suc n) [] h = tt
  all_dropped P (suc n) (i ∷ is) h = all_dropped P n is h.1

  -- the entries above a number that pass the test
  abbrev pub passing_above : ℕ → List Entry
  passing_above a = map entry_of (filter test (incidents_above a s))

  entries-drop : (a n : ℕ) → IsSound s → entries_after a n s ≡ map entry_of (take n (drop a s.incidents))
  entries-drop a n sound =
      ap (λ is. take n (map entry_of is)) (above-numbered incident_number a s.incidents sound.incidents.numbered.0) ∙ take-map entry_of n (drop a s.incidents)

  entry-get : (is : List Incident) (m k : ℕ) (e : Entry) → CountsFrom incident_number m is → slice_get (map entry_of is) k ≡ Some e → e.number ≡ m + k + 1
  entry-get [] m k e h is = cc
  entry-get (i ∷ is) m zero e h at = let same : entry_of i ≡ e = cc in ap (λ (x : Entry). x.number) (sym same) ∙ omega (arith, h.0)
  entry-get (i ∷ is) m (suc k) e h at = let later = entry-get is (m + 1) k e h.1 at in omega (arith, later)

  last_of : (is : List Incident) (m : ℕ) (e : Entry) → CountsFrom incident_number m is → slice_get (map entry_of is) (length (map entry_of is) - 1) ≡ Some e → e.number ≡ m + length (map entry_of is)
  last_of is m e h at =
      let within = slice_get_within (map entry_of is) (length (map entry_of is) - 1) e at in
      let there = entry-get is m (length (map entry_of is) - 1) e h at in
      omega (arith, within, there)

  last-number : (a n : ℕ) (e : Entry) → IsSound s → slice_get (entries_after a n s) (length (entries_after a n s) - 1) ≡ Some e → e.number ≡ a + length (entries_after a n s)
  last-number a n e sound at =
      let I = take n (drop a s.incidents) in
      let same = entries-drop a n sound in
      let counts = counts-take incident_number n (0 + a) (drop a s.incidents) (counts-drop incident_number a 0 s.incidents sound.incidents.numbered.0) in
      let there : e.number ≡ (0 + a) + length (map entry_of I) = last_of I (0 + a) e counts (subst (λ es. slice_get es (length es - 1) ≡ Some e) same at) in
      there ∙ omega arith ∙ ap (λ es. a + length es) (sym same)

  -- those that pass among the entries read, and then those above the last of them
  passing-split : (a n : ℕ) (e : Entry) → IsSound s → slice_get (entries_after a n s) (length (entries_after a n s) - 1) ≡ Some e →
      passing_above a ≡ filter (λ (x : Entry). test_at x.number) (entries_after a n s) ++ passing_above e.number
  passing-split a n e sound at =
      let D = drop a s.incidents in
      let I = take n D in
      let numbered = sound.incidents.numbered.0 in
      let found = all_taken _ n D (all_dropped _ a s.incidents (all_found incident_number 0 s.incidents numbered)) in
      let read : filter (λ (x : Entry). test_at x.number) (entries_after a n s) ≡ map entry_of (filter test I) =
      ap (filter (λ (x : Entry). test_at x.number)) (entries-drop a n sound) ∙ filter_entries I found in
      let up : e.number ≡ a + length I = last-number a n e sound at ∙ ap (λ es. a + length es) (entries-drop a n sound) ∙ ap (λ k. a + k) (length-map I entry_of) in
      let behind : incidents_above e.number s ≡ drop n D =
      above-numbered incident_number e.number s.incidents numbered ∙ ap (λ k. drop k s.incidents) up ∙ sym (drop-drop (length I) a s.incidents) ∙ drop_as_taken n D in
      ap (λ is. map entry_of (filter test is)) (above-numbered incident_number a s.incidents numbered ∙ sym (take-append-drop n D))
      ∙ ap (map entry_of) (filter-append test I (drop n D))
      ∙ map-append entry_of (filter test I) (filter test (drop n D))
      ∙ ap (λ es. es ++ map entry_of (filter test (drop n D))) (sym read)
      ∙ ap (λ is. filter (λ (x : Entry). test_at x.number) (entries_after a n s) ++ map entry_of (filter test is)) (sym behind)

  -- the page continues with the entries read
  page_by : (a : ℕ) (e : Entry) (old new : List Entry) → IsSound s → slice_get (entries_after a PAGE_LIMIT s) (length (entries_after a PAGE_LIMIT s) - 1) ≡ Some e →
      new ≡ take PAGE_LIMIT (old ++ filter (λ (x : Entry). test_at x.number) (entries_after a PAGE_LIMIT s)) →
      take PAGE_LIMIT (new ++ passing_above e.number) ≡ take PAGE_LIMIT (old ++ passing_above a)
  page_by a e old new sound at is =
      let F = filter (λ (x : Entry). test_at x.number) (entries_after a PAGE_LIMIT s) in
      ap (λ xs. take PAGE_LIMIT (xs ++ passing_above e.number)) is
      ∙ take_take PAGE_LIMIT (old ++ F) (passing_above e.number)
      ∙ ap (take PAGE_LIMIT) (append_assoc old F (passing_above e.number))
      ∙ ap (λ xs. take PAGE_LIMIT (old ++ xs)) (sym (passing-split a PAGE_LIMIT e sound at))

  pub page_on : (a b : ℕ) (old new : List Entry) → IsSound s → number_at_end (entries_after a PAGE_LIMIT s) ≡ Some b →
      new ≡ take PAGE_LIMIT (old ++ filter (λ (x : Entry). test_at x.number) (entries_after a PAGE_LIMIT s)) →
      take PAGE_LIMIT (new ++ passing_above b) ≡ take PAGE_LIMIT (old ++ passing_above a)
  page_on a b old new sound at is =
      let last = at_end (slice_get (entries_after a PAGE_LIMIT s) (length (entries_after a PAGE_LIMIT s) - 1)) b at in
      subst (λ n. take PAGE_LIMIT (new ++ passing_above n) ≡ take PAGE_LIMIT (old ++ passing_above a)) last.2 (page_by a last.0 old new sound last.1 is)

  -- nothing remains if no entry is read
  pub page_end : (a : ℕ) (old : List Entry) → IsSound s → entries_after a PAGE_LIMIT s ≡ [] → length old ≤ PAGE_LIMIT → take PAGE_LIMIT (old ++ passing_above a) ≡ old
  page_end a old sound none few =
      let D = drop a s.incidents in
      let empty : D ≡ [] = nothing D (sym (entries-drop a PAGE_LIMIT sound) ∙ none) in
      ap (λ is. take PAGE_LIMIT (old ++ map entry_of (filter test is))) (above-numbered incident_number a s.incidents sound.incidents.numbered.0 ∙ empty)
      ∙ ap (take PAGE_LIMIT) (append-nil old) ∙ take_all PAGE_LIMIT old few
    where
      nothing : (is : List Incident) → map entry_of (take PAGE_LIMIT is) ≡ [] → is ≡ []
      nothing [] h = refl
      nothing (i ∷ is) h = cc

  -- if the last entry read isn't above the number, none was read
  pub none_read : (a b : ℕ) → IsSound s → number_at_end (entries_after a PAGE_LIMIT s) ≡ Some b → b ≤ a → ⊥
  none_read a b sound end low =
      let last = at_end (slice_get (entries_after a PAGE_LIMIT s) (length (entries_after a PAGE_LIMIT s) - 1)) b end in
      let e = last.0 in
      let at : slice_get (entries_after a PAGE_LIMIT s) (length (entries_after a PAGE_LIMIT s) - 1) ≡ Some e = last.1 in
      let up = last-number a PAGE_LIMIT e sound at in
      let within = slice_get_within (entries_after a PAGE_LIMIT s) (length (entries_after a PAGE_LIMIT s) - 1) e at in
      omega (arith, up, within, last.2, low)

pub no_last : {X : Type 0} (xs : List X) → slice_get xs (length xs - 1) ≡ None → xs ≡ []
no_last [] h = refl
no_last (x ∷ xs) h = absurd (none_inside (x ∷ xs) (length (x ∷ xs) - 1) (omega arith) h)
  where
    none_inside : {X : Type 0} (ys : List X) (k : ℕ) → k < length ys → slice_get ys k ≡ None → ⊥
    none_inside [] k low h = absurd (omega (arith, low))
    none_inside (y ∷ ys) zero low h = cc
    none_inside (y ∷ ys) (suc k) low h = none_inside ys k (omega (arith, low)) h

pub no_end : (es : List Entry) → number_at_end es ≡ None → es ≡ []
no_end es h = no_last es (none (slice_get es (length es - 1)) h)
  where
    none : (o : Option Entry) → option_map (λ (e : Entry). e.number) o ≡ None → o ≡ None
    none None h = refl
    none (Some e) h = cc

-- ---- one entry more

module _ (test : Entry → Bool) (entries : List Entry) (i : ℕ) (d : Entry) (old new : List Entry) where
  pub picked : i < length entries → test (get_or entries i d) ≡ true → new ≡ old ++ get_or entries i d ∷ [] →
      take PAGE_LIMIT (new ++ filter test (drop (i + 1) entries)) ≡ take PAGE_LIMIT (old ++ filter test (drop i entries))
  picked low holds grown =
      let e = get_or entries i d in
      let D = drop (i + 1) entries in
      ap (λ xs. take PAGE_LIMIT (xs ++ filter test D)) grown
      ∙ ap (take PAGE_LIMIT) (append_assoc old (e ∷ []) (filter test D))
      ∙ ap (λ xs. take PAGE_LIMIT (old ++ xs)) (sym (cond-true (test e) (e ∷ filter test D) (filter test D) holds))
      ∙ ap (λ xs. take PAGE_LIMIT (old ++ filter test xs)) (sym (drop_more entries i d low))

  pub passed_over : i < length entries → test (get_or entries i d) ≡ false → new ≡ old →
      take PAGE_LIMIT (new ++ filter test (drop (i + 1) entries)) ≡ take PAGE_LIMIT (old ++ filter test (drop i entries))
  passed_over low fails same =
      let e = get_or entries i d in
      let D = drop (i + 1) entries in
      ap (λ xs. take PAGE_LIMIT (xs ++ filter test D)) same
      ∙ ap (λ xs. take PAGE_LIMIT (old ++ xs)) (sym (cond-false (test e) (e ∷ filter test D) (filter test D) fails))
      ∙ ap (λ xs. take PAGE_LIMIT (old ++ filter test xs)) (sym (drop_more entries i d low))

pub no_more : (test : Entry → Bool) (entries : List Entry) (i : ℕ) (old : List Entry) → length entries ≤ i → length old ≤ PAGE_LIMIT →
    take PAGE_LIMIT (old ++ filter test (drop i entries)) ≡ old
no_more test entries i old past few =
    ap (λ xs. take PAGE_LIMIT (old ++ filter test xs)) (drop_all i entries past) ∙ ap (take PAGE_LIMIT) (append-nil old) ∙ take_all PAGE_LIMIT old few

-- ---- what a standing excludes

pub ruled_out : (w : PageFilter) (doc : Lines) (c : Case) (st : Standing) → not (admits w st) ≡ true → passes_filter w doc c st ≡ false
ruled_out w doc c st h = by_case (admits w st) h
  where
    by_case : (b : Bool) → not b ≡ true → (b && meets w.want.now doc c st) ≡ false
    by_case true k = absurd (true≢false (sym k))
    by_case false k = refl

-- otherwise the want decides
admitted : (w : PageFilter) (doc : Lines) (c : Case) (st : Standing) → not (admits w st) ≡ false → meets w.want.now doc c st ≡ passes_filter w doc c st
admitted w doc c st h = by_case (admits w st) h
  where
    by_case : (b : Bool) → not b ≡ false → meets w.want.now doc c st ≡ (b && meets w.want.now doc c st)
    by_case true k = refl
    by_case false k = absurd (true≢false k)

-- also by one with the same words
same_met : (copy want : Want) (doc : Lines) (c : Case) (st : Standing) → HasSameWords copy want → meets copy doc c st ≡ meets want doc c st
same_met copy want doc c st same =
    ap (λ x. meets_by x (option_map string_bytes copy.class) doc c st) same.needle ∙ ap (λ x. meets_by (option_map string_bytes want.needle) x doc c st) same.class

pub told_there : (s : State) (w : PageFilter) (copy : Want) (st : Standing) (o : Option Incident) (c : Case) → not (admits w st) ≡ false → Some c ≡ option_map (case_for s) o → HasSameWords copy w.want.now →
    option_map_or (λ (i : Incident). meets copy i.document c st) o false ≡ option_map_or (λ (i : Incident). passes_filter w i.document (case_for s i) st) o false
told_there s w copy st None c not_out judged same = refl
told_there s w copy st (Some i) c not_out judged same =
    let case : c ≡ case_for s i = cc in
    same_met copy w.want.now i.document c st same ∙ admitted w i.document c st not_out ∙ ap (λ x. passes_filter w i.document x st) case

pub none_told : (test : Incident → Bool) (o : Option Incident) → ((i : Incident) → test i ≡ false) → false ≡ option_map_or test o false
none_told test None h = refl
none_told test (Some i) h = sym (h i)

-- ---- what a gate at the root excludes

pub shut_told : (s : State) (w : PageFilter) (st : Standing) (o : Option Incident) (c : Case) → is_shut_out c st ≡ true → Some c ≡ option_map (case_for s) o →
    false ≡ option_map_or (λ (i : Incident). passes_filter w i.document (case_for s i) st) o false
shut_told s w st None c shut judged = refl
shut_told s w st (Some i) c shut judged =
    let case : c ≡ case_for s i = cc in
    sym (ap (λ x. passes_filter w i.document x st) (sym case) ∙ untold (admits w st) ((shut-tells-nothing i.document c st shut).met (option_map string_bytes w.want.now.needle) (option_map string_bytes w.want.now.class)))
  where
    untold : (b : Bool) {m : Bool} → m ≡ false → (b && m) ≡ false
    untold true h = h
    untold false h = refl
