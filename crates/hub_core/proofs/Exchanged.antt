-- A Replace leaves a sound state.
use Rattle.std.proofs.Common.{◌≡◌, ℕ, ◌+◌, ◌≤◌, ◌<◌, ◌==◌, ◌&&◌, ◌||◌, Bool, true, false, not, if◌then◌else◌, List, [], ◌∷◌, map, filter, Option, Some, None}
use Rattle.std.proofs.{Common.{refl, sym, ap, ◌∙◌, subst, arith}, lemmas.Bool.{and_parts, eq-eqb, eqb-true, not-true, not_from_false, Decides.nat_tests}}
use Rattle.{std.specs.{Option.option_map_or, Ordering.{is_lt, nat_cmp}, Prelude.{count_by, find}}, iodef_tree.specs.{Json.incident_id, Text.{Bytes, Tokens}}}
use Rattle.{iodef_tree.specs.Text.is_root, circle.proofs.Keeping.{each_put, each_left, each_weaker, each_map, pairs_left, numbered_map, differ_map, names_map}}
use Rattle.circle.{proofs.Kept.same_when, specs.{Directory.Directory, Ordered.{put_by, by_number}, Sound.{Each, CountsFrom, IsOrg}}}
use Rattle.hub_state.proofs.Keeping.{never, numbers_above, not_both, turned, found_each, find_put, find_new, find_left, each_passed, each_passes, count_kept}
use Rattle.hub_state.{proofs.Keeping.{count_left, at_most}, specs.{Aftermath.next_row, Documents.{Lines, is_class_in}, Requests.incident_facts, Sound.IsSound}}
use Rattle.hub_state.specs.{Sound.{SoundIncidents, SoundRecipients, SoundPermissions, IsAccepted, IsIncident, IsCommunityIfAny}, State.{State, incident_number}}
use Rattle.hub_state.specs.{State.{incident_in, incident_of, root_gates, class_gates, recipients_of, permissions_of}, declared.TheConstants.INCIDENT_LIMIT}
use Rattle.hub_state.specs.declared.{TheConstants.{REVISION_LIMIT, GATE_LIMIT, RECIPIENT_LIMIT, PERMISSION_LIMIT}, request.Distribution.Distribution}
use Rattle.{hub_state.specs.declared.state.{Gate.Gate, Incident.Incident, Permission.Permission}, hub_core.proofs.Gated.{IsBeside, put_all, given}}
use Rattle.hub_core.proofs.Posted.{Wishes, StandAtClasses, wanted_at}

-- ---- a row taken out and put back is exchanged

abbrev others : ℕ → List Incident → List Incident
others n = filter (λ (i : Incident). not (i.naming.number == n))

abbrev exchange : ℕ → (Incident → Incident) → List Incident → List Incident
exchange n f = map (λ (i : Incident). if i.naming.number == n then f i else i)

differs : (m n k : ℕ) → n ≡ k → k < m → (m == n) ≡ false
differs m n k is h = grind (arith, nat_tests)

before : (a b : ℕ) → a < b → is_lt (nat_cmp a b) ≡ true
before a b h = grind (arith, nat_tests)

behind : (a b : ℕ) → b < a → is_lt (nat_cmp a b) ≡ false
behind a b h = grind (arith, nat_tests)

others_all : (n : ℕ) (xs : List Incident) → Each (λ (i : Incident). (i.naming.number == n) ≡ false) xs → others n xs ≡ xs
others_all n [] h = refl
others_all n (x ∷ xs) h = ap (λ b. if not b then x ∷ others n xs else others n xs) h.0 ∙ ap (λ ys. x ∷ ys) (others_all n xs h.1)

exchange_none : (n : ℕ) (f : Incident → Incident) (xs : List Incident) → Each (λ (i : Incident). (i.naming.number == n) ≡ false) xs → exchange n f xs ≡ xs
exchange_none n f [] h = refl
exchange_none n f (x ∷ xs) h = ap (λ b. (if b then f x else x) ∷ exchange n f xs) h.0 ∙ ap (λ ys. x ∷ ys) (exchange_none n f xs h.1)

put_first : (x : Incident) (xs : List Incident) → Each (λ (i : Incident). is_lt (nat_cmp x.naming.number i.naming.number) ≡ true) xs → put_by (by_number incident_number) x xs ≡ x ∷ xs
put_first x [] h = refl
put_first x (y ∷ ys) h = ap (λ b. if b then x ∷ y ∷ ys else y ∷ put_by (by_number incident_number) x ys) h.0

put_back : (n k : ℕ) (f : Incident → Incident) (xs : List Incident) (i : Incident) → ((x : Incident) → (f x).naming.number ≡ x.naming.number) → CountsFrom incident_number k xs → find (λ (x : Incident). x.naming.number == n) xs ≡ Some i → i.naming.number ≡ n →
    put_by (by_number incident_number) (f i) (others n xs) ≡ exchange n f xs
put_back n k f [] i same counts found is = absurd (nothing found)
  where
    nothing : None ≡ Some i → ⊥
    nothing e = cc
put_back n k f (x ∷ xs) i same counts found is = split (x.naming.number == n) refl (put_back n (k + 1) f xs i same counts.1)
  where
    split : (b : Bool) → (x.naming.number == n) ≡ b → (find (λ (x : Incident). x.naming.number == n) xs ≡ Some i → i.naming.number ≡ n → put_by (by_number incident_number) (f i) (others n xs) ≡ exchange n f xs)
        → put_by (by_number incident_number) (f i) (others n (x ∷ xs)) ≡ exchange n f (x ∷ xs)
    split true here rest =
        let first : x.naming.number ≡ k + 1 = counts.0 in
        let at : x.naming.number ≡ n = eqb-true x.naming.number n here in
        let one : Some x ≡ Some i = sym (ap (λ b. if b then Some x else find (λ (x : Incident). x.naming.number == n) xs) here) ∙ found in
        let it : x ≡ i = cc (one) in
        let up = numbers_above incident_number (k + 1) xs counts.1 in
        let none : Each (λ (y : Incident). (y.naming.number == n) ≡ false) xs = each_weaker (λ (y : Incident). k + 1 < y.naming.number) (λ (y : Incident). (y.naming.number == n) ≡ false) xs (λ y e. differs y.naming.number n (k + 1) (sym at ∙ first) e) up in
        let low : Each (λ (y : Incident). is_lt (nat_cmp (f i).naming.number y.naming.number) ≡ true) xs = each_weaker (λ (y : Incident). k + 1 < y.naming.number) (λ (y : Incident). is_lt (nat_cmp (f i).naming.number y.naming.number) ≡ true) xs (λ y e. before (f i).naming.number y.naming.number (subst (λ m. m < y.naming.number) (sym (same i ∙ (is ∙ (sym at ∙ first)))) e)) up in
        ap (λ b. put_by (by_number incident_number) (f i) (if not b then x ∷ others n xs else others n xs)) here
        ∙ (ap (put_by (by_number incident_number) (f i)) (others_all n xs none)
        ∙ (put_first (f i) xs low
        ∙ (ap (λ y. f y ∷ xs) (sym it)
        ∙ (ap (λ ys. f x ∷ ys) (sym (exchange_none n f xs none))
        ∙ ap (λ b. (if b then f x else x) ∷ exchange n f xs) (sym here)))))
    split false here rest =
        let first : x.naming.number ≡ k + 1 = counts.0 in
        let later : find (λ (x : Incident). x.naming.number == n) xs ≡ Some i = sym (ap (λ b. if b then Some x else find (λ (x : Incident). x.naming.number == n) xs) here) ∙ found in
        let up : k + 1 < i.naming.number = found_each (λ (y : Incident). k + 1 < y.naming.number) (λ (x : Incident). x.naming.number == n) xs i later (numbers_above incident_number (k + 1) xs counts.1) in
        let past : is_lt (nat_cmp (f i).naming.number x.naming.number) ≡ false = behind (f i).naming.number x.naming.number (subst (λ m. x.naming.number < m) (sym (same i)) (omega arith)) in
        ap (λ b. put_by (by_number incident_number) (f i) (if not b then x ∷ others n xs else others n xs)) here
        ∙ (ap (λ b. if b then f i ∷ x ∷ others n xs else x ∷ put_by (by_number incident_number) (f i) (others n xs)) past
        ∙ (ap (λ ys. x ∷ ys) (rest later is)
        ∙ ap (λ b. (if b then f x else x) ∷ exchange n f xs) (sym here)))

-- no other row has this number
only_one : (n k : ℕ) (xs : List Incident) (i : Incident) → CountsFrom incident_number k xs → find (λ (x : Incident). x.naming.number == n) xs ≡ Some i → Each (λ (y : Incident). (y.naming.number == n) ≡ true → y ≡ i) xs
only_one n k [] i counts found = tt
only_one n k (x ∷ xs) i counts found = split (x.naming.number == n) refl (only_one n (k + 1) xs i counts.1)
  where
    split : (b : Bool) → (x.naming.number == n) ≡ b → (find (λ (x : Incident). x.naming.number == n) xs ≡ Some i → Each (λ (y : Incident). (y.naming.number == n) ≡ true → y ≡ i) xs) → Each (λ (y : Incident). (y.naming.number == n) ≡ true → y ≡ i) (x ∷ xs)
    split true here rest =
        let first : x.naming.number ≡ k + 1 = counts.0 in
        let at : x.naming.number ≡ n = eqb-true x.naming.number n here in
        let one : Some x ≡ Some i = sym (ap (λ b. if b then Some x else find (λ (x : Incident). x.naming.number == n) xs) here) ∙ found in
        let it : x ≡ i = cc (one) in
        ((λ e. it), each_weaker (λ (y : Incident). k + 1 < y.naming.number) (λ (y : Incident). (y.naming.number == n) ≡ true → y ≡ i) xs (λ y e at_y. never (y.naming.number == n) at_y (differs y.naming.number n (k + 1) (sym at ∙ first) e)) (numbers_above incident_number (k + 1) xs counts.1))
    split false here rest = ((λ e. never (x.naming.number == n) e here), rest (sym (ap (λ b. if b then Some x else find (λ (x : Incident). x.naming.number == n) xs) here) ∙ found))

-- what holds of each row and of the new one, holds of each after the exchange
each_exchanged : (P : Incident → Type 0) (n : ℕ) (f : Incident → Incident) (i : Incident) (xs : List Incident) → Each (λ (y : Incident). (y.naming.number == n) ≡ true → y ≡ i) xs → P (f i) → Each P xs → Each P (exchange n f xs)
each_exchanged P n f i [] only here all = tt
each_exchanged P n f i (x ∷ xs) only here all = (split (x.naming.number == n) refl, each_exchanged P n f i xs only.1 here all.1)
  where
    split : (b : Bool) → (x.naming.number == n) ≡ b → P (if x.naming.number == n then f x else x)
    split true is = subst (λ b. P (if b then f x else x)) (sym is) (subst (λ y. P (f y)) (sym (only.0 is)) here)
    split false is = subst (λ b. P (if b then f x else x)) (sym is) all.0

-- ---- the incidents

abbrev revised : Option ℕ → Lines → Incident → Incident
revised community doc i = next_row i.naming.number (incident_facts i) community doc

abbrev put_revised : Option ℕ → Lines → Incident → List Incident → List Incident
put_revised community doc i incidents = put_by (by_number incident_number) (revised community doc i) (others i.naming.number incidents)

-- a document that may replace the incident's own
pub record MayFollow (doc : Lines) (i : Incident) : Type 0 where
  pub accepted : IsAccepted doc
  pub named : incident_id doc ≡ Some i.naming.ident
  pub room : i.naming.revision + 1 ≤ REVISION_LIMIT

is_exchange : (s : State) (i : Incident) (community : Option ℕ) (doc : Lines) → IsSound s → incident_of i.naming.number s ≡ Some i → put_revised community doc i s.incidents ≡ exchange i.naming.number (revised community doc) s.incidents
is_exchange s i community doc h found = put_back i.naming.number 0 (revised community doc) s.incidents i (λ x. refl) h.incidents.numbered.0 found refl

exchanged_map : (d : Directory) (n : ℕ) (community : Option ℕ) (doc : Lines) (i : Incident) (incidents : List Incident) → SoundIncidents d incidents → Each (λ (y : Incident). (y.naming.number == n) ≡ true → y ≡ i) incidents → IsCommunityIfAny d.communities community → MayFollow doc i →
    SoundIncidents d (exchange n (revised community doc) incidents)
exchanged_map d n community doc i incidents h only there new =
    let g : Incident → Incident = λ (y : Incident). if y.naming.number == n then revised community doc y else y in
    record {
      numbered = numbered_map incident_number INCIDENT_LIMIT g incidents (λ y. same_when incident_number (y.naming.number == n) (revised community doc y) y refl) h.numbered;
      idents = differ_map {K = ℕ × Bytes} (λ (y : Incident). (y.naming.source, y.naming.ident)) g incidents (λ y. same_when (λ (x : Incident). let pair : ℕ × Bytes = (x.naming.source, x.naming.ident) in pair) (y.naming.number == n) (revised community doc y) y refl) h.idents;
      sources = each_map (λ (y : Incident). IsOrg d.orgs y.naming.source) g incidents (λ y e. subst (IsOrg d.orgs) (sym (same_when (λ (x : Incident). x.naming.source) (y.naming.number == n) (revised community doc y) y refl)) e) h.sources;
      revisions = each_exchanged (λ (y : Incident). y.naming.revision ≤ REVISION_LIMIT) n (revised community doc) i incidents only new.room h.revisions;
      communities = each_exchanged (λ (y : Incident). IsCommunityIfAny d.communities y.naming.community) n (revised community doc) i incidents only there h.communities;
      documents = each_exchanged (λ (y : Incident). IsAccepted y.document) n (revised community doc) i incidents only new.accepted h.documents;
      follow = each_exchanged (λ (y : Incident). incident_id y.document ≡ Some y.naming.ident) n (revised community doc) i incidents only new.named h.follow;
    }

incidents_exchanged : (s : State) (i : Incident) (community : Option ℕ) (doc : Lines) → IsSound s → incident_of i.naming.number s ≡ Some i → IsCommunityIfAny s.directory.communities community → MayFollow doc i → SoundIncidents s.directory (put_revised community doc i s.incidents)
incidents_exchanged s i community doc h found there new =
    subst (SoundIncidents s.directory) (sym (is_exchange s i community doc h found))
    (exchanged_map s.directory i.naming.number community doc i s.incidents h.incidents (only_one i.naming.number 0 s.incidents i h.incidents.numbered.0 found) there new)

-- ---- the other incidents are found as before

found_before : (m : ℕ) (i : Incident) (community : Option ℕ) (doc : Lines) (incidents : List Incident) → (m == i.naming.number) ≡ false → incident_in m (put_revised community doc i incidents) ≡ incident_in m incidents
found_before m i community doc incidents other =
    find_put (λ (x : Incident). x.naming.number == m) (by_number incident_number) (revised community doc i) (others i.naming.number incidents) (turned m i.naming.number other)
    ∙ find_left (λ (x : Incident). x.naming.number == m) (λ (x : Incident). not (x.naming.number == i.naming.number)) incidents (λ x h. not_from_false (x.naming.number == i.naming.number) (not_both x.naming.number m i.naming.number other h))

holds_before : (test : Incident → Bool) (m : ℕ) (i : Incident) (community : Option ℕ) (doc : Lines) (incidents : List Incident) → (m == i.naming.number) ≡ false → option_map_or test (incident_in m incidents) false ≡ true → option_map_or test (incident_in m (put_revised community doc i incidents)) false ≡ true
holds_before test m i community doc incidents other h = ap (λ o. option_map_or test o false) (found_before m i community doc incidents other) ∙ h

-- ---- the gates and permissions that remain

abbrev gates_beside : ℕ → List Gate → List Gate
gates_beside n = filter (λ (g : Gate). not (g.incident == n))

abbrev permissions_beside : ℕ → List Permission → List Permission
permissions_beside n = filter (λ (x : Permission). not (x.incident == n))

-- all of another incident's stay
count_beside : (test : Tokens → Bool) (m n : ℕ) (gates : List Gate) → (n == m) ≡ false → count_by (λ (g : Gate). g.incident == m && test g.gate.path) (gates_beside n gates) ≡ count_by (λ (g : Gate). g.incident == m && test g.gate.path) gates
count_beside test m n gates other = count_kept (λ (g : Gate). g.incident == m && test g.gate.path) (λ (g : Gate). not (g.incident == n)) gates
    (λ g h. not_from_false (g.incident == n) (not_both g.incident m n (turned n m other) (and_parts (g.incident == m) (test g.gate.path) h).0))

beside : (s : State) (i : Incident) (community : Option ℕ) (doc : Lines) → IsSound s → IsBeside s.directory.groups (put_revised community doc i s.incidents) i.naming.number (gates_beside i.naming.number s.gates)
beside s i community doc h =
    let n = i.naming.number in
    record {
      rising = pairs_left _ (λ (g : Gate). not (g.incident == n)) s.gates h.gates.rising;
      places = each_passed _ _ (λ (g : Gate). not (g.incident == n)) s.gates (λ g other e. holds_before (λ (x : Incident). is_root g.gate.path || is_class_in x.document g.gate.path) g.incident i community doc s.incidents (not-true (g.incident == n) other) e) h.gates.places;
      ends = each_left _ (λ (g : Gate). not (g.incident == n)) s.gates h.gates.ends;
      others = each_weaker _ _ (gates_beside n s.gates) (λ g e. not-true (g.incident == n) e) (each_passes (λ (g : Gate). not (g.incident == n)) s.gates);
      roots = each_put (λ (x : Incident). (n == x.naming.number) ≡ false → root_gates x.naming.number (gates_beside n s.gates) ≡ 1) (by_number incident_number) (revised community doc i) (others n s.incidents) (λ e. never (n == n) (eq-eqb n n refl) e)
          (each_left _ (λ (x : Incident). not (x.naming.number == n)) s.incidents (each_weaker _ _ s.incidents (λ x e other. count_beside is_root x.naming.number n s.gates other ∙ e) h.gates.roots));
      limit = each_put (λ (x : Incident). (n == x.naming.number) ≡ false → class_gates x.naming.number (gates_beside n s.gates) ≤ GATE_LIMIT) (by_number incident_number) (revised community doc i) (others n s.incidents) (λ e. never (n == n) (eq-eqb n n refl) e)
          (each_left _ (λ (x : Incident). not (x.naming.number == n)) s.incidents (each_weaker _ _ s.incidents (λ x e other. subst (λ k. k ≤ GATE_LIMIT) (sym (count_beside (λ p. not (is_root p)) x.naming.number n s.gates other)) e) h.gates.limit));
    }

recipients_stay : (s : State) (i : Incident) (community : Option ℕ) (doc : Lines) → IsSound s → incident_of i.naming.number s ≡ Some i → SoundRecipients s.directory (put_revised community doc i s.incidents) s.recipients
recipients_stay s i community doc h found =
    let n = i.naming.number in
    let here : recipients_of n s.recipients ≤ RECIPIENT_LIMIT = found_each (λ (x : Incident). recipients_of x.naming.number s.recipients ≤ RECIPIENT_LIMIT) (λ (x : Incident). x.naming.number == n) s.incidents i found h.recipients.limit in
    record {
      rising = h.recipients.rising;
      ends = each_weaker _ _ s.recipients (λ r e. subst (λ is. IsIncident is r.incident) (sym (is_exchange s i community doc h found)) (names_map incident_number (λ (y : Incident). if y.naming.number == n then revised community doc y else y) s.incidents r.incident (λ y. same_when incident_number (y.naming.number == n) (revised community doc y) y refl) e)) h.recipients.ends;
      targets = h.recipients.targets;
      limit = each_put (λ (x : Incident). recipients_of x.naming.number s.recipients ≤ RECIPIENT_LIMIT) (by_number incident_number) (revised community doc i) (others n s.incidents) here (each_left _ (λ (x : Incident). not (x.naming.number == n)) s.incidents h.recipients.limit);
    }

permissions_stay : (s : State) (i : Incident) (community : Option ℕ) (doc : Lines) → IsSound s → incident_of i.naming.number s ≡ Some i → SoundPermissions s.directory (put_revised community doc i s.incidents) (permissions_beside i.naming.number s.permissions)
permissions_stay s i community doc h found =
    let n = i.naming.number in
    let fewer : Each (λ (x : Incident). permissions_of x.naming.number (permissions_beside n s.permissions) ≤ PERMISSION_LIMIT) s.incidents =
    each_weaker _ _ s.incidents (λ x e. at_most _ _ PERMISSION_LIMIT (count_left (λ (y : Permission). y.incident == x.naming.number) (λ (y : Permission). not (y.incident == n)) s.permissions) e) h.permissions.limit in
    record {
      rising = pairs_left _ (λ (x : Permission). not (x.incident == n)) s.permissions h.permissions.rising;
      places = each_passed _ _ (λ (x : Permission). not (x.incident == n)) s.permissions (λ x other e. holds_before (λ (y : Incident). is_class_in y.document x.permission.path) x.incident i community doc s.incidents (not-true (x.incident == n) other) e) h.permissions.places;
      grantees = each_left _ (λ (x : Permission). not (x.incident == n)) s.permissions h.permissions.grantees;
      limit = each_put (λ (x : Incident). permissions_of x.naming.number (permissions_beside n s.permissions) ≤ PERMISSION_LIMIT) (by_number incident_number) (revised community doc i) (others n s.incidents)
          (found_each (λ (x : Incident). permissions_of x.naming.number (permissions_beside n s.permissions) ≤ PERMISSION_LIMIT) (λ (x : Incident). x.naming.number == n) s.incidents i found fewer) (each_left _ (λ (x : Incident). not (x.naming.number == n)) s.incidents fewer);
    }

-- ---- the state at the end

abbrev pub with_document : State → Incident → Distribution → Lines → State
with_document s i d doc = record s {
  incidents = put_revised d.community doc i s.incidents;
  gates = put_all i.naming.number d (gates_beside i.naming.number s.gates);
  permissions = permissions_beside i.naming.number s.permissions;
}

pub exchanged : (s : State) (i : Incident) (d : Distribution) (doc : Lines) → IsSound s → incident_of i.naming.number s ≡ Some i → MayFollow doc i → StandAtClasses d.gates doc → Wishes s.directory d →
    IsSound (with_document s i d doc)
exchanged s i d doc h found new classes wishes =
    let n = i.naming.number in
    let incidents : List Incident = put_revised d.community doc i s.incidents in
    let row : Incident = revised d.community doc i in
    let there : incident_in n incidents ≡ Some row =
    find_new (λ (x : Incident). x.naming.number == n) (by_number incident_number) row (others n s.incidents) (eq-eqb n n refl) (each_weaker _ _ (others n s.incidents) (λ x e. not-true (x.naming.number == n) e) (each_passes (λ (x : Incident). not (x.naming.number == n)) s.incidents)) in
    record {
      directory = h.directory;
      incidents = incidents_exchanged s i d.community doc h found wishes.there.community new;
      gates = given s.directory.groups incidents n d (gates_beside n s.gates) row there wishes.there.group (wanted_at s.directory incidents n d row there wishes classes) wishes.once wishes.few (beside s i d.community doc h);
      recipients = recipients_stay s i d.community doc h found;
      permissions = permissions_stay s i d.community doc h found;
    }
