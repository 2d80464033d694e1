-- The steps in which one incident has another document.
use Rattle.std.proofs.Common.{◌≡◌, ℕ, Bool, true, false, not, List, [], ◌∷◌, refl, sym, ◌∙◌, ap, subst, ◌&&◌, ◌||◌, ◌==◌, if◌then◌else◌, cond, inl, inr}
use Rattle.std.{proofs.lemmas.{Bool.{eqb-true, true≢false, cond-true, cond-false}, List.Elements.filter_agree}, specs.{List.AllByRecursion, Prelude.{ℤ, Some}}}
use Rattle.{std.specs.Prelude.{filter, find, map, Contains, option_map}, iodef_tree.proofs.{Filled.all-at, ReadSound.readings-are-documents}}
use Rattle.{iodef_tree.specs.{Laws.IsDocument, Text.is_prefix}, policy.specs.declared.gate.Gate.Gate as CaseGate}
use Rattle.{policy.specs.declared.{permission.Permission.Permission as CasePermission, standing.Standing.Standing}, redact.proofs.Filtered.filter-both}
use Rattle.redact.{proofs.{Filtered.{filter-within, filter-map}, ToldAlike.alike-told}, specs.{Alike.{IsMarked, is_hidden_from}, Told.{is_listed, finds}}}
use Rattle.{redact.specs.Told.{withheld_of, excerpt_of}, circle.specs.declared.directory.{Account.Account, Person.Person}, hub_core.specs.Documents.Lines}
use Rattle.hub_core.specs.{Reads.{standing_for, case_for, its_gates, its_permissions}, Sound.{IsSound, IsAccepted}, State.{State, incident_of, incident_number}}
use Rattle.hub_state.{proofs.Keeping.{not_both, turned, found_each}, specs.declared.state.{Gate.Gate, Incident.Incident, Permission.Permission}}
use Rattle.hub.proofs.{Numbered.all_found, OtherDocument.{other_of, redone, ToldOf, page-same, view-same, told-by}, OtherUnseen.known, Standings.standing_at-is}
use Rattle.hub.{proofs.ToldSame.TellsSame, specs.{Alike.{with_document, report_of, HasOtherPlainLines}, Told.{standing_at, is_served, is_found, is_addressed}}}
use Rattle.hub.specs.{Told.view_with, inner.Exchanged.HasExchangedClass}

-- what reading returns is a document
read-document : (doc : Lines) → IsAccepted doc → IsDocument doc
read-document doc h = subst IsDocument h.among.2 (all-at IsDocument h.docs h.among.0 doc h.among.1 (readings-are-documents h.body h.docs h.read))

-- the document of an incident of a sound state, with its markings
pub marked-document : (s : State) (i : Incident) → IsSound s → incident_of i.naming.number s ≡ Some i → IsMarked i.document
marked-document s i sound at =
    let accepted : IsAccepted i.document = found_each (λ (x : Incident). IsAccepted x.document) (λ (x : Incident). x.naming.number == i.naming.number) s.incidents i at sound.incidents.documents in
    record { document = read-document i.document accepted; marked = accepted.marked }

pub some-same : {X : Type 0} (x y : X) → Some x ≡ Some y → x ≡ y
some-same x y h = cc

-- with the same standing and case, the person learns the same of an incident
told-of-same : (now : ℤ) (p : Person) (s t : State) (i : Incident) → standing_for t now p i ≡ standing_for s now p i → case_for t i ≡ case_for s i → ToldOf now p s t i i
told-of-same now p s t i stands cases =
    let there : standing_at s now p i ≡ standing_at t now p i = standing_at-is s now p i ∙ sym stands ∙ sym (standing_at-is t now p i) in
    record {
      number = refl;
      entry = refl;
      served = ap (is_listed i.document (case_for s i)) there ∙ ap (λ c. is_listed i.document c (standing_at t now p i)) (sym cases);
      found = λ needle class. ap (λ x. finds i.document (case_for s i) x needle class) there ∙ ap (λ c. finds i.document c (standing_at t now p i) needle class) (sym cases);
      addressed = ap (λ (x : Standing). x.person || x.addressed) there;
      view = ap (λ x. option_map (view_with i) (excerpt_of i.document (case_for s i) x)) there ∙ ap (λ c. option_map (view_with i) (excerpt_of i.document c (standing_at t now p i))) (sym cases);
    }

pub find-other : (n : ℕ) (doc : Lines) (xs : List Incident) → find (λ (i : Incident). i.naming.number == n) (map (other_of n doc) xs) ≡ option_map (redone doc) (find (λ (i : Incident). i.naming.number == n) xs)
find-other n doc [] = refl
find-other n doc (x ∷ xs) = by_test (x.naming.number == n) refl (find-other n doc xs)
  where
    by_test : (b : Bool) → (x.naming.number == n) ≡ b → find (λ (i : Incident). i.naming.number == n) (map (other_of n doc) xs) ≡ option_map (redone doc) (find (λ (i : Incident). i.naming.number == n) xs) →
        (let y = (if b then redone doc x else x) in cond (y.naming.number == n) (Some y) (find (λ (i : Incident). i.naming.number == n) (map (other_of n doc) xs)))
        ≡ option_map (redone doc) (cond b (Some x) (find (λ (i : Incident). i.naming.number == n) xs))
    by_test true k ih = cond-true (x.naming.number == n) _ _ k
    by_test false k ih = cond-false (x.naming.number == n) _ _ k ∙ ih

module _ (now : ℤ) (a : Account) (s : State) (ss : IsSound s) (there : Contains s.directory.accounts a) (i : Incident) (doc : Lines) (at : incident_of i.naming.number s ≡ Some i)
    (gates : List Gate) (permissions : List Permission) where
  abbrev u : State
  u = record s { incidents = with_document i.naming.number doc s.incidents; gates = gates; permissions = permissions }

  pub at-other : incident_of i.naming.number u ≡ Some (redone doc i)
  at-other = find-other i.naming.number doc s.incidents ∙ ap (option_map (redone doc)) at

  module _ (su : IsSound u) (here : ToldOf now a.person s u i (redone doc i)) (elsewhere : (x : Incident) → (x.naming.number == i.naming.number) ≡ false → case_for u x ≡ case_for s x) where
    each : (xs : List Incident) → AllByRecursion (λ (x : Incident). incident_of x.naming.number s ≡ Some x) xs → AllByRecursion (λ x. ToldOf now a.person s u x (other_of i.naming.number doc x)) xs
    each [] h = tt
    each (x ∷ xs) h = (by_test (x.naming.number == i.naming.number) refl, each xs h.1)
      where
        by_test : (b : Bool) → (x.naming.number == i.naming.number) ≡ b → ToldOf now a.person s u x (if b then redone doc x else x)
        by_test true k = subst (λ y. ToldOf now a.person s u y (redone doc y))
            (some-same i x (sym at ∙ ap (λ n. incident_of n s) (sym (eqb-true x.naming.number i.naming.number k)) ∙ h.0)) here
        by_test false k = told-of-same now a.person s u x refl (elsewhere x k)

    pub exchanged-told : TellsSame now a s u
    exchanged-told =
        let all = each s.incidents (all_found incident_number 0 s.incidents ss.incidents.numbered.0) in
        let e = other_of i.naming.number doc in
        record {
          first = known s a ss there;
          second = known u a su there;
          groups = refl;
          view = view-same now a.person s u e refl all;
          listed = λ n. page-same now a.person s u e refl all (is_served s now a.person) (is_served u now a.person) n (λ x h. h.served);
          found = λ needle class n. page-same now a.person s u e refl all (λ x. is_found s now a.person x needle class) (λ x. is_found u now a.person x needle class) n (λ x h. h.found needle class);
          addressed = λ n. page-same now a.person s u e refl all (λ x. is_addressed s now a.person x && is_served s now a.person x) (λ x. is_addressed u now a.person x && is_served u now a.person x) n
              (λ x h. ap (λ b. b && is_served s now a.person x) h.addressed ∙ ap (λ b. is_addressed u now a.person (e x) && b) h.served);
        }

pub plain-step : (now : ℤ) (a : Account) (s t : State) → IsSound s → IsSound t → Contains s.directory.accounts a → HasOtherPlainLines now a s t → TellsSame now a s t × Contains t.directory.accounts a
plain-step now a s t ss st there h = subst (λ w. TellsSame now a s w × Contains w.directory.accounts a) (sym h.after) (told, there)
  where
    told : TellsSame now a s (record s { incidents = with_document h.incident.naming.number h.document s.incidents })
    told = exchanged-told now a s ss there h.incident h.document h.there s.gates s.permissions (subst IsSound h.after st)
        (told-by now a.person s (record s { incidents = with_document h.incident.naming.number h.document s.incidents }) h.incident h.document refl
        (alike-told (standing_at s now a.person h.incident) (report_of s h.incident h.incident.document) (report_of s h.incident h.document)
        (marked-document s h.incident ss h.there)
        (marked-document (record s { incidents = with_document h.incident.naming.number h.document s.incidents }) (redone h.document h.incident) (subst IsSound h.after st)
        (at-other now a s ss there h.incident h.document h.there s.gates s.permissions))
        (inl (h.path, h.lines))))
        (λ x k. refl)

-- ---- another hidden class

-- the rows of the incident that aren't within, with either test first
of_then : (of within : Bool) → (of && not within) ≡ (not (of && within) && of)
of_then true true = refl
of_then true false = refl
of_then false true = refl
of_then false false = refl

of_gone : (of within : Bool) → not (of && within) ≡ false → of ≡ true
of_gone true within h = refl
of_gone false within h = absurd (true≢false h)

within-of : {X : Type 0} (of within : X → Bool) (xs ys : List X) → filter (λ x. not (of x && within x)) xs ≡ filter (λ x. not (of x && within x)) ys →
    filter (λ x. not (within x)) (filter of xs) ≡ filter (λ x. not (within x)) (filter of ys)
within-of {X} of within xs ys h = one xs ∙ ap (filter of) h ∙ sym (one ys)
  where
    one : (zs : List X) → filter (λ x. not (within x)) (filter of zs) ≡ filter of (filter (λ x. not (of x && within x)) zs)
    one zs = filter-both (λ x. not (within x)) of zs ∙ filter_agree (λ x. of x && not (within x)) (λ x. not (of x && within x) && of x) (λ x. of_then (of x) (within x)) zs
        ∙ sym (filter-both of (λ x. not (of x && within x)) zs)

pub of-others : {X : Type 0} (number : X → ℕ) (within : X → Bool) (n m : ℕ) (xs ys : List X) → (m == n) ≡ false → filter (λ x. not (number x == n && within x)) xs ≡ filter (λ x. not (number x == n && within x)) ys →
    filter (λ x. number x == m) xs ≡ filter (λ x. number x == m) ys
of-others {X} number within n m xs ys k h =
    let no : (x : X) → not (number x == n && within x) ≡ false → (number x == m) ≡ false = λ x gone. not_both (number x) n m (turned m n k) (of_gone (number x == n) (within x) gone) in
    filter-within (λ x. number x == m) (λ x. not (number x == n && within x)) xs no ∙ ap (filter (λ x. number x == m)) h ∙ sym (filter-within (λ x. number x == m) (λ x. not (number x == n && within x)) ys no)

pub hidden-step : (now : ℤ) (a : Account) (s t : State) → IsSound s → IsSound t → Contains s.directory.accounts a → HasExchangedClass now a s t → TellsSame now a s t × Contains t.directory.accounts a
hidden-step now a s t ss st there h =
    subst (λ w. TellsSame now a s w × Contains w.directory.accounts a) (sym h.after) (hidden-told now a s t ss st there h, there)
  where
    hidden-told : (now : ℤ) (a : Account) (s t : State) → IsSound s → IsSound t → Contains s.directory.accounts a → (h : HasExchangedClass now a s t) →
        TellsSame now a s (record s { incidents = with_document h.incident.naming.number h.document s.incidents; gates = t.gates; permissions = t.permissions })
    hidden-told now a s t ss st there h =
        let i = h.incident in
        let n = h.incident.naming.number in
        let p = h.path in
        let su : IsSound (record s { incidents = with_document h.incident.naming.number h.document s.incidents; gates = t.gates; permissions = t.permissions }) = subst IsSound h.after st in
        let w : State = record s { incidents = with_document h.incident.naming.number h.document s.incidents; gates = t.gates; permissions = t.permissions } in
        let stands : standing_at t now a.person i ≡ standing_at s now a.person i =
        standing_at-is t now a.person i ∙ ap (λ x. standing_for x now a.person i) h.after ∙ sym (standing_at-is s now a.person i) in
        exchanged-told now a s ss there i h.document h.there t.gates t.permissions su
        (told-by now a.person s (record s { incidents = with_document h.incident.naming.number h.document s.incidents; gates = t.gates; permissions = t.permissions }) i h.document refl
        (alike-told (standing_at s now a.person i) (report_of s i i.document) (record { lines = h.document; case = case_for t i })
        (marked-document s i ss h.there)
        (marked-document (record s { incidents = with_document h.incident.naming.number h.document s.incidents; gates = t.gates; permissions = t.permissions }) (redone h.document i) su (at-other now a s ss there i h.document h.there t.gates t.permissions))
        (inr (inl (
          p,
          record {
            below_root = h.below_root;
            first = h.first;
            second = ap (λ x. is_hidden_from x p (report_of t i h.document)) (sym stands) ∙ h.second;
            others = record {
              lines = h.others;
              source = refl;
              gates = filter-map (λ (g : CaseGate). not (is_prefix p g.path)) (λ (g : Gate). g.gate) (filter (λ (g : Gate). g.incident == n) s.gates)
                  ∙ ap (map (λ (g : Gate). g.gate)) (within-of (λ (g : Gate). g.incident == n) (λ (g : Gate). is_prefix p g.gate.path) s.gates t.gates h.gates)
                  ∙ sym (filter-map (λ (g : CaseGate). not (is_prefix p g.path)) (λ (g : Gate). g.gate) (filter (λ (g : Gate). g.incident == n) t.gates));
              permissions = filter-map (λ (x : CasePermission). not (is_prefix p x.path)) (λ (x : Permission). x.permission) (filter (λ (x : Permission). x.incident == n) s.permissions)
                  ∙ ap (map (λ (x : Permission). x.permission)) (within-of (λ (x : Permission). x.incident == n) (λ (x : Permission). is_prefix p x.permission.path) s.permissions t.permissions h.permissions)
                  ∙ sym (filter-map (λ (x : CasePermission). not (is_prefix p x.path)) (λ (x : Permission). x.permission) (filter (λ (x : Permission). x.incident == n) t.permissions));
            };
            withheld = h.withheld ∙ ap (withheld_of h.document (case_for t i)) (same-at now a s t h);
          },
        )))))
        (λ x k. ap (λ gs. record { source = x.naming.source; community = x.naming.community; gates = map (λ (g : Gate). g.gate) gs; permissions = its_permissions x.naming.number t.permissions })
        (sym (of-others (λ (g : Gate). g.incident) (λ (g : Gate). is_prefix p g.gate.path) n x.naming.number s.gates t.gates k h.gates))
        ∙ ap (λ xs. record { source = x.naming.source; community = x.naming.community; gates = its_gates x.naming.number s.gates; permissions = map (λ (y : Permission). y.permission) xs })
        (sym (of-others (λ (y : Permission). y.incident) (λ (y : Permission). is_prefix p y.permission.path) n x.naming.number s.permissions t.permissions k h.permissions)))
      where
        same-at : (now : ℤ) (a : Account) (s t : State) (h : HasExchangedClass now a s t) → standing_at t now a.person (record h.incident { document = h.document }) ≡ standing_at s now a.person h.incident
        same-at now a s t h = standing_at-is t now a.person (record h.incident { document = h.document }) ∙ ap (λ x. standing_for x now a.person h.incident) h.after ∙ sym (standing_at-is s now a.person h.incident)
