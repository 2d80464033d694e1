-- Sound states that are equal but for a hidden class: that class of an incident is exchanged.
use Rattle.std.proofs.{Common.{◌≡◌, ℕ, Bool, true, false, List, [], ◌∷◌, refl, sym, ◌∙◌, ap, subst, ◌==◌, if◌then◌else◌}, lemmas.Bool.{eqb-true, false≢true}}
use Rattle.std.specs.{List.AllByRecursion, Option.option_map_or, Prelude.{ℤ, Option, Some, None, map, option_map, unwrap_or}}
use Rattle.{iodef_tree.specs.{Json.incident_id, Paths.LocatedLine, Text.Tokens}, redact.specs.{Alike.{is_within, lines_but, is_hidden_from}, Told.withheld_of}}
use Rattle.{redact.specs.Withheld.Withheld, circle.specs.declared.directory.Account.Account, hub_core.specs.{Documents.{Lines, ident_of}, Reads.case_for}}
use Rattle.{hub_core.specs.{Sound.IsSound, State.{State, incident_of, incident_number}}, hub_state.proofs.Keeping.{found_each, found_is}}
use Rattle.{hub_state.specs.declared.state.Incident.Incident, hub.proofs.{Numbered.all_found, OtherDocument.{other_of, redone}, OtherLines.find-other}}
use Rattle.hub.{proofs.{OtherLines.some-same, Standings.standing_at-is}, specs.Alike.{HasOtherHiddenClass, gates_but_at, incident_but, is_own, parts_but}}
use Rattle.hub.specs.{Alike.{permissions_but_at, report_of, with_document}, Told.standing_at, inner.Exchanged.{HasExchangedClass, HiddenClassesAgree}}

abbrev Parts : Type 0
Parts = Incident × List LocatedLine

abbrev head_or : Parts → List Parts → Parts
head_or d [] = d
head_or d (x ∷ xs) = x

abbrev rest_of : List Parts → List Parts
rest_of [] = []
rest_of (x ∷ xs) = xs

abbrev is_empty : List Parts → Bool
is_empty [] = true
is_empty (x ∷ xs) = false

-- what is found, if a test of it holds
found_with : {X : Type 0} (test : X → Bool) (o : Option X) → option_map_or test o false ≡ true → (x : X) × (o ≡ Some x) × (test x ≡ true)
found_with test None h = absurd (false≢true h)
found_with test (Some x) h = (x, refl, h)

module _ (n : ℕ) (p : Tokens) where
  abbrev pick : Bool → Incident → Parts
  pick b x = if b then parts_but p x else (x, [])

  abbrev with_lines : Incident → List LocatedLine → Parts
  with_lines x ls = (record x { naming = record x.naming { ident = [] }; document = [] }, ls)

  but_of : (x : Incident) → (x.naming.number == n) ≡ true → incident_but n p x ≡ parts_but p x
  but_of x k = ap (λ b. pick b x) k

  but_other : (x : Incident) → (x.naming.number == n) ≡ false → incident_but n p x ≡ pick false x
  but_other x k = ap (λ b. pick b x) k

  number_stays : (x : Incident) → (incident_but n p x).0.naming.number ≡ x.naming.number
  number_stays x = by_test (x.naming.number == n)
    where
      by_test : (b : Bool) → (pick b x).0.naming.number ≡ x.naming.number
      by_test true = refl
      by_test false = refl

  -- ---- what two lists that are equal but for these rows have in common

  module _ (t : State) (j : Incident) (at : incident_of n t ≡ Some j) where
    abbrev AreFound : List Incident → Type 0
    AreFound ys = AllByRecursion (λ (y : Incident). incident_of y.naming.number t ≡ Some y) ys

    abbrev DoFollow : List Incident → Type 0
    DoFollow ys = AllByRecursion (λ (y : Incident). incident_id y.document ≡ Some y.naming.ident) ys

    abbrev HaveLines : List Incident → Type 0
    HaveLines xs = AllByRecursion (λ (x : Incident). (x.naming.number == n) ≡ true → lines_but (is_within p) x.document ≡ lines_but (is_within p) j.document) xs

    one_redone : (x y : Incident) → incident_but n p x ≡ incident_but n p y → incident_of y.naming.number t ≡ Some y → incident_id y.document ≡ Some y.naming.ident
        → (y ≡ other_of n j.document x) × ((x.naming.number == n) ≡ true → lines_but (is_within p) x.document ≡ lines_but (is_within p) j.document)
    one_redone x y same found follows = (by_test (x.naming.number == n) refl, λ k. ap (λ (q : Parts). q.1) (parts k) ∙ ap (λ (i : Incident). lines_but (is_within p) i.document) (there k))
      where
        number : x.naming.number ≡ y.naming.number
        number = sym (number_stays x) ∙ ap (λ (q : Parts). q.0.naming.number) same ∙ number_stays y

        of_y : (b : Bool) → (x.naming.number == n) ≡ b → (y.naming.number == n) ≡ b
        of_y b k = sym (ap (λ m. m == n) number) ∙ k

        there : (x.naming.number == n) ≡ true → y ≡ j
        there k = some-same y j (sym found ∙ ap (λ m. incident_of m t) (eqb-true y.naming.number n (of_y true k)) ∙ at)

        parts : (x.naming.number == n) ≡ true → parts_but p x ≡ parts_but p y
        parts k = sym (but_of x k) ∙ same ∙ but_of y (of_y true k)

        by_test : (b : Bool) → (x.naming.number == n) ≡ b → y ≡ (if b then redone j.document x else x)
        by_test true k =
            let ident : y.naming.ident ≡ ident_of y.document = sym (ap (λ o. unwrap_or o []) follows) in
            ap (λ e. record y { naming = record y.naming { ident = e } }) ident
            ∙ ap (λ d. record y { naming = record y.naming { ident = ident_of d }; document = d }) (ap (λ (i : Incident). i.document) (there k))
            ∙ ap (λ (q : Parts). redone j.document q.0) (sym (parts k))
        by_test false k = sym (ap (λ (q : Parts). q.0) (sym (but_other x k) ∙ same ∙ but_other y (of_y false k)))

    all_redone : (xs ys : List Incident) → map (incident_but n p) xs ≡ map (incident_but n p) ys → AreFound ys → DoFollow ys → (ys ≡ map (other_of n j.document) xs) × HaveLines xs
    all_redone [] [] same found follow = (refl, tt)
    all_redone [] (y ∷ ys) same found follow = absurd (false≢true (sym (ap is_empty same)))
    all_redone (x ∷ xs) [] same found follow = absurd (false≢true (ap is_empty same))
    all_redone (x ∷ xs) (y ∷ ys) same found follow =
        let one = one_redone x y (ap (head_or (incident_but n p x)) same) found.0 follow.0 in
        let rest = all_redone xs ys (ap rest_of same) found.1 follow.1 in
        (ap (λ z. z ∷ ys) one.0 ∙ ap (λ zs. other_of n j.document x ∷ zs) rest.0, (one.1, rest.1))

  -- ---- and back

  module _ (s : State) (i : Incident) (doc : Lines) (at : incident_of n s ≡ Some i) (lines : lines_but (is_within p) i.document ≡ lines_but (is_within p) doc) where
    one_but : (x : Incident) → incident_of x.naming.number s ≡ Some x → incident_but n p x ≡ incident_but n p (other_of n doc x)
    one_but x found = by_test (x.naming.number == n) refl
      where
        by_test : (b : Bool) → (x.naming.number == n) ≡ b → incident_but n p x ≡ incident_but n p (if b then redone doc x else x)
        by_test true k =
            let here : x ≡ i = some-same x i (sym found ∙ ap (λ m. incident_of m s) (eqb-true x.naming.number n k) ∙ at) in
            but_of x k
            ∙ ap (with_lines x) (ap (λ (y : Incident). lines_but (is_within p) y.document) here ∙ lines)
            ∙ sym (but_of (redone doc x) k)
        by_test false k = refl

    all_but : (xs : List Incident) → AllByRecursion (λ (x : Incident). incident_of x.naming.number s ≡ Some x) xs → map (incident_but n p) xs ≡ map (incident_but n p) (map (other_of n doc) xs)
    all_but [] h = refl
    all_but (x ∷ xs) h = ap (λ q. q ∷ map (incident_but n p) xs) (one_but x h.0) ∙ ap (λ qs. incident_but n p (other_of n doc x) ∷ qs) (all_but xs h.1)

-- ---- the step

module _ (now : ℤ) (a : Account) (s t : State) (ss : IsSound s) (st : IsSound t) where
  abbrev hides : State → Tokens → Incident → Bool
  hides u p i = is_hidden_from (standing_at u now a.person i) p (report_of u i i.document)

  abbrev withholds : State → Incident → List Withheld
  withholds u i = withheld_of i.document (case_for u i) (standing_at u now a.person i)

  -- the standing doesn't look at the ident and the document
  stands : (doc : Lines) (i : Incident) → standing_at t now a.person (redone doc i) ≡ standing_at t now a.person i
  stands doc i = standing_at-is t now a.person (redone doc i) ∙ sym (standing_at-is t now a.person i)

  stands_with : (doc : Lines) (i : Incident) → standing_at t now a.person (redone doc i) ≡ standing_at t now a.person (record i { document = doc })
  stands_with doc i = standing_at-is t now a.person (redone doc i) ∙ sym (standing_at-is t now a.person (record i { document = doc }))

  -- the fields that name the incident by its number
  record OfNumber (p : Tokens) (i : Incident) (doc : Lines) (n : ℕ) : Type 0 where
    pub there : incident_of n s ≡ Some i
    pub foreign : is_own now a s n ≡ false
    pub gates : gates_but_at n p s.gates ≡ gates_but_at n p t.gates
    pub permissions : permissions_but_at n p s.permissions ≡ permissions_but_at n p t.permissions
    pub after : t ≡ record s { incidents = with_document n doc s.incidents; gates = t.gates; permissions = t.permissions }

  is_exchanged : HasOtherHiddenClass now a s t → HasExchangedClass now a s t
  is_exchanged h =
      let n = h.number in
      let p = h.path in
      let one = found_with (hides s p) (incident_of n s) h.first in
      let two = found_with (hides t p) (incident_of n t) h.second in
      let i : Incident = one.0 in
      let j : Incident = two.0 in
      let doc : Lines = j.document in
      let number : i.naming.number ≡ n = eqb-true i.naming.number n (found_is (λ (x : Incident). x.naming.number == n) s.incidents i one.1) in
      let both = all_redone n p t j two.1 s.incidents t.incidents h.others.incidents (all_found incident_number 0 t.incidents st.incidents.numbered.0) st.incidents.follow in
      let after : t ≡ record s { incidents = with_document n doc s.incidents; gates = t.gates; permissions = t.permissions } =
      ap (λ d. record t { directory = d }) (sym h.others.directory)
      ∙ ap (λ is. record t { directory = s.directory; incidents = is }) both.0
      ∙ ap (λ rs. record t { directory = s.directory; incidents = with_document n doc s.incidents; recipients = rs }) (sym h.others.recipients) in
      let again : j ≡ redone doc i = some-same j (redone doc i) (sym two.1 ∙ ap (incident_of n) after ∙ find-other n doc s.incidents ∙ ap (option_map (redone doc)) one.1) in
      let of : OfNumber p i doc i.naming.number = subst (OfNumber p i doc) (sym number) (record { there = one.1; foreign = h.foreign; gates = h.others.gates; permissions = h.others.permissions; after = after }) in
      record {
        incident = i;
        path = p;
        document = doc;
        there = of.there;
        foreign = of.foreign;
        below_root = h.below_root;
        first = one.2;
        second = ap (λ x. is_hidden_from x p (report_of t i doc)) (sym (stands doc i)) ∙ sym (ap (λ (z : Incident). is_hidden_from (standing_at t now a.person z) p (report_of t z doc)) again) ∙ two.2;
        others = found_each (λ (x : Incident). (x.naming.number == n) ≡ true → lines_but (is_within p) x.document ≡ lines_but (is_within p) doc) (λ (x : Incident). x.naming.number == n) s.incidents i one.1 both.1
            (found_is (λ (x : Incident). x.naming.number == n) s.incidents i one.1);
        withheld = sym (ap (λ o. option_map_or (withholds s) o []) one.1) ∙ h.withheld ∙ ap (λ o. option_map_or (withholds t) o []) two.1
            ∙ ap (λ (z : Incident). withheld_of doc (case_for t z) (standing_at t now a.person z)) again
            ∙ ap (withheld_of doc (case_for t i)) (stands_with doc i);
        gates = of.gates;
        permissions = of.permissions;
        after = of.after;
      }

  is_equal_but : HasExchangedClass now a s t → HasOtherHiddenClass now a s t
  is_equal_but h =
      let i = h.incident in
      let n = h.incident.naming.number in
      let p = h.path in
      let doc = h.document in
      let again : incident_of n t ≡ Some (redone doc i) = ap (incident_of n) h.after ∙ find-other n doc s.incidents ∙ ap (option_map (redone doc)) h.there in
      record {
        number = n;
        path = p;
        below_root = h.below_root;
        foreign = h.foreign;
        first = ap (λ o. option_map_or (hides s p) o false) h.there ∙ h.first;
        second = ap (λ o. option_map_or (hides t p) o false) again ∙ ap (λ x. is_hidden_from x p (report_of t i doc)) (stands doc i) ∙ h.second;
        withheld = ap (λ o. option_map_or (withholds s) o []) h.there ∙ h.withheld ∙ ap (withheld_of doc (case_for t i)) (sym (stands_with doc i)) ∙ sym (ap (λ o. option_map_or (withholds t) o []) again);
        others = record {
          directory = sym (ap (λ (x : State). x.directory) h.after);
          incidents = all_but n p s i doc h.there h.others s.incidents (all_found incident_number 0 s.incidents ss.incidents.numbered.0) ∙ sym (ap (λ (x : State). map (incident_but n p) x.incidents) h.after);
          gates = h.gates;
          recipients = sym (ap (λ (x : State). x.recipients) h.after);
          permissions = h.permissions;
        };
      }

pub hidden_exchanged : (now : ℤ) (a : Account) (s t : State) → IsSound s → IsSound t → HasOtherHiddenClass now a s t → HasExchangedClass now a s t
hidden_exchanged now a s t ss st h = is_exchanged now a s t ss st h

pub hidden_agree : HiddenClassesAgree
hidden_agree now a s t ss st = (is_exchanged now a s t ss st, is_equal_but now a s t ss st)
