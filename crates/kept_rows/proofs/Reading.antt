-- Reads that are answered from the rows: the shelf below isn't asked.
use Rattle.std.{proofs.Common.{◌≡◌, ◌≢◌, ℕ, false, Option, Some, None, Result, Ok, refl, sym, ap, ◌∙◌, arith}, specs.{Option.option_map_or, Prelude.ℤ}}
use Rattle.{std.specs.Prelude.{IsErrOf, option_map, option_and_then}, policy.specs.declared.{case.Case.Case, standing.Standing.Standing}}
use Rattle.{redact.specs.declared.want.Want.Want, hub_state.specs.{Documents.Lines, Reads.{standing_of, standing_for, case_of, case_for, naming_of, its_gates}}}
use Rattle.hub_state.specs.{Reads.{its_permissions, document_of, meets_marked, met_by_incident, met_for}, Shelves.{HasCause, IsRead, Reads, last_count}}
use Rattle.hub_state.specs.{State.{State, incident_of}, declared.{shelf.ShelfFault.{ShelfFault, TheVariants.Failed}, state.{Incident.Incident, Naming.Naming}}}
use Rattle.circle.specs.{Reads.person_of, declared.directory.Person.Person}

module _ {D : Type 0} (has : D → State → Type 0) (doubts : D → ℕ) (failed : D → ℕ) (may_remain : D → Option State → Type 0) (k : D) where
  stays : {T : Type 0} (r : Result T ShelfFault) → HasCause (failed k) (failed k) r → IsRead has doubts failed may_remain k k r
  stays r cause = record {
    cause = cause;
    doubt = omega arith;
    content = λ clean s h. h;
    crash = λ clean left h. h;
  }

  -- an answer from the rows
  pub answered : {T : Type 0} (Right : State → T → Type 0) (x : T) → failed k ≢ last_count → ((s : State) → has k s → Right s x) → Reads has doubts failed may_remain k k Right (Ok x)
  answered Right x asked right = record {
    value = λ clean s h. right s h;
    kept = stays (Ok x) (record { later = omega arith; failed = λ e. absurd (nothing e); counted = λ rose. absurd (omega (arith, rose)); ended = λ e. absurd (asked e) });
  }
    where
      nothing : IsErrOf (Ok x) Failed → ⊥
      nothing e = cc

module _ {D : Type 0} (has : D → State → Type 0) (doubts : D → ℕ) (failed : D → ℕ) (may_remain : D → Option State → Type 0) (old new : D) where
  -- an answer from the rows, where the shelf keeps something else for the next one
  pub answered_after : {T : Type 0} (Right : State → T → Type 0) (x : T) → failed old ≢ last_count → failed new ≡ failed old → doubts new ≡ doubts old
      → ((s : State) → has old s → has new s) → ((left : Option State) → may_remain new left → may_remain old left) → ((s : State) → has old s → Right s x)
      → Reads has doubts failed may_remain old new Right (Ok x)
  answered_after Right x asked count doubt keeps leaves right = record {
    value = λ clean s h. right s h;
    kept = record {
      cause = record { later = omega (arith, count); failed = λ e. absurd (nothing e); counted = λ rose. absurd (omega (arith, count, rose)); ended = λ e. absurd (asked e) };
      doubt = omega (arith, doubt);
      content = λ clean s h. keeps s h;
      crash = λ clean left h. leaves left h;
    };
  }
    where
      nothing : IsErrOf (Ok x) Failed → ⊥
      nothing e = cc

-- ---- what is passed over

-- an incident that has no case is missing, so it meets nothing
pub caseless : (person n : ℕ) (now : ℤ) (w : Want) (s : State) → case_of n s ≡ None → met_for person n now w s ≡ false
caseless person n now w s none = by_case (standing_of person n now s)
  where
    by_case : (o : Option Standing) → option_map_or (λ (t : Standing). option_map_or (λ (c : Case). met_by_incident n c t w s) (case_of n s) false) o false ≡ false
    by_case None = refl
    by_case (Some t) = ap (λ o. option_map_or (λ (c : Case). met_by_incident n c t w s) o false) none

-- an incident doesn't meet the want, by its case and the person's standing
pub unmet : (person n : ℕ) (now : ℤ) (w : Want) (s : State) (t : Standing) (c : Case) → standing_of person n now s ≡ Some t → case_of n s ≡ Some c
    → met_by_incident n c t w s ≡ false → met_for person n now w s ≡ false
unmet person n now w s t c standing case none =
    ap (λ o. option_map_or (λ (u : Standing). option_map_or (λ (d : Case). met_by_incident n d u w s) (case_of n s) false) o false) standing
    ∙ (ap (λ o. option_map_or (λ (d : Case). met_by_incident n d t w s) o false) case ∙ none)

-- nobody's want is met by the incident's document, whatever the case and the standing
pub unheld : (person n : ℕ) (now : ℤ) (w : Want) (s : State) (ls : Lines) → document_of n s ≡ Some ls → ((c : Case) (t : Standing) → meets_marked w ls c t ≡ false) → met_for person n now w s ≡ false
unheld person n now w s ls document none = by_standing (standing_of person n now s)
  where
    by_document : (c : Case) (t : Standing) → met_by_incident n c t w s ≡ false
    by_document c t = ap (λ o. option_map_or (λ (l : Lines). meets_marked w l c t) o false) document ∙ none c t

    by_case : (t : Standing) (o : Option Case) → option_map_or (λ (c : Case). met_by_incident n c t w s) o false ≡ false
    by_case t None = refl
    by_case t (Some c) = by_document c t

    by_standing : (o : Option Standing) → option_map_or (λ (t : Standing). option_map_or (λ (c : Case). met_by_incident n c t w s) (case_of n s) false) o false ≡ false
    by_standing None = refl
    by_standing (Some t) = by_case t (case_of n s)

-- whether a document meets a want is whether the incident does
pub met_there : (n : ℕ) (c : Case) (t : Standing) (w : Want) (s : State) (ls : Lines) → document_of n s ≡ Some ls → met_by_incident n c t w s ≡ meets_marked w ls c t
met_there n c t w s ls document = ap (λ o. option_map_or (λ (l : Lines). meets_marked w l c t) o false) document

-- ---- a person that is kept

-- there is an incident of this naming
named : (n : ℕ) (k : Naming) (s : State) → naming_of n s ≡ Some k → (i : Incident) × (incident_of n s ≡ Some i) × (k ≡ i.naming)
named n k s h = by_case (incident_of n s) refl h
  where
    by_case : (o : Option Incident) → incident_of n s ≡ o → option_map (λ (i : Incident). i.naming) o ≡ Some k → (i : Incident) × (incident_of n s ≡ Some i) × (k ≡ i.naming)
    by_case None at e = cc
    by_case (Some i) at e = let same : k ≡ i.naming = cc in (i, at, same)

-- an incident without a naming is missing, so it meets nothing
pub nameless : (person n : ℕ) (now : ℤ) (w : Want) (s : State) → naming_of n s ≡ None → met_for person n now w s ≡ false
nameless person n now w s none = caseless person n now w s (by_case (incident_of n s) none)
  where
    by_case : (o : Option Incident) → option_map (λ (i : Incident). i.naming) o ≡ None → option_map (case_for s) o ≡ None
    by_case None e = refl
    by_case (Some i) e = cc

-- a person that is missing meets nothing
pub personless : (person n : ℕ) (now : ℤ) (w : Want) (s : State) → person_of person s.directory ≡ None → met_for person n now w s ≡ false
personless person n now w s none =
    ap (λ o. option_map_or (λ (t : Standing). option_map_or (λ (c : Case). met_by_incident n c t w s) (case_of n s) false) (option_and_then (λ (p : Person). option_map (standing_for s now p) (incident_of n s)) o) false) none

-- An incident doesn't meet the want, if its document doesn't for a standing that is the person's.
pub unmet_by : (person n : ℕ) (now : ℤ) (w : Want) (s : State) (p : Person) (k : Naming) (t : Standing) → person_of person s.directory ≡ Some p → naming_of n s ≡ Some k
    → ((i : Incident) → k ≡ i.naming → t ≡ standing_for s now p i)
    → ((c : Case) → c.gates ≡ its_gates k.number s.gates → c.permissions ≡ its_permissions k.number s.permissions → met_by_incident n c t w s ≡ false)
    → met_for person n now w s ≡ false
unmet_by person n now w s p k t is there stands none =
    let at = named n k s there in
    let i = at.0 in
    let of_person : standing_of person n now s ≡ Some t =
    ap (option_and_then (λ (q : Person). option_map (standing_for s now q) (incident_of n s))) is ∙ (ap (option_map (standing_for s now p)) at.1 ∙ ap Some (sym (stands i at.2))) in
    unmet person n now w s t (case_for s i) of_person (ap (option_map (case_for s)) at.1)
    (none (case_for s i) (ap (λ (m : Naming). its_gates m.number s.gates) (sym at.2)) (ap (λ (m : Naming). its_permissions m.number s.permissions) (sym at.2)))
