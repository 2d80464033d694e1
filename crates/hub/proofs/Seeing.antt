-- A view is made of what is read.
use Rattle.std.proofs.Common.{◌≡◌, ℕ, ◌+◌, ◌-◌, ◌≤◌, Bool, true, false, ◌==◌, nat_lt, List, [], ◌∷◌, cond, Option, Some, None, take, map, refl, sym, ◌∙◌, ap}
use Rattle.std.proofs.{Common.{arith, filter, find, ◌⊎◌, inl, inr}, lemmas.Bool.{cond-true, cond-false, ltb-true, ltb-false, eqb-true, Decides.eqb_tells}}
use Rattle.{std.specs.Prelude.{ℤ, is_some, if◌then◌else◌, option_map, option_and_then}, iodef_tree.specs.Paths.located, marking.specs.Marks.first_bad_marking}
use Rattle.{policy.specs.declared.{case.Case.Case, standing.Standing.Standing}, redact.specs.{Excerpts.served_of, Told.{Told, excerpt_of}}}
use Rattle.{circle.specs.{Sound.CountsFrom, declared.directory.Person.Person}, hub_core.specs.{Documents.Lines, Reads.{case_for, entry_of, entries_after}}}
use Rattle.{hub_core.specs.{Sound.IsSound, State.{State, incident_number, incident_of}}, hub_state.{proofs.Marked.IsMarked, specs.declared.reply.Entry.Entry}}
use Rattle.{hub_state.specs.declared.state.Incident.Incident, hub.{proofs.ShutOut.shut-tells-nothing, specs.Told.{standing_at, view_with, view_of}}}
use Rattle.hub.specs.inner.{PageFilter.is_shut_out, Viewing.{first_being, view_made}}

-- ---- an incident by its number

none_later : (xs : List Incident) (m n : ℕ) → CountsFrom incident_number m xs → n ≤ m → find (λ (i : Incident). i.naming.number == n) xs ≡ None
none_later [] m n h low = refl
none_later (x ∷ xs) m n h low =
    elim (eqb_tells x.naming.number n) [
      | inl t ↦ absurd (omega (arith, t.1, h.0))
      | inr t ↦ cond-false (x.naming.number == n) _ _ t.0 ∙ none_later xs (m + 1) n h.1 (omega arith)
    ]

entry_found : (xs : List Incident) (m n : ℕ) → CountsFrom incident_number m xs →
    first_being n (take 1 (map entry_of (filter (λ (i : Incident). nat_lt (n - 1) i.naming.number) xs))) ≡ option_map entry_of (find (λ (i : Incident). i.naming.number == n) xs)
entry_found [] m n h = refl
entry_found (x ∷ xs) m n h = by_case (nat_lt (n - 1) x.naming.number) refl (x.naming.number == n) refl (eqb_tells x.naming.number n) (entry_found xs (m + 1) n h.1)
  where
    by_case : (b : Bool) → nat_lt (n - 1) x.naming.number ≡ b → (e : Bool) → (x.naming.number == n) ≡ e → (((x.naming.number == n) ≡ true) × (x.naming.number ≡ n)) ⊎ (((x.naming.number == n) ≡ false) × (x.naming.number ≡ n → ⊥)) →
        first_being n (take 1 (map entry_of (filter (λ (i : Incident). nat_lt (n - 1) i.naming.number) xs))) ≡ option_map entry_of (find (λ (i : Incident). i.naming.number == n) xs) →
        first_being n (take 1 (map entry_of (cond (nat_lt (n - 1) x.naming.number) (x ∷ filter (λ (i : Incident). nat_lt (n - 1) i.naming.number) xs) (filter (λ (i : Incident). nat_lt (n - 1) i.naming.number) xs))))
        ≡ option_map entry_of (cond (x.naming.number == n) (Some x) (find (λ (i : Incident). i.naming.number == n) xs))
    by_case true is true same t later =
        ap (λ is. first_being n (take 1 (map entry_of is))) (cond-true (nat_lt (n - 1) x.naming.number) _ _ is)
        ∙ cond-true (x.naming.number == n) _ _ same
        ∙ ap (option_map entry_of) (sym (cond-true (x.naming.number == n) _ _ same))
    by_case true is false same t later =
        let up = ltb-true (n - 1) x.naming.number is in
        let high : n ≤ m + 1 = omega (arith, up, h.0) in
        ap (λ is. first_being n (take 1 (map entry_of is))) (cond-true (nat_lt (n - 1) x.naming.number) _ _ is)
        ∙ cond-false (x.naming.number == n) _ _ same
        ∙ ap (option_map entry_of) (sym (cond-false (x.naming.number == n) _ _ same ∙ none_later xs (m + 1) n h.1 high))
    by_case false is true same t later =
        let low = ltb-false (n - 1) x.naming.number is in
        let at = eqb-true x.naming.number n same in
        absurd (omega (arith, low, at, h.0))
    by_case false is false same t later =
        ap (λ is. first_being n (take 1 (map entry_of is))) (cond-false (nat_lt (n - 1) x.naming.number) _ _ is)
        ∙ later
        ∙ ap (option_map entry_of) (sym (cond-false (x.naming.number == n) _ _ same))

pub entry_is : (s : State) (n : ℕ) → IsSound s → first_being n (entries_after (n - 1) 1 s) ≡ option_map entry_of (incident_of n s)
entry_is s n sound = entry_found s.incidents 0 n sound.incidents.numbered.0

-- ---- the view

module _ (s : State) (now : ℤ) (p : Person) where
  -- what the reader may see of an incident is the excerpt of its document
  served_at : (i : Incident) (st : Standing) (c : Case) → first_bad_marking (located i.document) ≡ None → Some st ≡ Some (standing_at s now p i) → Some c ≡ Some (case_for s i) →
      served_of i.document c st ≡ excerpt_of i.document (case_for s i) (standing_at s now p i)
  served_at i st c accepted stands judged =
      let same : st ≡ standing_at s now p i = cc in
      let case : c ≡ case_for s i = cc in
      ap (λ o. if is_some o then None else excerpt_of i.document c st) accepted ∙ ap (λ x. excerpt_of i.document x st) case ∙ ap (excerpt_of i.document (case_for s i)) same

  pub nothing_seen : (o : Option Incident) (st : Standing) (c : Case) → IsMarked o → Some st ≡ option_map (λ (i : Incident). standing_at s now p i) o → Some c ≡ option_map (case_for s) o →
      None ≡ option_and_then (λ (ls : Lines). served_of ls c st) (option_map (λ (i : Incident). i.document) o) → None ≡ option_and_then (view_of s now p) o
  nothing_seen None st c accepted stands judged none = cc
  nothing_seen (Some i) st c accepted stands judged none = ap (option_map (view_with i)) (none ∙ served_at i st c accepted stands judged)

  pub shut_unseen : (o : Option Incident) (st : Standing) (c : Case) → is_shut_out c st ≡ true → Some st ≡ option_map (λ (i : Incident). standing_at s now p i) o → Some c ≡ option_map (case_for s) o →
      None ≡ option_and_then (view_of s now p) o
  shut_unseen None st c shut stands judged = refl
  shut_unseen (Some i) st c shut stands judged =
      let same : st ≡ standing_at s now p i = cc in
      let case : c ≡ case_for s i = cc in
      ap (option_map (view_with i)) (sym (shut-tells-nothing i.document c st shut).excerpt ∙ ap (λ x. excerpt_of i.document x st) case ∙ ap (excerpt_of i.document (case_for s i)) same)

  pub is_seen : (o : Option Incident) (st : Standing) (c : Case) (e : Entry) (t : Told) → IsMarked o → Some st ≡ option_map (λ (i : Incident). standing_at s now p i) o → Some c ≡ option_map (case_for s) o →
      Some e ≡ option_map entry_of o → Some t ≡ option_and_then (λ (ls : Lines). served_of ls c st) (option_map (λ (i : Incident). i.document) o) →
      Some (view_made e t) ≡ option_and_then (view_of s now p) o
  is_seen None st c e t accepted stands judged listed some = cc
  is_seen (Some i) st c e t accepted stands judged listed some =
      let entry : e ≡ entry_of i = cc in
      ap (λ (y : Entry). Some (view_made y t)) entry ∙ ap (option_map (view_with i)) (some ∙ served_at i st c accepted stands judged)
