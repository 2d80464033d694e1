-- Another document in one incident, of which a person learns the same.
use Rattle.std.proofs.{Common.{◌≡◌, ℕ, Bool, true, false, List, [], ◌∷◌, refl, sym, ◌∙◌, ap, ◌||◌, ◌==◌, if◌then◌else◌, cond}, lemmas.Bool.false≢true}
use Rattle.std.{proofs.lemmas.Bool.true≢false, specs.{List.AllByRecursion, Prelude.{ℤ, Option, Some, None, filter, find, map, take, nat_lt, option_map}}}
use Rattle.{iodef_tree.specs.Text.Bytes, policy.specs.declared.standing.Standing.Standing, redact.specs.{Alike.IsToldAlike, Told.{is_listed, finds}}}
use Rattle.{redact.specs.Told.excerpt_of, circle.specs.declared.directory.Person.Person, hub_core.specs.{Documents.{Lines, ident_of}, Reads.standing_for}}
use Rattle.{hub_core.specs.{Reads.{case_for, entry_of}, State.{State, incident_of}}, hub_state.specs.declared.state.Incident.Incident}
use Rattle.hub.{proofs.Standings.standing_at-is, specs.{Alike.report_of, Replies.{page_of, view_or_nothing, viewed}, Told.{standing_at, is_served, is_found}}}
use Rattle.hub.specs.{Told.{is_addressed, view_with, view_of}, declared.TheConstants.PAGE_LIMIT}

-- an incident with another document
abbrev pub redone : Lines → Incident → Incident
redone doc i = record i { naming = record i.naming { ident = ident_of doc }; document = doc }

abbrev pub other_of : ℕ → Lines → Incident → Incident
other_of n doc i = if i.naming.number == n then redone doc i else i

-- the person learns the same of an incident in one state and of another in another state
pub record ToldOf (now : ℤ) (p : Person) (s t : State) (i j : Incident) : Type 0 where
  pub number : i.naming.number ≡ j.naming.number
  pub entry : entry_of i ≡ entry_of j
  pub served : is_served s now p i ≡ is_served t now p j
  pub found : (needle : Bytes) (class : Option Bytes) → is_found s now p i needle class ≡ is_found t now p j needle class
  pub addressed : is_addressed s now p i ≡ is_addressed t now p j
  pub view : view_of s now p i ≡ view_of t now p j

module _ (now : ℤ) (p : Person) (s t : State) (e : Incident → Incident) (incidents : t.incidents ≡ map e s.incidents) (each : AllByRecursion (λ i. ToldOf now p s t i (e i)) s.incidents) where
  page-map : (after : ℕ) (f g : Incident → Bool) (xs : List Incident) → ((i : Incident) → ToldOf now p s t i (e i) → f i ≡ g (e i)) → AllByRecursion (λ i. ToldOf now p s t i (e i)) xs →
      map entry_of (filter f (filter (λ (i : Incident). nat_lt after i.naming.number) xs)) ≡ map entry_of (filter g (filter (λ (i : Incident). nat_lt after i.naming.number) (map e xs)))
  page-map after f g [] same h = refl
  page-map after f g (x ∷ xs) same h =
      by_test (nat_lt after x.naming.number) (nat_lt after (e x).naming.number) (f x) (g (e x)) (ap (nat_lt after) h.0.number) (same x h.0) refl refl (page-map after f g xs same h.1)
    where
      up : Incident → Bool
      up i = nat_lt after i.naming.number

      by_test : (b b' c c' : Bool) → b ≡ b' → c ≡ c' → f x ≡ c → g (e x) ≡ c' →
          map entry_of (filter f (filter (λ (i : Incident). nat_lt after i.naming.number) xs)) ≡ map entry_of (filter g (filter (λ (i : Incident). nat_lt after i.naming.number) (map e xs))) →
          map entry_of (filter f (if b then x ∷ filter (λ (i : Incident). nat_lt after i.naming.number) xs else filter (λ (i : Incident). nat_lt after i.naming.number) xs))
          ≡ map entry_of (filter g (if b' then e x ∷ filter (λ (i : Incident). nat_lt after i.naming.number) (map e xs) else filter (λ (i : Incident). nat_lt after i.naming.number) (map e xs)))
      by_test false false c c' bs cs fc gc ih = ih
      by_test true true true true bs cs fc gc ih =
          ap (λ b. map entry_of (if b then x ∷ filter f (filter (λ (i : Incident). nat_lt after i.naming.number) xs) else filter f (filter (λ (i : Incident). nat_lt after i.naming.number) xs))) fc
          ∙ ap (λ es. entry_of x ∷ es) ih ∙ ap (λ y. y ∷ map entry_of (filter g (filter (λ (i : Incident). nat_lt after i.naming.number) (map e xs)))) h.0.entry
          ∙ sym (ap (λ b. map entry_of (if b then e x ∷ filter g (filter (λ (i : Incident). nat_lt after i.naming.number) (map e xs)) else filter g (filter (λ (i : Incident). nat_lt after i.naming.number) (map e xs)))) gc)
      by_test true true false false bs cs fc gc ih =
          ap (λ b. map entry_of (if b then x ∷ filter f (filter (λ (i : Incident). nat_lt after i.naming.number) xs) else filter f (filter (λ (i : Incident). nat_lt after i.naming.number) xs))) fc
          ∙ ih
          ∙ sym (ap (λ b. map entry_of (if b then e x ∷ filter g (filter (λ (i : Incident). nat_lt after i.naming.number) (map e xs)) else filter g (filter (λ (i : Incident). nat_lt after i.naming.number) (map e xs)))) gc)
      by_test true false c c' bs cs fc gc ih = absurd (true≢false bs)
      by_test false true c c' bs cs fc gc ih = absurd (false≢true bs)
      by_test true true true false bs cs fc gc ih = absurd (true≢false cs)
      by_test true true false true bs cs fc gc ih = absurd (false≢true cs)

  pub page-same : (f g : Incident → Bool) (after : ℕ) → ((i : Incident) → ToldOf now p s t i (e i) → f i ≡ g (e i)) → page_of f after s ≡ page_of g after t
  page-same f g after same = ap (take PAGE_LIMIT) (page-map after f g s.incidents same each ∙ ap (λ is. map entry_of (filter g (filter (λ (i : Incident). nat_lt after i.naming.number) is))) (sym incidents))

  view-found : (q : ℕ) (xs : List Incident) → AllByRecursion (λ i. ToldOf now p s t i (e i)) xs →
      viewed s now p (find (λ (i : Incident). i.naming.number == q) xs) ≡ viewed t now p (find (λ (i : Incident). i.naming.number == q) (map e xs))
  view-found q [] h = refl
  view-found q (x ∷ xs) h = by_test (x.naming.number == q) ((e x).naming.number == q) (ap (λ k. k == q) h.0.number) (view-found q xs h.1)
    where
      by_test : (b b' : Bool) → b ≡ b' → viewed s now p (find (λ (i : Incident). i.naming.number == q) xs) ≡ viewed t now p (find (λ (i : Incident). i.naming.number == q) (map e xs)) →
          viewed s now p (cond b (Some x) (find (λ (i : Incident). i.naming.number == q) xs)) ≡ viewed t now p (cond b' (Some (e x)) (find (λ (i : Incident). i.naming.number == q) (map e xs)))
      by_test true true bs ih = ap view_or_nothing h.0.view
      by_test false false bs ih = ih
      by_test true false bs ih = absurd (true≢false bs)
      by_test false true bs ih = absurd (false≢true bs)

  pub view-same : (q : ℕ) → viewed s now p (incident_of q s) ≡ viewed t now p (incident_of q t)
  view-same q = view-found q s.incidents each ∙ ap (λ is. viewed t now p (find (λ (i : Incident). i.naming.number == q) is)) (sym incidents)

-- what redaction shows of two reports, it shows of two incidents that differ only in document and ident
pub told-by : (now : ℤ) (p : Person) (s t : State) (i : Incident) (doc : Lines) → standing_for t now p (redone doc i) ≡ standing_for s now p i →
    IsToldAlike (standing_at s now p i) (report_of s i i.document) (record { lines = doc; case = case_for t (redone doc i) }) → ToldOf now p s t i (redone doc i)
told-by now p s t i doc stands h =
    let there : standing_at t now p (redone doc i) ≡ standing_at s now p i = standing_at-is t now p (redone doc i) ∙ stands ∙ sym (standing_at-is s now p i) in
    let c = case_for t (redone doc i) in
    record {
      number = refl;
      entry = refl;
      served = h.met None None ∙ sym (ap (is_listed doc c) there);
      found = λ needle class. h.met (Some needle) class ∙ sym (ap (λ x. finds doc c x needle class) there);
      addressed = sym (ap (λ (x : Standing). x.person || x.addressed) there);
      view = ap (option_map (view_with i)) (h.excerpt ∙ sym (ap (excerpt_of doc c) there));
    }
