-- Edits leave the documents of the incidents that they don't name.
use Rattle.std.proofs.Common.{◌≡◌, ℕ, ◌==◌, ◌+◌, ◌<◌, Bool, true, false, not, ◌||◌, List, [], ◌∷◌, length, take, get_or, refl, sym, ap, ◌∙◌}
use Rattle.{std.{proofs.lemmas.{Bool.not_from_false, List.Folds.list_any_more}, specs.{List.list_any, Prelude.option_map}}, circle.specs.Ordered.by_number}
use Rattle.hub_state.{proofs.Keeping.{not_both, turned, find_put, find_left}, specs.{Edits.{with_edits, edited}, Reads.document_of, State.State}}
use Rattle.hub_state.specs.{State.incident_number, declared.edit.Edit.{Edit, TheVariants.{Directory, PutIncident, TakeIncident, TakePolicy, PutGate, TakeGate}}}
use Rattle.hub_state.specs.declared.{edit.Edit.TheVariants.{PutRecipient, TakeRecipient, PutPermission, TakePermission}, state.Incident.Incident}
use Rattle.kept_documents.specs.Kept.{Entry, AreDocuments, AreSpared, is_of}

one_stays : (n : ℕ) (edit : Edit) (s : State) → is_of n edit ≡ false → document_of n (edited edit s) ≡ document_of n s
one_stays n (Directory edit) s h = refl
one_stays n (PutIncident i) s h = ap (option_map (λ (x : Incident). x.document)) (find_put (λ (x : Incident). x.naming.number == n) (by_number incident_number) i s.incidents h)
one_stays n (TakeIncident m) s h = ap (option_map (λ (x : Incident). x.document)) (find_left (λ (x : Incident). x.naming.number == n) (λ (x : Incident). not (x.naming.number == m)) s.incidents
    (λ x e. not_from_false (x.naming.number == m) (not_both x.naming.number n m (turned m n h) e)))
one_stays n (TakePolicy m) s h = refl
one_stays n (PutGate g) s h = refl
one_stays n (TakeGate key) s h = refl
one_stays n (PutRecipient r) s h = refl
one_stays n (TakeRecipient r) s h = refl
one_stays n (PutPermission x) s h = refl
one_stays n (TakePermission key) s h = refl

first : (a b : Bool) → (a || b) ≡ false → a ≡ false
first true b h = h
first false b h = refl

second : (a b : Bool) → (a || b) ≡ false → b ≡ false
second true b h = cc
second false b h = h

stays : (n : ℕ) (edits : List Edit) (s : State) → list_any (is_of n) edits ≡ false → document_of n (with_edits edits s) ≡ document_of n s
stays n [] s h = refl
stays n (edit ∷ edits) s h = stays n edits (edited edit s) (second (is_of n edit) (list_any (is_of n) edits) h) ∙ one_stays n edit s (first (is_of n edit) (list_any (is_of n) edits) h)

pub kept_after : (edits : List Edit) (old new : List Entry) (s : State) → AreSpared edits new old → AreDocuments old s → AreDocuments new (with_edits edits s)
kept_after edits old new s spared all e k = let was = spared e k in stays e.0 edits s was.1 ∙ all e was.0

-- one edit more that isn't of this incident
pub one_more : (p : Edit → Bool) (xs : List Edit) (i : ℕ) (x : Edit) → i < length xs → x ≡ get_or xs i x → list_any p (take i xs) ≡ false → p x ≡ false → list_any p (take (i + 1) xs) ≡ false
one_more p xs i x low is none here = list_any_more p xs i x low ∙ (ap (λ b. b || p (get_or xs i x)) none ∙ (ap p (sym is) ∙ here))
