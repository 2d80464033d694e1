-- A permission that holds for a reader shows the class where it is, if no gate there or above refuses the reader.
use Rattle.std.proofs.Common.{◌≡◌, Bool, true, false, not, ◌&&◌, ◌||◌, ◌⊎◌, inl, inr, List, [], ◌∷◌, ◌++◌, refl, sym, ◌∙◌, ap, subst, arith}
use Rattle.std.{proofs.lemmas.Bool.{true≢false, false≢true, and_parts, and_from, or_left, or_right, not-true}, specs.{List.list_any, Prelude.{Option, Some}}}
use Rattle.{std.specs.Prelude.{None, is_some, is_none}, iodef_tree.{proofs.Order.same_path-true, specs.{Outline.{back, may_come}, Paths.LocatedLine}}}
use Rattle.iodef_tree.specs.{Paths.{is_class_kind, placed, located}, Text.{Bytes, Tokens, same_path}, declared.line.Line.Line}
use Rattle.{marking.specs.Marks.{written_label, label_at}, policy.{proofs.Steps.{covers-push, covers-root}, specs.{Laws.refuses_on, Permissions.holds_for}}}
use Rattle.policy.specs.{Permissions.covers, Verdict.{refusal_at, is_cleared_for, is_covered, is_visible}, declared.case.Case.Case}
use Rattle.{policy.specs.declared.{permission.Permission.Permission, standing.Standing.Standing}, redact.proofs.{Sifting.back-lines, Stopped.refused-any}}
use Rattle.redact.{proofs.Tracking.path-is, specs.{Sifted.{way, went_on, located_back, Tracks}, declared.{steps.Step.Step, want.Want.Want}}}
use Rattle.redact.specs.inner.Seeking.{permits, is_permitted, IsSeen}

-- the last token of a path
last : (p : Tokens) → (p ≡ []) ⊎ ((q : Tokens) × (x : Bytes) × (p ≡ q ++ x ∷ []))
last [] = inl refl
last (y ∷ p) = elim (last p) [
  | inl none ↦ inr ([], y, ap (λ z. y ∷ z) none)
  | inr some ↦ inr (y ∷ some.0, some.1, ap (λ z. y ∷ z) some.2)
]

-- a permission covers the class where it is
covers-own : (es : List LocatedLine) (s : Standing) (p : Tokens) (x : Permission) → holds_for s x ≡ true → same_path x.path p ≡ true → covers es s p x ≡ true
covers-own es s p x holds at = elim (last p) [
  | inl none ↦
      subst (λ q. covers es s q x ≡ true) (sym none)
      (sym (covers-root es s x) ∙ and_from (holds_for s x) (same_path x.path []) holds (sym (ap (same_path x.path) none) ∙ at))
  | inr some ↦
      let q = some.0 in
      let t = some.1 in
      subst (λ r. covers es s r x ≡ true) (sym some.2)
      (covers-push es s q t x ∙ or_right (covers es s q x && is_none (written_label es (q ++ t ∷ []))) (holds_for s x && same_path x.path (q ++ t ∷ []))
      (and_from (holds_for s x) (same_path x.path (q ++ t ∷ [])) holds (sym (ap (same_path x.path) some.2) ∙ at)))
]

covered : (a r k v : Bool) → r ≡ true → v ≡ true → (a || (r && (k || v))) ≡ true
covered a r k v hr hv = grind arith

none-some : {A : Type 0} (o : Option A) → is_some o ≡ false → is_none o ≡ true
none-some None h = refl
none-some (Some x) h = absurd (true≢false h)

-- the class is visible, whatever lines there are
module _ (es : List LocatedLine) (c : Case) (s : Standing) (p : Tokens) where
  any-covers : (xs : List Permission) → list_any (λ x. same_path x.path p && permits c s x) xs ≡ true → (list_any (covers es s p) xs ≡ true) × (list_any (refuses_on s p) c.gates ≡ false)
  any-covers [] h = absurd (false≢true h)
  any-covers (x ∷ xs) h = by_test (same_path x.path p && permits c s x) refl (any-covers xs) h
    where
      by_test : (b : Bool) → (same_path x.path p && permits c s x) ≡ b →
          (list_any (λ y. same_path y.path p && permits c s y) xs ≡ true → (list_any (covers es s p) xs ≡ true) × (list_any (refuses_on s p) c.gates ≡ false)) →
          (b || list_any (λ y. same_path y.path p && permits c s y) xs) ≡ true → (list_any (covers es s p) (x ∷ xs) ≡ true) × (list_any (refuses_on s p) c.gates ≡ false)
      by_test true is rest k =
          let parts = and_parts (same_path x.path p) (permits c s x) is in
          let both = and_parts (holds_for s x) (not (list_any (refuses_on s x.path) c.gates)) parts.1 in (
            or_left (covers es s p x) (list_any (covers es s p) xs) (covers-own es s p x both.0 parts.0),
            subst (λ q. list_any (refuses_on s q) c.gates ≡ false) (same_path-true x.path p parts.0) (not-true (list_any (refuses_on s x.path) c.gates) both.1),
          )
      by_test false is rest k =
          let later = rest k in
          (or_right (covers es s p x) (list_any (covers es s p) xs) later.0, later.1)

  pub opened-seen : is_permitted c s p ≡ true → is_visible es c s p ≡ true
  opened-seen h =
      let found = any-covers c.permissions h in
      covered s.source (is_none (refusal_at c s p)) (is_cleared_for s (label_at es p)) (is_covered es c s p)
      (none-some (refusal_at c s p) (refused-any c s p ∙ found.1)) found.0

-- if steps lead to the newest line, a class that a permission shows is visible
pub follow-seen : (w : Want) (c : Case) (s : Standing) (ls : List Line) (l : Line) (ss : List Step) (follows : Bool) → (follows ≡ true → Tracks ls ss) → may_come (back ls) l ≡ true →
    (follows && (is_class_kind l.kind && is_permitted c s (way (went_on ss l)))) ≡ true → IsSeen w c s (ls ++ l ∷ []) (placed (located_back ls) l).path
follow-seen w c s ls l ss follows tracks fits h more outline marked =
    let parts = and_parts follows (is_class_kind l.kind && is_permitted c s (way (went_on ss l))) h in
    let both = and_parts (is_class_kind l.kind) (is_permitted c s (way (went_on ss l))) parts.1 in
    opened-seen (located ((ls ++ l ∷ []) ++ more)) c s (placed (located_back ls) l).path
    (ap (is_permitted c s) (path-is (located_back ls) ss l (tracks parts.0).leads (ap (λ b. may_come b l) (back-lines ls) ∙ fits)) ∙ both.1)
