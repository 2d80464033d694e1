-- A gate at the root that refuses a reader.
use Rattle.std.proofs.{Common.{◌≡◌, Bool, true, false, List, [], ◌∷◌, refl, sym, ◌∙◌, ap, subst, Option, Some, None, is_some, Contains}, lemmas.Bool.false≢true}
use Rattle.{std.proofs.lemmas.Bool.{and_right, cond-false}, iodef_tree.specs.{Paths.{is_class, located}, Text.{Bytes, Tokens, is_root, is_prefix}}}
use Rattle.{iodef_tree.specs.declared.line.Line.Line, policy.{proofs.Sight.visible-passes, specs.{Gates.refusal_of_gate, Verdict.is_visible}}}
use Rattle.{policy.specs.declared.{case.Case.Case, gate.Gate.Gate, rule.Rule.Rule, standing.Standing.Standing}, redact.proofs.Filtered.{each, any-none}}
use Rattle.redact.{proofs.Promised.found-listed, specs.{Laws.TellsNothing, Told.{is_seen_class, is_listed, told_of, finds}, Wants.meets_by}}

root-is-prefix : (q p : Tokens) → is_root q ≡ true → is_prefix q p ≡ true
root-is-prefix [] p h = refl
root-is-prefix (x ∷ q) p h = absurd (false≢true h)

not-refused : (o : Option Rule) → o ≡ None → is_some o ≡ true → ⊥
not-refused o none some = false≢true (sym (ap is_some none) ∙ some)

module _ (ls : List Line) (c : Case) (s : Standing) (g : Gate) (foreign : s.source ≡ false) (there : Contains c.gates g) (root : is_root g.path ≡ true) (refuses : is_some (refusal_of_gate s g) ≡ true) where
  -- no class is visible
  hidden : (p : Tokens) → is_visible (located ls) c s p ≡ false
  hidden p = by_sight (is_visible (located ls) c s p) refl
    where
      by_sight : (b : Bool) → is_visible (located ls) c s p ≡ b → b ≡ false
      by_sight false k = refl
      by_sight true k =
          let passes = visible-passes (located ls) c s p foreign k there.0 g there.1 in
          let at_g : is_prefix g.path p ≡ true → refusal_of_gate s g ≡ None = subst (λ (x : Gate). is_prefix x.path p ≡ true → refusal_of_gate s x ≡ None) there.2 passes in
          absurd (not-refused (refusal_of_gate s g) (at_g (root-is-prefix g.path p root)) refuses)

  unlisted : is_listed ls c s ≡ false
  unlisted = any-none (is_seen_class ls c s) (located ls)
      (each (λ e. is_seen_class ls c s e ≡ false) (λ e. and_right (is_class e) (is_visible (located ls) c s e.path) (hidden e.path)) (located ls))

  unmet : (needle class : Option Bytes) → meets_by needle class ls c s ≡ false
  unmet None class = unlisted
  unmet (Some needle) class = by_find (finds ls c s needle class) refl
    where
      by_find : (b : Bool) → finds ls c s needle class ≡ b → b ≡ false
      by_find false k = refl
      by_find true k = absurd (false≢true (sym unlisted ∙ found-listed ls c s needle class k))

  pub root-tells-nothing : TellsNothing ls c s
  root-tells-nothing = record { excerpt = cond-false (is_listed ls c s) (Some (told_of ls c s)) None unlisted; met = unmet }
