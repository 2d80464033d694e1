-- A gate that refuses at a path refuses below it.
use Rattle.std.proofs.{Common.{◌≡◌, true, false, not, List, [], ◌∷◌, ◌++◌, refl, sym, ◌∙◌, ap, append-nil, append_assoc}, lemmas.Bool.{false≢true, and_parts}}
use Rattle.std.{proofs.lemmas.Bool.{and_from, or_from, false_from_ne_true, not-true, and_left}, specs.{Option.option_or, Prelude.{Option, Some, None, is_some}}}
use Rattle.{std.specs.{Prelude.is_none, Str.bytes_eq}, iodef_tree.{proofs.Order.bytes_eq-true, specs.{Paths.LocatedLine, Text.{Bytes, Tokens, is_root}}}}
use Rattle.{iodef_tree.specs.Text.is_prefix, policy.{proofs.Steps.approach_below-at, specs.Verdict.{first_of, refusals_at, refusal_at, is_visible}}}
use Rattle.{policy.specs.declared.{case.Case.Case, rule.Rule.Rule, standing.Standing.Standing}, redact.specs.Matters.is_refused}

some-or : (o r : Option Rule) → is_some o ≡ true → is_some (option_or o r) ≡ true
some-or None r h = absurd (false≢true h)
some-or (Some x) r h = refl

pub none-some : (o : Option Rule) → is_some o ≡ true → is_none o ≡ false
none-some None h = absurd (false≢true h)
none-some (Some x) h = refl

root-append : (p z : Tokens) → is_root p ≡ false → is_root (p ++ z) ≡ false
root-append [] z h = absurd (false≢true (sym h))
root-append (x ∷ p) z h = refl

-- a prefix of a path, and the tokens behind it
behind : (q p : Tokens) → is_prefix q p ≡ true → (z : Tokens) × (p ≡ q ++ z)
behind [] p h = (p, refl)
behind (x ∷ q) [] h = absurd (false≢true h)
behind (x ∷ q) (y ∷ p) h =
    let parts = and_parts (bytes_eq x y) (is_prefix q p) h in
    let rest = behind q p parts.1 in
    (rest.0, ap (λ t. t ∷ p) (sym (bytes_eq-true x y parts.0)) ∙ ap (λ ts. x ∷ ts) rest.1)

module _ (c : Case) (s : Standing) where
  refused-push : (p : Tokens) (x : Bytes) → is_some (refusal_at c s p) ≡ true → is_some (refusal_at c s (p ++ x ∷ [])) ≡ true
  refused-push p x h =
      sym (ap (λ a. is_some a.refusal) (approach_below-at c s p x))
      ∙ some-or (refusal_at c s p) (first_of (refusals_at c s (p ++ x ∷ []))) h

  refused-append : (z p : Tokens) → is_some (refusal_at c s p) ≡ true → is_some (refusal_at c s (p ++ z)) ≡ true
  refused-append [] p h = ap (λ q. is_some (refusal_at c s q)) (append-nil p) ∙ h
  refused-append (x ∷ z) p h =
      ap (λ q. is_some (refusal_at c s q)) (sym (append_assoc p (x ∷ []) z)) ∙ refused-append z (p ++ x ∷ []) (refused-push p x h)

  -- what is known of a path at which a gate refuses
  pub record Said (p : Tokens) : Type 0 where
    pub deep : is_root p ≡ false
    pub foreign : s.source ≡ false
    pub refusal : is_some (refusal_at c s p) ≡ true

  pub said : (p : Tokens) → is_refused c s p ≡ true → Said p
  said p h =
      let one = and_parts (not (is_root p)) _ h in
      let two = and_parts (not s.source) _ one.1 in
      record { deep = not-true (is_root p) one.0; foreign = not-true s.source two.0; refusal = two.1 }

  pub refused : (p : Tokens) → Said p → is_refused c s p ≡ true
  refused p k = and_from (not (is_root p)) _ (ap not k.deep) (and_from (not s.source) _ (ap not k.foreign) k.refusal)

  pub refused-below : (p z : Tokens) → is_refused c s p ≡ true → is_refused c s (p ++ z) ≡ true
  refused-below p z h =
      let k = said p h in
      refused (p ++ z) (record { deep = root-append p z k.deep; foreign = k.foreign; refusal = refused-append z p k.refusal })

  pub refused-prefix : (q p : Tokens) → is_prefix q p ≡ true → is_refused c s q ≡ true → is_refused c s p ≡ true
  refused-prefix q p k h = let z = behind q p k in ap (is_refused c s) z.1 ∙ refused-below q z.0 h

  pub passed-above : (q p : Tokens) → is_prefix q p ≡ true → is_refused c s p ≡ false → is_refused c s q ≡ false
  passed-above q p k h = false_from_ne_true (is_refused c s q) (λ t. false≢true (sym h ∙ refused-prefix q p k t))

  -- no class at such a path is visible, whatever the lines are
  pub refused-unseen : (es : List LocatedLine) (p : Tokens) → is_refused c s p ≡ true → is_visible es c s p ≡ false
  refused-unseen es p h =
      let k = said p h in or_from s.source _ k.foreign (and_left (is_none (refusal_at c s p)) _ (none-some (refusal_at c s p) k.refusal))
