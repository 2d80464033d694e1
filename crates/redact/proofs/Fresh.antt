-- A class whose line has just come holds nothing yet: no line before it has its path, so none is in it.
use Rattle.std.proofs.Common.{◌≡◌, Bool, true, false, ◌&&◌, ◌||◌, ◌⊎◌, inl, inr, List, [], ◌∷◌, ◌++◌, refl, sym, ◌∙◌, ap, subst, map, cond}
use Rattle.std.{proofs.lemmas.{Bool.{true≢false, false≢true, or_left, or_right}, List.Folds.find-append}, specs.List.{AllByRecursion, IsDistinct, list_any}}
use Rattle.{std.specs.{Option.{option_map_or, option_or}, Prelude.{ℕ, Some, None, find}, Str.bytes_eq}, iodef_tree.proofs.Distinct.paths-distinct}
use Rattle.iodef_tree.{proofs.Order.same_path-true, specs.{Outline.is_outline, Paths.{LocatedLine, is_one_less_deep, parent_path, placed, located}}}
use Rattle.{iodef_tree.specs.{Paths.located_after, Text.{Bytes, Tokens, same_path}, declared.line.Line.Line}, marking.specs.Marks.{absent, held_by_line}}
use Rattle.{marking.specs.Marks.{is_member, held_at}, redact.{proofs.{Grown.outline-document, Lengthened.located-append}, specs.Sifted.located_back}}

abbrev is_path : Tokens → LocatedLine → Bool
is_path p e = same_path e.path p

abbrev is_parent : Tokens → LocatedLine → Bool
is_parent p e = same_path e.parent p

-- ---- a parent is the root or a line before

parent-before : (p : Tokens) (d : ℕ) (before : List LocatedLine) → same_path (parent_path before d) p ≡ true → (p ≡ []) ⊎ (list_any (is_path p) before ≡ true)
parent-before p d [] h = inl (sym (same_path-true [] p h))
parent-before p d (e ∷ before) h = by_depth (is_one_less_deep d e) (parent-before p d before) h
  where
    by_depth : (b : Bool) → (same_path (parent_path before d) p ≡ true → (p ≡ []) ⊎ (list_any (is_path p) before ≡ true)) → same_path (option_map_or (λ (x : LocatedLine). x.path) (cond b (Some e) (find (is_one_less_deep d) before)) []) p ≡ true → (p ≡ []) ⊎ ((is_path p e || list_any (is_path p) before) ≡ true)
    by_depth true rest h = inr (or_left (is_path p e) (list_any (is_path p) before) h)
    by_depth false rest h = elim (rest h) [
      | inl a ↦ inl a
      | inr a ↦ inr (or_right (is_path p e) (list_any (is_path p) before) a)
    ]

any-moved : (a b c : Bool) → ((a || b) || c) ≡ true → (b || (a || c)) ≡ true
any-moved true b c h = or_right b true refl
any-moved false b c h = h

parents-there : (p : Tokens) (ls : List Line) (before : List LocatedLine) → list_any (is_parent p) (located_after before ls) ≡ true →
    (p ≡ []) ⊎ ((list_any (is_path p) before || list_any (is_path p) (located_after before ls)) ≡ true)
parents-there p [] before h = absurd (false≢true h)
parents-there p (l ∷ ls) before h = by_first (is_parent p (placed before l)) refl (parents-there p ls (placed before l ∷ before)) h
  where
    by_first : (b : Bool) → is_parent p (placed before l) ≡ b →
        (list_any (is_parent p) (located_after (placed before l ∷ before) ls) ≡ true → (p ≡ []) ⊎ (((is_path p (placed before l) || list_any (is_path p) before) || list_any (is_path p) (located_after (placed before l ∷ before) ls)) ≡ true)) →
        (b || list_any (is_parent p) (located_after (placed before l ∷ before) ls)) ≡ true →
        (p ≡ []) ⊎ ((list_any (is_path p) before || (is_path p (placed before l) || list_any (is_path p) (located_after (placed before l ∷ before) ls))) ≡ true)
    by_first true is rest h = elim (parent-before p l.depth before is) [
      | inl a ↦ inl a
      | inr a ↦ inr (or_left (list_any (is_path p) before) (is_path p (placed before l) || list_any (is_path p) (located_after (placed before l ∷ before) ls)) a)
    ]
    by_first false is rest h = elim (rest h) [
      | inl a ↦ inl a
      | inr a ↦ inr (any-moved (is_path p (placed before l)) (list_any (is_path p) before) (list_any (is_path p) (located_after (placed before l ∷ before) ls)) a)
    ]

-- ---- the newest path is a new one

last-apart : (es : List LocatedLine) (e : LocatedLine) → IsDistinct same_path (map (λ x. x.path) (es ++ e ∷ [])) → list_any (is_path e.path) es ≡ false
unfolding IsDistinct
last-apart [] e h = refl
last-apart (x ∷ es) e h = ap (λ b. b || list_any (is_path e.path) es) (last-of es h.0) ∙ last-apart es e h.1
  where
    last-of : (ys : List LocatedLine) → AllByRecursion (λ q. same_path x.path q ≡ false) (map (λ y. y.path) (ys ++ e ∷ [])) → same_path x.path e.path ≡ false
    last-of [] k = k.0
    last-of (y ∷ ys) k = last-of ys k.1

none-in : (p : Tokens) (name : Bytes) (es : List LocatedLine) → list_any (is_parent p) es ≡ false → find (is_member p name) es ≡ None
none-in p name [] h = refl
none-in p name (e ∷ es) h = by_parent (is_parent p e) (none-in p name es) h
  where
    by_parent : (b : Bool) → (list_any (is_parent p) es ≡ false → find (is_member p name) es ≡ None) → (b || list_any (is_parent p) es) ≡ false → cond (b && bytes_eq e.line.name name) (Some e) (find (is_member p name) es) ≡ None
    by_parent true rest h = absurd (true≢false h)
    by_parent false rest h = rest h

module _ (ls : List Line) (l : Line) where
  abbrev e : LocatedLine
  e = placed (located_back ls) l

  parentless : is_outline (ls ++ l ∷ []) ≡ true → (e.path ≡ [] → ⊥) → list_any (is_parent e.path) (located ls) ≡ false
  parentless outline some = by_test (list_any (is_parent e.path) (located ls)) refl
    where
      new : list_any (is_path e.path) (located ls) ≡ false
      new =
          let d = outline-document (ls ++ l ∷ []) outline in
          last-apart (located ls) e
          (subst (λ es. IsDistinct same_path (map (λ (x : LocatedLine). x.path) es)) (sym (ap located d.2) ∙ located-append ls (l ∷ [])) (paths-distinct d.0 d.1))

      by_test : (b : Bool) → list_any (is_parent e.path) (located ls) ≡ b → b ≡ false
      by_test false is = refl
      by_test true is = elim (parents-there e.path ls [] is) [
        | inl a ↦ absurd (some a)
        | inr a ↦ absurd (false≢true (sym new ∙ a))
      ]

  -- the class of the newest line holds nothing
  pub holds-nothing : (name : Bytes) → is_outline (ls ++ l ∷ []) ≡ true → (e.path ≡ [] → ⊥) → same_path e.parent e.path ≡ false → held_at (located (ls ++ l ∷ [])) e.path name ≡ absent
  holds-nothing name outline some apart = ap (λ o. option_map_or (λ (x : LocatedLine). held_by_line x.line) o absent) (
      ap (find (is_member e.path name)) (located-append ls (l ∷ []))
      ∙ find-append (is_member e.path name) (located ls) (e ∷ [])
      ∙ ap (λ o. option_or o (cond (is_member e.path name e) (Some e) None)) (none-in e.path name (located ls) (parentless outline some))
      ∙ ap (λ b. cond (b && bytes_eq l.name name) (Some e) None) apart)
