-- The place of a kept class by its number is its place by pairs.
use Rattle.std.proofs.Common.{◌≡◌, ◌+◌, ◌<◌, ℕ, suc, Bool, true, false, List, [], ◌∷◌, length, cond, if◌then◌else◌, refl, sym, ◌∙◌, ap, arith, Option, Some}
use Rattle.std.{proofs.{Common.{None, zip, flat_map}, lemmas.{Bool.lt-ltb, List.Concat.flat_map-cons}}, specs.{List.position_or_len, Prelude.{◌++◌, ◌&&◌, not}}}
use Rattle.{std.specs.Prelude.{nat_lt, option_and_then, position, slice_get}, iodef_tree.specs.{Paths.{LocatedLine, classes_of, is_class}, Text.Tokens}}
use Rattle.{iodef_tree.specs.Text.{same_path, is_root}, redact.specs.{Kept.{Verdicts, is_frame, is_wholly_hidden, kept_lines}, Withheld.kept_classes}}
use Rattle.redact.specs.{Withheld.{place_of, told_at_place, withheld_at, withheld_pairs}, inner.Paired.{beside, class_places, place_by, pairs_by}}

module _ (p : Tokens) where
  abbrev is_at : Tokens → Bool
  is_at q = same_path q p

  -- the element at the place of this path
  abbrev nth : List Tokens → List Tokens → Option Tokens
  nth ks qs = option_and_then (slice_get qs) (position is_at ks)

  none-nth : (o : Option ℕ) → option_and_then (slice_get {X = Tokens} []) o ≡ None
  none-nth None = refl
  none-nth (Some n) = refl

  less : (m n : ℕ) → nat_lt (1 + m) (1 + n) ≡ nat_lt m n
  less m n = grind (arith)

  later : (y : Tokens) (qs : List Tokens) (m : ℕ) (b : Bool) → option_and_then (slice_get (y ∷ qs)) (cond b (Some (1 + m)) None) ≡ option_and_then (slice_get qs) (cond b (Some m) None)
  later y qs m true = let more : 1 + m ≡ suc m = omega arith in ap (slice_get (y ∷ qs)) more
  later y qs m false = refl

  nth-beside : (ks qs : List Tokens) → nth ks qs ≡ beside (zip ks qs) p
  nth-beside [] qs = refl
  nth-beside (k ∷ ks) [] = none-nth (position is_at (k ∷ ks))
  nth-beside (k ∷ ks) (q ∷ qs) = by_test (same_path k p) (nth-beside ks qs)
    where
      by_test : (b : Bool) → nth ks qs ≡ beside (zip ks qs) p → (let n = cond (not b) (1 + position_or_len is_at ks) 0 in option_and_then (slice_get (q ∷ qs)) (cond (nat_lt n (length (k ∷ ks))) (Some n) None)) ≡ (if b then Some q else beside (zip ks qs) p)
      by_test true rest =
          let some : 0 < length (k ∷ ks) = omega arith in
          ap (λ b. option_and_then (slice_get (q ∷ qs)) (cond b (Some 0) None)) (lt-ltb 0 (length (k ∷ ks)) some)
      by_test false rest =
          let more : length (k ∷ ks) ≡ 1 + length ks = omega arith in
          ap (λ l. option_and_then (slice_get (q ∷ qs)) (cond (nat_lt (1 + position_or_len is_at ks) l) (Some (1 + position_or_len is_at ks)) None)) more
          ∙ ap (λ b. option_and_then (slice_get (q ∷ qs)) (cond b (Some (1 + position_or_len is_at ks)) None)) (less (position_or_len is_at ks) (length ks))
          ∙ later q qs (position_or_len is_at ks) (nat_lt (position_or_len is_at ks) (length ks))
          ∙ rest

pub places-paired : (v : Verdicts) (es : List LocatedLine) (p : Tokens) → place_of v es p ≡ place_by (class_places v es) p
places-paired v es p = ap (λ o. if is_root p then Some [] else o) (nth-beside p (kept_classes v es) (classes_of (kept_lines v es)))

-- ---- what is withheld

same_each : {X Y : Type 0} (f g : X → List Y) → ((x : X) → f x ≡ g x) → (xs : List X) → flat_map f xs ≡ flat_map g xs
same_each f g h [] = refl
same_each f g h (x ∷ xs) = flat_map-cons f x xs ∙ ap (λ ys. ys ++ flat_map f xs) (h x) ∙ ap (λ ys. g x ++ ys) (same_each f g h xs) ∙ sym (flat_map-cons g x xs)

module _ (v : Verdicts) (f g : Tokens → Option Tokens) (h : (p : Tokens) → f p ≡ g p) where
  same_at : (e : LocatedLine) → withheld_at v f e ≡ withheld_at v g e
  same_at e =
      ap (λ o. if not (is_class e) then [] else if is_frame v e.path then told_at_place o (v.rule e.path) else if is_wholly_hidden v e.path && not (is_wholly_hidden v e.parent) then told_at_place (f e.parent) (v.rule e.path) else []) (h e.path)
      ∙ ap (λ o. if not (is_class e) then [] else if is_frame v e.path then told_at_place (g e.path) (v.rule e.path) else if is_wholly_hidden v e.path && not (is_wholly_hidden v e.parent) then told_at_place o (v.rule e.path) else []) (h e.parent)

pub pairs-paired : (v : Verdicts) (es : List LocatedLine) → withheld_pairs v es ≡ pairs_by v es
pairs-paired v es =
    let at = place_by (class_places v es) in
    same_each (withheld_at v (place_of v es)) (withheld_at v at) (same_at v (place_of v es) at (places-paired v es)) es
