-- Paths by their last tokens.
use Rattle.std.proofs.Common.{◌≡◌, ℕ, Bool, true, false, List, [], ◌∷◌, ◌++◌, length, append-nil, append_assoc, refl, sym, ◌∙◌, ap, arith, ◌&&◌, ◌||◌, ◌==◌}
use Rattle.std.{proofs.{Common.{decimal, bytes_eq}, lemmas.{Bool.{and_right, ne_eqb}, Grind.flat_map-append}}, specs.Prelude.{Option, Some, None}}
use Rattle.{iodef_tree.specs.{Text.{Bytes, Tokens, is_root, is_prefix, same_path}, Tree.{steps, place_of}}, redact.specs.Sifted.{step_tokens, way}}
use Rattle.redact.specs.declared.steps.Step.{Step}

pub only-root : (p : Tokens) → (length p == 0) ≡ is_root p
only-root [] = refl
only-root (x ∷ p) = ne_eqb (length (x ∷ p)) 0 (λ q. omega (arith, q))

pub root-same : (p : Tokens) → is_root p ≡ same_path p []
root-same [] = refl
root-same (x ∷ p) = refl

none-longer : (z : Tokens) (n : Bytes) → same_path [] (z ++ n ∷ []) ≡ false
none-longer [] n = refl
none-longer (b ∷ z) n = refl

longer-none : (p : Tokens) (t : Bytes) → same_path (p ++ t ∷ []) [] ≡ false
longer-none [] t = refl
longer-none (a ∷ p) t = refl

-- the last token of a path, and the tokens before it
pub same-last : (p z : Tokens) (t n : Bytes) → same_path (p ++ t ∷ []) (z ++ n ∷ []) ≡ (bytes_eq t n && same_path p z)
same-last [] [] t n = refl
same-last [] (b ∷ z) t n = and_right (bytes_eq t b) _ (none-longer z n) ∙ sym (and_right (bytes_eq t n) false refl)
same-last (a ∷ p) [] t n = and_right (bytes_eq a n) _ (longer-none p t) ∙ sym (and_right (bytes_eq t n) false refl)
same-last (a ∷ p) (b ∷ z) t n = ap (λ r. bytes_eq a b && r) (same-last p z t n) ∙ swap (bytes_eq a b) (bytes_eq t n) (same_path p z)
  where
    swap : (x y r : Bool) → (x && (y && r)) ≡ (y && (x && r))
    swap x y r = grind arith

-- the same of a path that ends with a token
pub last-is : (q p : Tokens) (t : Bytes) → q ≡ p ++ t ∷ [] → (n : Bytes) (z : Tokens) → same_path q (z ++ n ∷ []) ≡ (bytes_eq t n && same_path p z)
last-is q p t is n z = ap (λ x. same_path x (z ++ n ∷ [])) is ∙ same-last p z t n

pub last-none : (q : Tokens) → length q ≡ 0 → (n : Bytes) (z : Tokens) → same_path q (z ++ n ∷ []) ≡ false
last-none [] h n z = none-longer z n
last-none (x ∷ q) h n z = absurd (omega (arith, h))

-- a step in an array ends with a place
pub step-place : (z : Tokens) (s : Step) → s.in_array ≡ true → z ++ step_tokens s ≡ (z ++ s.name ∷ []) ++ decimal s.place ∷ []
step-place z s h = ap (λ b. z ++ steps s.name (place_of b s.place)) h ∙ sym (append_assoc z (s.name ∷ []) (decimal s.place ∷ []))

pub way_more : (ss : List Step) (s : Step) → way (ss ++ s ∷ []) ≡ way ss ++ step_tokens s
way_more ss s = flat_map-append step_tokens ss (s ∷ []) ∙ ap (λ ts. way ss ++ ts) (append-nil (step_tokens s))

-- ---- prefixes

prefix-root : (q : Tokens) → is_prefix q [] ≡ same_path q []
prefix-root [] = refl
prefix-root (a ∷ q) = refl

-- the prefixes of a path with one token more are those of the path, and the longer path itself
prefix-more : (q p : Tokens) (x : Bytes) → is_prefix q (p ++ x ∷ []) ≡ (is_prefix q p || same_path q (p ++ x ∷ []))
prefix-more [] p x = refl
prefix-more (a ∷ q) [] x = ap (λ r. bytes_eq a x && r) (prefix-root q)
prefix-more (a ∷ q) (b ∷ p) x = ap (λ r. bytes_eq a b && r) (prefix-more q p x) ∙ spread (bytes_eq a b) (is_prefix q p) (same_path q (p ++ x ∷ []))
  where
    spread : (y r t : Bool) → (y && (r || t)) ≡ ((y && r) || (y && t))
    spread y r t = grind arith

-- with a step in an array, the path of the array is one too
pub prefix-step : (q p : Tokens) (s : Step) → is_prefix q (p ++ step_tokens s) ≡ (is_prefix q p || (same_path q (p ++ s.name ∷ []) || same_path q (p ++ step_tokens s)))
prefix-step q p s = by_place (place_of s.in_array s.place)
  where
    twice : (a b : Bool) → (a || b) ≡ (a || (b || b))
    twice a b = grind arith

    aside : (a b c : Bool) → ((a || b) || c) ≡ (a || (b || c))
    aside a b c = grind arith

    by_place : (o : Option ℕ) → is_prefix q (p ++ steps s.name o) ≡ (is_prefix q p || (same_path q (p ++ s.name ∷ []) || same_path q (p ++ steps s.name o)))
    by_place None = prefix-more q p s.name ∙ twice (is_prefix q p) (same_path q (p ++ s.name ∷ []))
    by_place (Some k) =
        ap (is_prefix q) (sym (append_assoc p (s.name ∷ []) (decimal k ∷ [])))
        ∙ prefix-more q (p ++ s.name ∷ []) (decimal k)
        ∙ ap (λ b. b || same_path q ((p ++ s.name ∷ []) ++ decimal k ∷ [])) (prefix-more q p s.name)
        ∙ aside (is_prefix q p) (same_path q (p ++ s.name ∷ [])) (same_path q ((p ++ s.name ∷ []) ++ decimal k ∷ []))
        ∙ ap (λ r. is_prefix q p || (same_path q (p ++ s.name ∷ []) || same_path q r)) (append_assoc p (s.name ∷ []) (decimal k ∷ []))
