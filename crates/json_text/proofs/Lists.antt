-- An array that is put one element after another.
use Rattle.std.proofs.Common.{◌≡◌, ℕ, ◌+◌, ◌<◌, ◌≤◌, List, [], ◌∷◌, ◌++◌, map, Bool, true, false, cond, ◌&&◌, length, drop, get_or, sym, ap, ◌∙◌, append_assoc}
use Rattle.{std.proofs.{Common.{drop_of_length-le, arith}, lemmas.Grind.common_steps}, serde_json.specs.{Data.Data, View.items_of, Written.comma_if}}
use Rattle.{serde_json.specs.Written.{compact_text, items_text}, json_text.proofs.Texts.{separator-begins, separator-ends}}

module _ {X : Type 0} (datum : X → Data) where
  -- the elements that are left, and the closing bracket
  abbrev pub left_text : Bool → List X → List ℕ
  left_text later xs = items_text later (items_of (map datum xs))

  -- the opening bracket
  pub array-begins : (a after : Bool) (xs : List X) → after ≡ false →
      (cond {A = List ℕ} (a && true) (44 ∷ []) [] ++ 91 ∷ []) ++ left_text after xs ≡ comma_if a ++ 91 ∷ left_text false xs
  array-begins a after xs e =
      ap (λ l. (cond {A = List ℕ} (a && true) (44 ∷ []) [] ++ 91 ∷ []) ++ left_text l xs) e
      ∙ ap (λ l. (l ++ 91 ∷ []) ++ left_text false xs) (separator-begins a)
      ∙ append_assoc (comma_if a) (91 ∷ []) (left_text false xs)

  first-left : (done : List ℕ) (a : Bool) (xs : List X) (i : ℕ) (x : X) → i < length xs → x ≡ get_or xs i x →
      (done ++ (comma_if a ++ compact_text (datum x))) ++ left_text true (drop (i + 1) xs) ≡ done ++ left_text a (drop i xs)
  first-left done a xs i x h is = grind (arith, common_steps, append_assoc)

  -- one element more
  pub element-more : (done all : List ℕ) (a after : Bool) (xs : List X) (i : ℕ) (x : X) → i < length xs → x ≡ get_or xs i x → after ≡ true →
      done ++ left_text a (drop i xs) ≡ all → (done ++ (comma_if a ++ compact_text (datum x))) ++ left_text after (drop (i + 1) xs) ≡ all
  element-more done all a after xs i x h is ends e =
      ap (λ l. (done ++ (comma_if a ++ compact_text (datum x))) ++ left_text l (drop (i + 1) xs)) ends ∙ first-left done a xs i x h is ∙ e

  -- the closing bracket
  pub array-ends : (done all : List ℕ) (a : Bool) (xs : List X) (i : ℕ) → length xs ≤ i → done ++ left_text a (drop i xs) ≡ all →
      done ++ (cond {A = List ℕ} (a && false) (44 ∷ []) [] ++ 93 ∷ []) ≡ all
  array-ends done all a xs i end e =
      ap (λ l. done ++ (l ++ 93 ∷ [])) (separator-ends a) ∙ ap (λ l. done ++ left_text a l) (sym (drop_of_length-le xs end)) ∙ e

-- an array of two elements
pub pair-is : (a b c d : Bool) (p q r : List ℕ) → b ≡ false → c ≡ true → q ≡ r →
    (((cond {A = List ℕ} (a && true) (44 ∷ []) [] ++ 91 ∷ []) ++ (comma_if b ++ p)) ++ (cond {A = List ℕ} (c && true) (44 ∷ []) [] ++ q)) ++ (cond {A = List ℕ} (d && false) (44 ∷ []) [] ++ 93 ∷ [])
    ≡ comma_if a ++ 91 ∷ (p ++ 44 ∷ (r ++ 93 ∷ []))
pair-is a b c d p q r fresh later is =
    ap (λ x. (((cond {A = List ℕ} (a && true) (44 ∷ []) [] ++ 91 ∷ []) ++ (comma_if x ++ p)) ++ (cond {A = List ℕ} (c && true) (44 ∷ []) [] ++ q)) ++ (cond {A = List ℕ} (d && false) (44 ∷ []) [] ++ 93 ∷ [])) fresh
    ∙ ap (λ x. (((cond {A = List ℕ} (a && true) (44 ∷ []) [] ++ 91 ∷ []) ++ p) ++ (cond {A = List ℕ} (x && true) (44 ∷ []) [] ++ q)) ++ (cond {A = List ℕ} (d && false) (44 ∷ []) [] ++ 93 ∷ [])) later
    ∙ ap (λ x. (((cond {A = List ℕ} (a && true) (44 ∷ []) [] ++ 91 ∷ []) ++ p) ++ 44 ∷ x) ++ (cond {A = List ℕ} (d && false) (44 ∷ []) [] ++ 93 ∷ [])) is
    ∙ ap (λ x. (((cond {A = List ℕ} (a && true) (44 ∷ []) [] ++ 91 ∷ []) ++ p) ++ 44 ∷ r) ++ (x ++ 93 ∷ [])) (separator-ends d)
    ∙ ap (λ x. (((x ++ 91 ∷ []) ++ p) ++ 44 ∷ r) ++ 93 ∷ []) (separator-begins a)
    ∙ append_assoc ((comma_if a ++ 91 ∷ []) ++ p) (44 ∷ r) (93 ∷ [])
    ∙ append_assoc (comma_if a ++ 91 ∷ []) p (44 ∷ (r ++ 93 ∷ []))
    ∙ append_assoc (comma_if a) (91 ∷ []) (p ++ 44 ∷ (r ++ 93 ∷ []))
