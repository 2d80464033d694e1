-- Readings side by side, one after another.
use Rattle.std.proofs.Common.{◌≡◌, ℕ, ◌+◌, ◌<◌, ◌≤◌, List, [], ◌∷◌, ◌++◌, length, drop, get_or, Option, Some, None, Ok, Err, refl, sym, ap, ◌∙◌, arith}
use Rattle.std.proofs.{Common.{append_assoc, append-nil, drop_of_length-le}, lemmas.{Bool.Decides.nat_tests, Grind.common_steps, List.drop_more}}
use Rattle.{json.specs.{Json.{Json, item}, Value.{value_view, items_view}, declared.value.Value.Value}, redaction.specs.Readings.{Reading, ◌>>=◌, ◌&◌, at}}
use Rattle.redaction.specs.{Readings.earlier_of, Values.each_from, declared.place.{Refusal.Refusal, Step.TheVariants.Item}, inner.SoFar.{noted, unless}}
use Rattle.redaction.specs.inner.SoFar.{collected}

-- the first of three faults, whichever two are compared first
earlier-assoc : (e f g : Refusal) → earlier_of (earlier_of e f) g ≡ earlier_of e (earlier_of f g)
earlier-assoc e f g = grind (arith, nat_tests, common_steps)

-- the values so far, and then the rest
abbrev pub joined : {A : Type 0} → Option Refusal → List A → Reading (List A) → Reading (List A)
joined first found rest = unless first found & rest >>= λ p. Ok (p.0 ++ p.1)

abbrev pub with_front : {A : Type 0} → Reading A → Reading (List A) → Reading (List A)
with_front one rest = one & rest >>= λ p. Ok (p.0 ∷ p.1)

module _ {A : Type 0} where
  one-more : (first : Option Refusal) (found : List A) (x : A) (rest : Reading (List A)) → joined first (found ++ x ∷ []) rest ≡ joined first found (with_front (Ok x) rest)
  one-more None found x (Ok rest) = ap Ok (append_assoc found (x ∷ []) rest)
  one-more None found x (Err g) = refl
  one-more (Some e) found x (Ok rest) = refl
  one-more (Some e) found x (Err g) = refl

  one-fault : (first : Option Refusal) (found : List A) (e : Refusal) (rest : Reading (List A)) → joined (Some (noted first e)) found rest ≡ joined first found (with_front (Err e) rest)
  one-fault None found e (Ok rest) = refl
  one-fault None found e (Err g) = refl
  one-fault (Some f) found e (Ok rest) = refl
  one-fault (Some f) found e (Err g) = ap Err (earlier-assoc f e g)

  none-left : (first : Option Refusal) (found : List A) → joined first found (Ok []) ≡ unless first found
  none-left None found = ap Ok (append-nil found)
  none-left (Some e) found = refl

  one-reading : (s : Option Refusal × List A) (r : Reading A) (rest : Reading (List A)) → joined (collected s r).0 (collected s r).1 rest ≡ joined s.0 s.1 (with_front r rest)
  one-reading s (Ok x) rest = one-more s.0 s.1 x rest
  one-reading s (Err e) rest = one-fault s.0 s.1 e rest

module _ {A B : Type 0} (read : Json → Reading A) (xs : List (Value B)) (all : Reading (List A)) where
  next-item : (i : ℕ) (x : Value B) → i < length xs → x ≡ get_or xs i x → items_view (drop i xs) ≡ item (value_view x) (items_view (drop (i + 1) xs))
  next-item i x h is = ap items_view (drop_more xs i x h) ∙ ap (λ y. item (value_view y) (items_view (drop (i + 1) xs))) (sym is)

  -- one item more was read
  pub item-read : (i : ℕ) (x : Value B) (r : Reading A) (s t : Option Refusal × List A) → i < length xs → x ≡ get_or xs i x → r ≡ at (Item i) (read (value_view x)) → t ≡ collected s r
      → joined s.0 s.1 (each_from i read (items_view (drop i xs))) ≡ all → joined t.0 t.1 (each_from (i + 1) read (items_view (drop (i + 1) xs))) ≡ all
  item-read i x r s t h is e grown inv =
      let rest = each_from (i + 1) read (items_view (drop (i + 1) xs)) in
      ap (λ u. joined u.0 u.1 rest) grown ∙ one-reading s r rest ∙ ap (λ q. joined s.0 s.1 (with_front q rest)) e
      ∙ sym (ap (λ l. joined s.0 s.1 (each_from i read l)) (next-item i x h is)) ∙ inv

  -- no item is left
  pub items-end : (i : ℕ) (first : Option Refusal) (found : List A) → length xs ≤ i → joined first found (each_from i read (items_view (drop i xs))) ≡ all → unless first found ≡ all
  items-end i first found h inv =
      sym (none-left first found) ∙ sym (ap (λ l. joined first found (each_from i read (items_view l))) (drop_of_length-le xs h)) ∙ inv
