-- Whole numbers of a description, and the number of elements.
use Rattle.std.proofs.Common.{◌≡◌, ℕ, ◌<◌, ◌^◌, List, [], ◌∷◌, length, true, false, ◌&&◌, Result, Ok, Err, refl, rules, arith, nat_lt, sym, if◌then◌else◌}
use Rattle.std.{proofs.lemmas.{Grind.common_steps, Str.Parse.{IsNumeralModel, numerals_by_value, parse_digits}}, specs.{Char.is_ascii_digit, List.list_all}}
use Rattle.{std.specs.{Result.OkIff, Str.Parse.{digits_value, ParsesUnsigned}}, json.specs.{Value.items_view, declared.value.Value.Value}}
use borrow.Author.Tests.{ltb-true}
use Rattle.redaction.specs.{Readings.refused, Values.{is_whole, whole, count_of}, declared.{fault.Fault.TheVariants.OutOfRange, place.Refusal.Refusal}}

own : IsNumeralModel (λ ds. list_all is_ascii_digit ds ≡ true) (digits_value 10)
own = numerals_by_value _ (search rules)

digits : (text : List ℕ) → is_whole text ≡ true → list_all is_ascii_digit text ≡ true
digits text plain = grind (arith, common_steps)

some-digits : (text : List ℕ) → is_whole text ≡ true → 0 < length text
some-digits text plain = grind (arith, common_steps)

-- the result of `parse` if the text has digits only
pub whole_parses : {E : Type 0} (text : List ℕ) (r : Result ℕ E) → is_whole text ≡ true → ParsesUnsigned 32 10 text r
    → OkIff r ((0 < length text) × (digits_value 10 text < 2 ^ 32)) (digits_value 10 text)
whole_parses text r plain h = parse_digits own 32 text r h (digits text plain)

pub too_large : {E : Type 0} (text : List ℕ) (e : E) → is_whole text ≡ true → ParsesUnsigned 32 10 text (Err e)
    → Err (refused OutOfRange) ≡ whole text
too_large text e plain h =
    let no = whole_parses text (Err e) plain h in
    elim (nat_lt (digits_value 10 text) (2 ^ 32)) as (λ b. b ≡ nat_lt (digits_value 10 text) (2 ^ 32) → ◌≡◌ {A = Result ℕ Refusal} (Err (refused OutOfRange)) (if is_whole text && b then Ok (digits_value 10 text) else Err (refused OutOfRange))) [
      | true ↦ λ e. absurd (no (some-digits text plain, ltb-true _ _ (sym e)))
      | false ↦ λ e. rw plain refl
    ] refl

pub count-is : {A : Type 0} (xs : List (Value A)) → count_of (items_view xs) ≡ length xs
count-is [] = refl
count-is (x ∷ xs) = grind (arith, common_steps, count-is xs)
