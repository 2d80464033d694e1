-- Reading a number.
use Rattle.std.proofs.Common.{◌+◌, ◌-◌, ◌*◌, ◌≤◌, min, take, ◌≡◌, ℕ, ◌<◌, ◌^◌, List, length, true, false, ◌&&◌, Result, Ok, Err, refl, rules, arith, nat_lt}
use Rattle.std.proofs.{Common.{get_or, sym, if◌then◌else◌}, lemmas.{Bool.Decides.nat_tests, Grind.common_steps, Int.Digits.digits_value_more}}
use Rattle.std.{proofs.lemmas.Str.Parse.{digit_at, IsNumeralModel, numerals_by_value, parse_digits}, specs.{Char.{is_ascii_digit, digit_value}, List.list_all}}
use Rattle.std.specs.{Result.OkIff, Str.Parse.{digits_value, ParsesUnsigned}}
use borrow.Author.Tests.{ltb-true}
use Rattle.hub_http.specs.{Spelling.{is_numeral, number}, declared.{TheConstants.BODY_LIMIT, request_fault.RequestFault.{RequestFault, TheVariants.BadBody}}}

own : IsNumeralModel (λ ds. list_all is_ascii_digit ds ≡ true) (digits_value 10)
own = numerals_by_value _ (search rules)

numeral_digits : (text : List ℕ) → is_numeral text ≡ true → list_all is_ascii_digit text ≡ true
numeral_digits text plain = grind (arith, common_steps)

numeral_length : (text : List ℕ) → is_numeral text ≡ true → 0 < length text
numeral_length text plain = grind (arith, common_steps)

-- the result of `parse` if the digits are plain
pub numeral_parses : {E : Type 0} (text : List ℕ) (r : Result ℕ E) → is_numeral text ≡ true → ParsesUnsigned 32 10 text r
    → OkIff r ((0 < length text) × (digits_value 10 text < 2 ^ 32)) (digits_value 10 text)
numeral_parses text r plain h =
    parse_digits own 32 text r h (numeral_digits text plain)

pub too_large : {E : Type 0} (text : List ℕ) (e : E) → is_numeral text ≡ true → ParsesUnsigned 32 10 text (Err e)
    → number text ≡ Err BadBody
unfolding number
too_large text e plain h =
    let no = numeral_parses text (Err e) plain h in
    elim (nat_lt (digits_value 10 text) (2 ^ 32)) as (λ b. b ≡ nat_lt (digits_value 10 text) (2 ^ 32) → ◌≡◌ {A = Result ℕ RequestFault} (if is_numeral text && b then Ok (digits_value 10 text) else Err BadBody) (Err BadBody)) [
      | true ↦ λ e. absurd (no (numeral_length text plain, ltb-true _ _ (sym e)))
      | false ↦ λ e. rw plain refl
    ] refl

digit_is : (c : ℕ) → 48 ≤ c → c ≤ 57 → digit_value c ≡ c - 48
digit_is c low high = grind (arith, nat_tests)

-- one more digit of a length
pub capped_step : (text : List ℕ) (i n m : ℕ) → i < length text → list_all is_ascii_digit text ≡ true
    → n ≡ min (digits_value 10 (take i text)) (BODY_LIMIT + 1) → m ≡ min (n * 10 + (get_or text i 0 - 48)) (BODY_LIMIT + 1)
    → m ≡ min (digits_value 10 (take (i + 1) text)) (BODY_LIMIT + 1)
capped_step text i n m h digits e f =
    let d = digit_at text i (own.to text digits) h in
    let v : digit_value (get_or text i 0) ≡ get_or text i 0 - 48 = digit_is (get_or text i 0) d.0 d.1 in
    let more = digits_value_more 10 text i h in
    omega (arith, more, v, e, f)
