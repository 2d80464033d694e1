use Rattle.std.proofs.Common.{◌≡◌, ℕ, ◌<◌, ◌^◌, false, Option, Some, None, Result, decimal, sym, ◌∙◌, ap, true≢false, bytes_eq, arith}
use Rattle.{std.{proofs.lemmas.Fmt.parse-decimal, specs.{Result.result_ok, Str.Parse.ParsesUnsigned}}, json_pointer.specs.Text.Bytes}
use Rattle.iodef_tree.proofs.Order.{bytes_eq-refl}
use Rattle.iodef_tree.proofs.lookup.place_of_token.Goals as goal

-- the decimal digits of a number are read as that number
read : {E : Type 0} (token : Bytes) (r : Result ℕ E) (o : Option ℕ) → ParsesUnsigned 64 10 token r → o ≡ result_ok r → (k : ℕ) → k < 2 ^ 64 → token ≡ decimal k → o ≡ Some k
read token r o parses is k small spelled = is ∙ ap result_ok (parse-decimal 64 k token r small small spelled parses)

unread : {E : Type 0} (token : Bytes) (r : Result ℕ E) (o : Option ℕ) → ParsesUnsigned 64 10 token r → o ≡ result_ok r → o ≡ None → (k : ℕ) → k < 2 ^ 64 → token ≡ decimal k → ⊥
unread token r o parses is none k small spelled = let e : o ≡ Some k = read token r o parses is k small spelled in cc

misread : {E : Type 0} (token : Bytes) (r : Result ℕ E) (o : Option ℕ) (place : ℕ) (digits : Bytes) → ParsesUnsigned 64 10 token r → o ≡ result_ok r → o ≡ Some place → digits ≡ decimal place →
    bytes_eq digits token ≡ false → (k : ℕ) → k < 2 ^ 64 → token ≡ decimal k → ⊥
misread token r o place digits parses is some written differ k small spelled =
    let e : o ≡ Some k = read token r o parses is k small spelled in
    let same : place ≡ k = cc in
    let text : digits ≡ token = written ∙ ap decimal same ∙ sym spelled in
    true≢false (sym (bytes_eq-refl digits) ∙ ap (bytes_eq digits) text ∙ differ)

pub returns-in_err-place-clause-none : goal.returns-in_err-place-clause-none
returns-in_err-place-clause-none c = grind (arith, unread)

pub returns-else-eq-clause-none : goal.returns-else-eq-clause-none
returns-else-eq-clause-none c = grind (arith, misread)
