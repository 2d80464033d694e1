-- What a strict reading of a text says of the text.
use Rattle.std.proofs.Common.{◌≡◌, ℕ, List, Bool, true, false, not, if◌then◌else◌, Option, Some, None, Ok, Err, IsSomeAnd, IsUtf8, refl, sym, ap, ◌∙◌}
use Rattle.{std.{proofs.lemmas.Str.{is_utf8-from_IsUtf8, IsUtf8-from_is_utf8}, specs.Str.is_utf8}, json.specs.{Json.{Json, document}, Strict.HasUniqueKeys}}
use Rattle.redaction.{proofs.Unique.{undoubled as unique-is, doubled}, specs.{Described.undoubled, Readings.{Reading, ◌>>=◌, or_fault, require, refused}}}
use Rattle.redaction.specs.{Values.{parsed, has_doubled}, Words.word_of, declared.fault.Fault.TheVariants.{ViewNotJson, DoubledMember, NotUtf8}}

is-parsed : (bytes : List ℕ) (o : Option Json) → IsUtf8 bytes → document bytes ≡ o → parsed bytes ≡ or_fault ViewNotJson o
is-parsed bytes o text e = ap (λ b. or_fault ViewNotJson (if b then document bytes else None)) (is_utf8-from_IsUtf8 bytes text) ∙ ap (or_fault ViewNotJson) e

abbrev judged : Json → Reading Json
judged j = require (not (has_doubled j)) DoubledMember >>= λ _. Ok j

undoubled-is : (bytes : List ℕ) → undoubled bytes ≡ (parsed bytes >>= judged)
unfolding undoubled
undoubled-is bytes = refl

pub read-once : (bytes : List ℕ) (j : Json) → IsUtf8 bytes → document bytes ≡ Some j → HasUniqueKeys j → undoubled bytes ≡ Ok j
read-once bytes j text e once =
    undoubled-is bytes ∙ ap (λ r. r >>= judged) (is-parsed bytes (Some j) text e) ∙ ap (λ b. require (not b) DoubledMember >>= λ _. Ok j) (unique-is j once)

doubled-in : (bytes : List ℕ) (o : Option Json) → IsUtf8 bytes → document bytes ≡ o → IsSomeAnd o (λ j. ¬ HasUniqueKeys j) → undoubled bytes ≡ Err (refused DoubledMember)
doubled-in bytes None text e never = absurd never
doubled-in bytes (Some j) text e never =
    undoubled-is bytes ∙ ap (λ r. r >>= judged) (is-parsed bytes (Some j) text e) ∙ ap (λ b. require (not b) DoubledMember >>= λ _. Ok j) (doubled j never)

pub read-doubled : (bytes : List ℕ) → IsUtf8 bytes → IsSomeAnd (document bytes) (λ j. ¬ HasUniqueKeys j) → undoubled bytes ≡ Err (refused DoubledMember)
read-doubled bytes text never = doubled-in bytes (document bytes) text refl never

pub read-none : (bytes : List ℕ) → IsUtf8 bytes → document bytes ≡ None → undoubled bytes ≡ Err (refused ViewNotJson)
read-none bytes text e = undoubled-is bytes ∙ ap (λ r. r >>= judged) (is-parsed bytes None text e)

by-text : (bytes : List ℕ) (b : Bool) → b ≡ is_utf8 bytes → ¬ IsUtf8 bytes → undoubled bytes ≡ Err (refused ViewNotJson)
by-text bytes true e never = absurd (never (IsUtf8-from_is_utf8 bytes (sym e)))
by-text bytes false e never = undoubled-is bytes ∙ ap (λ b. or_fault ViewNotJson (if b then document bytes else None) >>= judged) (sym e)

pub read-other : (bytes : List ℕ) → ¬ IsUtf8 bytes → undoubled bytes ≡ Err (refused ViewNotJson)
read-other bytes never = by-text bytes (is_utf8 bytes) refl never

-- ---- a word

word-by : (bytes : List ℕ) (b : Bool) → is_utf8 bytes ≡ b → word_of bytes ≡ (if b then Ok bytes else Err NotUtf8)
word-by bytes b e = ap (λ t. if t then Ok bytes else Err NotUtf8) e

pub word-is : (bytes text : List ℕ) → text ≡ bytes → IsUtf8 bytes → word_of bytes ≡ Ok text
word-is bytes text e h = word-by bytes true (is_utf8-from_IsUtf8 bytes h) ∙ ap Ok (sym e)

no-word-by : (bytes : List ℕ) (b : Bool) → b ≡ is_utf8 bytes → ¬ IsUtf8 bytes → word_of bytes ≡ Err NotUtf8
no-word-by bytes true e never = absurd (never (IsUtf8-from_is_utf8 bytes (sym e)))
no-word-by bytes false e never = word-by bytes false (sym e)

pub no-word : (bytes : List ℕ) → ¬ IsUtf8 bytes → word_of bytes ≡ Err NotUtf8
no-word bytes never = no-word-by bytes (is_utf8 bytes) refl never
