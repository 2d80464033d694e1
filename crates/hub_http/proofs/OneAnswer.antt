-- The bytes ask one thing or have one fault, but for the one case with two right faults.
use Rattle.std.proofs.Common.{◌≡◌, ℕ, ◌<◌, ◌≤◌, ◌⊎◌, List, [], length, drop, Ok, Err, refl, ap, sym, ◌∙◌, subst, inl, inr, arith, append-nil}
use Rattle.httparse.{proofs.GrammarLemmas.request_unique, specs.Grammar.{print_request, HasNoRequest, NeverHasRequest, MayBecomeRequest}}
use Rattle.hub_http.specs.{Laws.IsOpenTarget, Wire.{Asked, Wire, AsksByHead, IsHeadless, asked_by, window, fields_of}, declared.TheConstants.HEAD_LIMIT}
use Rattle.hub_http.specs.declared.wire_fault.WireFault.TheVariants as fault

never_now : (bytes : List ℕ) → NeverHasRequest bytes → HasNoRequest bytes
never_now bytes never = subst HasNoRequest (append-nil bytes) (never [])

-- without a whole head none is found
headless_none : (bytes : List ℕ) (a : Asked) → IsHeadless bytes a → HasNoRequest (window bytes)
headless_none bytes (Ok x) h = absurd h
headless_none bytes (Err fault.HeadTooLong) h = h.1
headless_none bytes (Err fault.BadHead) h = never_now (window bytes) h
headless_none bytes (Err fault.Chunked) h = absurd h
headless_none bytes (Err fault.NoLength) h = absurd h
headless_none bytes (Err fault.TooLarge) h = absurd h
headless_none bytes (Err fault.Truncated) h = h.1
headless_none bytes (Err fault.NoRoute) h = absurd h
headless_none bytes (Err fault.BadBody) h = absurd h
headless_none bytes (Err fault.NoMemory) h = absurd h

-- no head can come, and one may: only inside the target
open_target : (bytes : List ℕ) → NeverHasRequest (window bytes) → MayBecomeRequest (window bytes) → IsOpenTarget bytes
open_target bytes never may = elim may [
  | inl found ↦ absurd (never found.0 found.1 [] found.2)
  | inr ends ↦ (ends, never)
]

-- which of the three faults it is
data Kind (bytes : List ℕ) (a : Asked) : Type 0 where
  refused : a ≡ Err fault.BadHead → NeverHasRequest (window bytes) → Kind bytes a
  long : a ≡ Err fault.HeadTooLong → HEAD_LIMIT ≤ length bytes → MayBecomeRequest (window bytes) → Kind bytes a
  short : a ≡ Err fault.Truncated → length bytes < HEAD_LIMIT → MayBecomeRequest (window bytes) → Kind bytes a

kind : (bytes : List ℕ) (a : Asked) → IsHeadless bytes a → Kind bytes a
kind bytes (Ok x) h = absurd h
kind bytes (Err fault.HeadTooLong) h = long refl h.0 h.2
kind bytes (Err fault.BadHead) h = refused refl h
kind bytes (Err fault.Chunked) h = absurd h
kind bytes (Err fault.NoLength) h = absurd h
kind bytes (Err fault.TooLarge) h = absurd h
kind bytes (Err fault.Truncated) h = short refl h.0 h.2
kind bytes (Err fault.NoRoute) h = absurd h
kind bytes (Err fault.BadBody) h = absurd h
kind bytes (Err fault.NoMemory) h = absurd h

abbrev SameOr : List ℕ → Asked → Asked → Type 0
SameOr bytes a b = (a ≡ b) ⊎ IsOpenTarget bytes

kinds : (bytes : List ℕ) (a b : Asked) → Kind bytes a → Kind bytes b → SameOr bytes a b
kinds bytes a b (refused e never) (refused f other) = inl (e ∙ sym f)
kinds bytes a b (refused e never) (long f le may) = inr (open_target bytes never may)
kinds bytes a b (refused e never) (short f lt may) = inr (open_target bytes never may)
kinds bytes a b (long e le may) (refused f never) = inr (open_target bytes never may)
kinds bytes a b (long e le may) (long f other more) = inl (e ∙ sym f)
kinds bytes a b (long e le may) (short f lt more) = absurd (omega arith)
kinds bytes a b (short e lt may) (refused f never) = inr (open_target bytes never may)
kinds bytes a b (short e lt may) (long f le more) = absurd (omega arith)
kinds bytes a b (short e lt may) (short f other more) = inl (e ∙ sym f)

by_heads : (bytes : List ℕ) (a b : Asked) → AsksByHead bytes a → AsksByHead bytes b → a ≡ b
by_heads bytes a b (h, r, x, e) (k, q, y, f) =
    let same = request_unique (window bytes) h k r q x y in
    e ∙ ap (λ g. asked_by g.method g.target (fields_of g) (drop (length (print_request g)) bytes)) same.0 ∙ sym f

pub one_answer : (bytes : List ℕ) (a b : Asked) → Wire bytes a → Wire bytes b → (a ≡ b) ⊎ IsOpenTarget bytes
one_answer bytes a b (inl x) (inl y) = inl (by_heads bytes a b x y)
one_answer bytes a b (inl x) (inr y) = absurd (headless_none bytes b y x.0 x.1 x.2)
one_answer bytes a b (inr x) (inl y) = absurd (headless_none bytes a x y.0 y.1 y.2)
one_answer bytes a b (inr x) (inr y) = kinds bytes a b (kind bytes a x) (kind bytes b y)
