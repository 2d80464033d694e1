-- The bytes that a sink was given.
use Rattle.std.specs.Prelude.{◌≡◌, ℕ, ◌+◌, List, [], ◌++◌, Option, length}
use Rattle.std.proofs.Common.{refl, sym, append-nil, append_assoc, ap, ◌∙◌, arith, length-append}
use Rattle.std.proofs.KnownBytes.{Appends-nil, Appends-trans}
use Rattle.std.specs.Io.KnownBytes.{append_known, Appends}

-- the new bytes are the old ones with these behind them
abbrev pub Extends : List ℕ → List ℕ → List ℕ → Type 0
Extends old bytes new = new ≡ old ++ bytes

-- what a writer holds, if that is known, with the bytes behind it that wait to be written
abbrev pub shown : Option (List ℕ) → List ℕ → Option (List ℕ)
shown written waiting = append_known written waiting

-- It is the same writer, and it was given these bytes: what it holds and what waits is what it was, with the bytes
-- behind it.
abbrev pub Takes : {N : Type 0} → N → Option (List ℕ) → List ℕ → N → Option (List ℕ) → Type 0
Takes name old bytes name_after new = (name_after ≡ name) × Appends old new bytes

-- ---- no bytes, and one text behind another

-- no bytes behind a list leave it as it is
pub extends-none : (a : List ℕ) → Extends a [] a
extends-none a = sym (append-nil a)

-- two texts behind a list, one behind the other, are one text behind it
pub extends-both : (a b c x y : List ℕ) → Extends a x b → Extends b y c → Extends a (x ++ y) c
extends-both a b c x y p q = q ∙ ap (λ l. l ++ y) p ∙ append_assoc a x y

-- no bytes add nothing to a count
pub counts-none : (a : ℕ) → a ≡ a + length {A = ℕ} []
counts-none a = omega arith

-- two texts add their bytes to a count, as one text does
pub counts-both : (a b c : ℕ) (x y : List ℕ) → b ≡ a + length x → c ≡ b + length y → c ≡ a + length (x ++ y)
counts-both a b c x y p q = omega (arith, length-append {A = ℕ})

-- a writer that is given no bytes is the same
pub takes-none : {N : Type 0} (n : N) (a : Option (List ℕ)) → Takes n a [] n a
takes-none n a = (refl, Appends-nil a)

-- a writer that is given two texts, one behind the other, is given one text
pub takes-both : {N : Type 0} (m n o : N) (a b c : Option (List ℕ)) (x y : List ℕ) → Takes m a x n b → Takes n b y o c → Takes m a (x ++ y) o c
takes-both m n o a b c x y p q = (q.0 ∙ p.0, Appends-trans a b c x y p.1 q.1)
