-- Writes, one after another.
use Rattle.std.proofs.{Common.{◌≡◌, ◌++◌, Option, Result, Ok, Err, sym, ◌∙◌, ap, append_assoc}, KnownBytes.{Appends-trans, Appends-kept}}
use Rattle.{std.specs.Io.KnownBytes.{Appends, Keeps}, iodef_tree.specs.Text.Bytes, redact_program.specs.Streams.{AppendsSome, Writes}}

-- what is written so far, and what is left of the text
pub goes_on : (a b c : Option Bytes) (text done rest piece left : Bytes) → Appends a b done → text ≡ done ++ rest
    → Appends b c piece → rest ≡ piece ++ left → (all : Bytes) × Appends a c all × (text ≡ all ++ left)
goes_on a b c text done rest piece left p e q f =
    (done ++ piece, Appends-trans a b c done piece p q, e ∙ ap (λ r. done ++ r) f ∙ sym (append_assoc done piece left))

-- nothing more is written
pub stops : (a b c : Option Bytes) (text done rest : Bytes) → Appends a b done → text ≡ done ++ rest → Keeps b c
    → AppendsSome a c text
stops a b c text done rest p e k = (done, Appends-kept a b c done p k, (rest, e))

-- a beginning of a text is one of a longer text
pub begins_longer : (a b : Option Bytes) (x y : Bytes) → AppendsSome a b x → AppendsSome a b (x ++ y)
begins_longer a b x y (bs, p, (rest, e)) = (bs, p, (rest ++ y, ap (λ t. t ++ y) e ∙ append_assoc bs rest y))

-- a text, and then one that is written or not
pub then_writes : {X E : Type 0} (a b c : Option Bytes) (x y : Bytes) (r : Result X E) → Appends a b x → Writes b c y r
    → Writes a c (x ++ y) r
then_writes a b c x y (Ok v) p q = Appends-trans a b c x y p q
then_writes a b c x y (Err e) p (bs, q, (rest, f)) =
    (x ++ bs, Appends-trans a b c x bs p q, (rest, ap (λ t. x ++ t) f ∙ sym (append_assoc x bs rest)))
