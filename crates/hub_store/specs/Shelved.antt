-- The shelf over a connection, as its callers see it.
use Rattle.std.specs.Prelude.{ℕ, refl}
use Rattle.std.specs.Coded.{Coded, code_by, coded×, coded_ℕ}
use Rattle.sqlite.specs.Held.{Held, held_code}

-- a connection and the count of failures
pub record Shelved (S : Type 0) : Type 0 where
  pub conn : Held S
  -- how often the store has failed
  pub failures : ℕ

-- the coding of a shelf as the pair of its fields, which the prover needs of its view
abbrev pub shelved_code : {S : Type 0} → Coded S → Coded (Shelved S)
shelved_code {S} store =
    code_by (Held S × ℕ) (coded× (held_code store) coded_ℕ) (λ h. (h.conn, h.failures))
    (λ p. record { conn = p.0; failures = p.1 }) (λ _. refl)
