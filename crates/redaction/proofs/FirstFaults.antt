-- Readings side by side: their fault, or what is made of their values.
use Rattle.{std.proofs.Common.{◌≡◌, ℕ, ℤ, [], ◌∷◌, Bool, ◌||◌, Option, Err, sym, ap}, json.specs.Json.Json, iodef_tree.specs.Text.Bytes}
use Rattle.{policy.specs.declared.{case.Case.Case, standing.Standing.Standing}, redaction.specs.Described.{grantee_in, handling_in, short_in, gates_in}}
use Rattle.redaction.specs.Described.{permissions_in, case_of, case_in, reader_names, flags_in, lists_in, reader_of, reader_in, has_end, now_in, view_read}
use Rattle.redaction.specs.{Described.long_in, Readings.{Reading, ◌>>=◌, ◌&◌}, Values.{number_in, only, wanted, given, given_or}}
use Rattle.redaction.specs.declared.place.Refusal.{Refusal}
use Rattle.redaction.specs.declared.place.Part.TheVariants as part

-- a fault goes through the readings that follow
fault-through : {A B : Type 0} (r : Reading A) (e : Refusal) (f : A → Reading B) → r ≡ Err e → Err e ≡ (r >>= f)
fault-through r e f bad = ap (λ q. q >>= f) (sym bad)

module _ (j : Json) (e : Refusal) where
  pub grantee-fault : (given number_in part.Person j & given number_in part.Org j) & (given number_in part.Community j & given number_in part.Group j) ≡ Err e → Err e ≡ grantee_in j
  unfolding grantee_in
  grantee-fault bad = fault-through _ e _ bad

  pub short-fault : (b : Bool) → only (part.Clearance ∷ part.Incident ∷ part.Now ∷ []) j & wanted handling_in part.Clearance j & (given_or 0 number_in part.Incident j & now_in b j) ≡ Err e → Err e ≡ short_in b j
  unfolding short_in
  short-fault b bad = fault-through _ e _ bad

  pub case-fault : only (part.Source ∷ part.Community ∷ part.Gates ∷ part.Permissions ∷ []) j & (wanted number_in part.Source j & given number_in part.Community j) & (wanted gates_in part.Gates j & given_or [] permissions_in part.Permissions j) ≡ Err e → Err e ≡ case_of j
  unfolding case_of
  case-fault bad = fault-through _ e _ bad

  pub reader-fault : only reader_names j & flags_in j & (wanted number_in part.Who j & wanted number_in part.Org j) & (given handling_in part.Arrangement j & lists_in j) ≡ Err e → Err e ≡ reader_of j
  unfolding reader_of
  reader-fault bad = fault-through _ e _ bad

pub long-is : (b : Bool) (j : Json) (r : Reading ((Unit {0} × ((ℤ × Option Bytes) × ℕ)) × (Case × Standing))) → r ≡ (only (part.Now ∷ part.Incident ∷ part.Case ∷ part.Reader ∷ []) j & (now_in (b || has_end j) j & given_or 0 number_in part.Incident j) & (wanted case_in part.Case j & wanted reader_in part.Reader j)) → view_read r ≡ long_in b j
unfolding long_in
long-is b j r e = ap view_read e
