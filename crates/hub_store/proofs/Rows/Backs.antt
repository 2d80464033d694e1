-- What is read back from the values of a row.
use Rattle.std.proofs.Common.{◌≡◌, ℕ, ℤ, zero, suc, pos, List, [], Bool, true, false, Option, Some, None, unwrap_or, refl, ap}
use Rattle.{sqlite_value.specs.declared.value.Value.{Value, TheVariants.{Int, Text, Blob}}, iodef_tree.proofs.Inverse.pointer_tokens-pointer_text}
use Rattle.{iodef_tree.specs.{Pointer.{pointer_text, pointer_tokens}, Text.Tokens}, circle.specs.declared.directory.Handling.{Handling, TheVariants.Clear}}
use Rattle.circle.specs.declared.directory.{Handling.TheVariants.{Green, Amber, Strict, Red}, Role.{Role, TheVariants.{Administrator, Coordinator, Poster}}}
use Rattle.{circle.specs.declared.directory.Role.TheVariants.Reader, hub_state.specs.{State.{target_key, grantee_key}, declared.request.Target.Target}}
use Rattle.{policy.specs.declared.permission.Grantee.Grantee, hub_store.specs.{Rows.{role_number, handling_number, one_if}, Values.number_or_null}}
use Rattle.hub_store.specs.Values.{moment_or_null, flag}
use Rattle.hub_state.specs.declared.request.Target.TheVariants as target
use Rattle.policy.specs.declared.permission.Grantee.TheVariants as grantee

-- ---- values

abbrev pub number_in : Value → ℕ
number_in (Int (pos n)) = n
number_in v = 0

abbrev pub text_in : Value → List ℕ
text_in (Text t) = t
text_in v = []

abbrev pub blob_in : Value → List ℕ
blob_in (Blob b) = b
blob_in v = []

abbrev pub is_set : Value → Bool
is_set (Int (pos (suc n))) = true
is_set v = false

pub flag_back : (b : Bool) → is_set (flag b) ≡ b
flag_back true = refl
flag_back false = refl

abbrev pub option_in : Value → Option ℕ
option_in (Int (pos n)) = Some n
option_in v = None

pub option_back : (o : Option ℕ) → option_in (number_or_null o) ≡ o
option_back None = refl
option_back (Some n) = refl

abbrev pub moment_in : Value → Option ℤ
moment_in (Int n) = Some n
moment_in v = None

pub moment_back : (o : Option ℤ) → moment_in (moment_or_null o) ≡ o
moment_back None = refl
moment_back (Some n) = refl

abbrev pub role_of : ℕ → Role
role_of zero = Administrator
role_of (suc zero) = Coordinator
role_of (suc (suc zero)) = Poster
role_of (suc (suc (suc n))) = Reader

pub role_back : (r : Role) → role_of (role_number r) ≡ r
role_back Administrator = refl
role_back Coordinator = refl
role_back Poster = refl
role_back Reader = refl

abbrev pub handling_of : ℕ → Handling
handling_of zero = Clear
handling_of (suc zero) = Green
handling_of (suc (suc zero)) = Amber
handling_of (suc (suc (suc zero))) = Strict
handling_of (suc (suc (suc (suc n)))) = Red

pub handling_back : (h : Handling) → handling_of (handling_number h) ≡ h
handling_back Clear = refl
handling_back Green = refl
handling_back Amber = refl
handling_back Strict = refl
handling_back Red = refl

abbrev pub target_of : ℕ → ℕ → Target
target_of zero n = target.Person n
target_of (suc k) n = target.Org n

pub target_back : (t : Target) → target_of (target_key t).0 (target_key t).1 ≡ t
target_back (target.Person n) = refl
target_back (target.Org n) = refl

abbrev pub grantee_of : ℕ → ℕ → Grantee
grantee_of zero n = grantee.Person n
grantee_of (suc zero) n = grantee.Org n
grantee_of (suc (suc zero)) n = grantee.Community n
grantee_of (suc (suc (suc k))) n = grantee.Group n

pub grantee_back : (t : Grantee) → grantee_of (grantee_key t).0 (grantee_key t).1 ≡ t
grantee_back (grantee.Person n) = refl
grantee_back (grantee.Org n) = refl
grantee_back (grantee.Community n) = refl
grantee_back (grantee.Group n) = refl

abbrev pub is_one : Option ℕ → Bool
is_one (Some (suc n)) = true
is_one o = false

pub bit_back : (b : Bool) → is_one (Some (one_if b)) ≡ b
bit_back true = refl
bit_back false = refl

-- the path of a pointer
abbrev pub path_in : Value → Tokens
path_in v = unwrap_or (pointer_tokens (text_in v)) []

pub path_back : (path : Tokens) → path_in (Text (pointer_text path)) ≡ path
path_back path = ap (λ o. unwrap_or o []) (pointer_tokens-pointer_text path)
