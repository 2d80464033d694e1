-- The order in which the permissions of a trace are written.
use Rattle.std.specs.Prelude.{ℕ, Bool, List, [], ◌∷◌, if◌then◌else◌, codes}
use Rattle.std.specs.declared.cmp.Ordering.{Ordering}
use Rattle.std.specs.Ordering.{nat_cmp, is_lt, on, then_cmp}
use Rattle.std.specs.Cmp.Lexicographic.{slice_cmp}
use Rattle.iodef_tree.specs.Text.{Bytes}
use Rattle.iodef_tree.specs.Pointer.{pointer_text}
use Rattle.policy.specs.declared.permission.Grantee.{Grantee}
use Rattle.policy.specs.declared.permission.Grantee.TheVariants.{Person, Org, Community, Group}
use Rattle.policy.specs.declared.permission.Permission.{Permission}
use Rattle.explain.specs.declared.listing.PrintedPermission.{PrintedPermission}

-- a permission with the JSON pointer of its path
abbrev pub entry_of : Permission → PrintedPermission
entry_of x = record { pointer = pointer_text x.path; grantee = x.grantee; until = x.until }

-- the order of the kinds of grantee: persons, organisations, communities, groups
abbrev pub kind_place : Grantee → ℕ
kind_place (Person n) = 0
kind_place (Org n) = 1
kind_place (Community n) = 2
kind_place (Group n) = 3

-- the word for a kind of grantee
abbrev pub kind_name : Grantee → Bytes
kind_name (Person n) = codes "person"
kind_name (Org n) = codes "org"
kind_name (Community n) = codes "community"
kind_name (Group n) = codes "group"

-- the number of a grantee
abbrev pub grantee_number : Grantee → ℕ
grantee_number (Person n) = n
grantee_number (Org n) = n
grantee_number (Community n) = n
grantee_number (Group n) = n

-- the order of permissions: by the bytes of the pointer, then by kind, then by number; the end doesn't count
abbrev pub entry_cmp : PrintedPermission → PrintedPermission → Ordering
entry_cmp =
    then_cmp (on (λ e. e.pointer) (slice_cmp nat_cmp))
    (then_cmp (on (λ e. kind_place e.grantee) nat_cmp) (on (λ e. grantee_number e.grantee) nat_cmp))

-- one permission comes before another in this order
abbrev pub comes_before : PrintedPermission → PrintedPermission → Bool
comes_before e f = is_lt (entry_cmp e f)

-- a permission put before the first that comes after it
abbrev pub put : PrintedPermission → List PrintedPermission → List PrintedPermission
put e [] = e ∷ []
put e (f ∷ fs) = if comes_before e f then e ∷ f ∷ fs else f ∷ put e fs

-- several permissions put in, one after another
abbrev pub put_all : List PrintedPermission → List PrintedPermission → List PrintedPermission
put_all fs [] = fs
put_all fs (e ∷ es) = put_all (put e fs) es

-- The permissions in this order. Those of which none comes before the other stay in the order of the case.
abbrev pub permissions_in_order : List PrintedPermission → List PrintedPermission
permissions_in_order es = put_all [] es
