-- The hub's state: thirteen sets, each as the list of its rows in the order of the key. Nine of them are the
-- directory's.
use Rattle.std.specs.Prelude.{ℕ, ℤ, Bool, true, false, not, ◌&&◌, ◌||◌, ◌==◌, List, [], Option, Some, None, find, count_by}
use Rattle.std.specs.List.{list_any}
use Rattle.std.specs.Option.{option_map_or}
use Rattle.std.specs.Ordering.{nat_cmp, int_eq, ordering_then}
use Rattle.std.specs.declared.cmp.Ordering.{Ordering}
use Rattle.std.specs.Cmp.Lexicographic.{slice_cmp}
use Rattle.std.specs.Str.{bytes_eq}
use Rattle.iodef_tree.specs.Text.{Bytes, Tokens, same_path, is_root}
use Rattle.iodef_tree.specs.Pointer.{pointer_text}
use Rattle.policy.specs.declared.permission.Grantee.{Grantee}
use Rattle.circle.specs.Ordered.{pair_cmp}
use Rattle.circle.specs.Directory.{Directory}
use Rattle.hub_state.specs.Documents.{is_class_in}
use Rattle.hub_state.specs.declared.request.Target.{Target}
use Rattle.hub_state.specs.declared.state.Incident.{Incident}
use Rattle.hub_state.specs.declared.state.Gate.{Gate}
use Rattle.hub_state.specs.declared.state.GateKey.{GateKey}
use Rattle.hub_state.specs.declared.state.Recipient.{Recipient}
use Rattle.hub_state.specs.declared.state.Permission.{Permission}
use Rattle.hub_state.specs.declared.state.PermissionKey.{PermissionKey}
use Rattle.policy.specs.declared.permission.Grantee.TheVariants as grantee
use Rattle.circle.specs.Directory as circle
use Rattle.hub_state.specs.declared.request.Target.TheVariants as target

-- the directory and the four sets that belong to incidents
pub record State : Type 0 where
  pub directory : Directory
  pub incidents : List Incident
  pub gates : List Gate
  pub recipients : List Recipient
  pub permissions : List Permission

-- the state without any row
abbrev pub empty : State
empty = record { directory = circle.empty; incidents = []; gates = []; recipients = []; permissions = [] }

-- ---- keys and orders

-- the number of an incident, by which incidents are ordered
abbrev pub incident_number : Incident → ℕ
incident_number i = i.naming.number

-- the key of a gate: incident and path
abbrev pub gate_key : Gate → GateKey
gate_key g = record { incident = g.incident; path = g.gate.path }

-- the key of a permission: incident, path and grantee
abbrev pub permission_key : Permission → PermissionKey
permission_key x = record { incident = x.incident; path = x.permission.path; grantee = x.permission.grantee }

-- the order of two places: by incident, then by the bytes of the path's JSON pointer
abbrev pub path_cmp : ℕ → Tokens → ℕ → Tokens → Ordering
path_cmp m p n q = ordering_then (nat_cmp m n) (slice_cmp nat_cmp (pointer_text p) (pointer_text q))

-- the kind of a target and its number; targets are compared by these
abbrev pub target_key : Target → ℕ × ℕ
target_key (target.Person n) = (0, n)
target_key (target.Org n) = (1, n)

-- the kind of a grantee and its number; grantees are compared by these
abbrev pub grantee_key : Grantee → ℕ × ℕ
grantee_key (grantee.Person n) = (0, n)
grantee_key (grantee.Org n) = (1, n)
grantee_key (grantee.Community n) = (2, n)
grantee_key (grantee.Group n) = (3, n)

-- gates in the order of incident, then of path
abbrev pub gate_cmp : Gate → Gate → Ordering
gate_cmp a b = path_cmp a.incident a.gate.path b.incident b.gate.path

-- recipients in the order of incident, then of kind and number
abbrev pub recipient_cmp : Recipient → Recipient → Ordering
recipient_cmp a b = ordering_then (nat_cmp a.incident b.incident) (pair_cmp (target_key a.target) (target_key b.target))

-- permissions in the order of incident, then of path, then of grantee
abbrev pub permission_cmp : Permission → Permission → Ordering
permission_cmp a b =
    ordering_then (path_cmp a.incident a.permission.path b.incident b.permission.path)
    (pair_cmp (grantee_key a.permission.grantee) (grantee_key b.permission.grantee))

-- ---- the same

-- two pairs have equal parts
abbrev pub same_pair : ℕ × ℕ → ℕ × ℕ → Bool
same_pair a b = a.0 == b.0 && a.1 == b.1

-- two targets are of one kind and number
abbrev pub same_target : Target → Target → Bool
same_target a b = same_pair (target_key a) (target_key b)

-- two grantees are of one kind and number
abbrev pub same_grantee : Grantee → Grantee → Bool
same_grantee a b = same_pair (grantee_key a) (grantee_key b)

-- two groups are the same, or there is none in either place
abbrev pub same_group : Option ℕ → Option ℕ → Bool
same_group None None = true
same_group (Some a) (Some b) = a == b
same_group (Some a) None = false
same_group None (Some b) = false

-- two permissions end at the same moment, or both never
abbrev pub same_end : Option ℤ → Option ℤ → Bool
same_end None None = true
same_end (Some a) (Some b) = int_eq a b
same_end (Some a) None = false
same_end None (Some b) = false

-- ---- rows, each under its key

-- the gate is of this key
abbrev pub is_gate_at : GateKey → Gate → Bool
is_gate_at k g = g.incident == k.incident && same_path g.gate.path k.path

-- the recipient is this target of this incident
abbrev pub is_recipient_being : ℕ → Target → Recipient → Bool
is_recipient_being n target r = r.incident == n && same_target r.target target

-- the permission is of this key, whatever its end
abbrev pub is_permission_being : PermissionKey → Permission → Bool
is_permission_being k x =
    x.incident == k.incident
    && (same_path x.permission.path k.path && same_grantee x.permission.grantee k.grantee)

-- the gate of this key with this level and group
abbrev pub gate_with : GateKey → ℕ → Option ℕ → Gate
gate_with k level group = record { incident = k.incident; gate = record { path = k.path; level = level; group = group } }

-- the permission of this key with this end
abbrev pub permission_with : PermissionKey → Option ℤ → Permission
permission_with k until = record { incident = k.incident; permission = record { path = k.path; grantee = k.grantee; until = until } }

-- the incident of this number in a list, if it is there
abbrev pub incident_in : ℕ → List Incident → Option Incident
incident_in n incidents = find (λ (i : Incident). i.naming.number == n) incidents

-- the incident of this number, if it is there
abbrev pub incident_of : ℕ → State → Option Incident
incident_of n s = incident_in n s.incidents

-- the incident that a source posted under an ident, if it is there
abbrev pub incident_named : ℕ → Bytes → State → Option Incident
incident_named source ident s =
    find (λ (i : Incident). i.naming.source == source && bytes_eq i.naming.ident ident) s.incidents

-- the incident of this number is there and passes a test
abbrev pub of_incident : (Incident → Bool) → ℕ → List Incident → Bool
of_incident test n incidents = option_map_or test (incident_in n incidents) false

-- the incident has a class at this path
abbrev pub is_class_of : List Incident → ℕ → Tokens → Bool
is_class_of incidents n p = of_incident (λ (i : Incident). is_class_in i.document p) n incidents

-- the path is the root of an incident that is there, or one of its classes
abbrev pub is_place_of : List Incident → ℕ → Tokens → Bool
is_place_of incidents n p = of_incident (λ (i : Incident). is_root p || is_class_in i.document p) n incidents

-- ---- is there such a row?

-- there is a gate of this key with this level and group
abbrev pub has_gate : GateKey → ℕ → Option ℕ → State → Bool
has_gate k level group s =
    list_any (λ (g : Gate). is_gate_at k g && (g.gate.level == level && same_group g.gate.group group)) s.gates

-- the incident has this recipient
abbrev pub has_recipient : ℕ → Target → State → Bool
has_recipient n target s = list_any (is_recipient_being n target) s.recipients

-- there is a permission of this key, ended or not
abbrev pub has_permission : PermissionKey → State → Bool
has_permission k s = list_any (is_permission_being k) s.permissions

-- there is a permission of this key with this end
abbrev pub has_permission_until : PermissionKey → Option ℤ → State → Bool
has_permission_until k until s =
    list_any (λ (x : Permission). is_permission_being k x && same_end x.permission.until until) s.permissions

-- ---- how many rows of an incident are there?

-- how many gates an incident has at its root
abbrev pub root_gates : ℕ → List Gate → ℕ
root_gates n gates = count_by (λ (g : Gate). g.incident == n && is_root g.gate.path) gates

-- how many gates an incident has at its classes
abbrev pub class_gates : ℕ → List Gate → ℕ
class_gates n gates = count_by (λ (g : Gate). g.incident == n && not (is_root g.gate.path)) gates

-- how many recipients an incident has
abbrev pub recipients_of : ℕ → List Recipient → ℕ
recipients_of n recipients = count_by (λ (r : Recipient). r.incident == n) recipients

-- how many permissions an incident has, ended ones included
abbrev pub permissions_of : ℕ → List Permission → ℕ
permissions_of n permissions = count_by (λ (x : Permission). x.incident == n) permissions
