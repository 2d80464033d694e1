-- Tests and counts on the gates, recipients and permissions of one incident.
use Rattle.std.specs.Prelude.{ℕ, ℤ, ◌+◌, Bool, not, ◌&&◌, ◌==◌, List, Option, count_by, if◌then◌else◌}
use Rattle.std.specs.List.{list_any}
use Rattle.iodef_tree.specs.Text.{Tokens, same_path, is_root}
use Rattle.policy.specs.declared.gate.Gate.{Gate}
use Rattle.policy.specs.declared.permission.Grantee.{Grantee}
use Rattle.policy.specs.declared.permission.Permission.{Permission}
use Rattle.hub_state.specs.State.{same_end, same_grantee, same_group, same_target}
use Rattle.hub_state.specs.declared.request.Target.{Target}

-- ---- is there such a one?

-- there is a gate of this path, level and group
abbrev pub is_gate_among : Tokens → ℕ → Option ℕ → List Gate → Bool
is_gate_among path level group gates =
    list_any (λ (g : Gate). same_path g.path path && (g.level == level && same_group g.group group)) gates

-- there is this recipient
abbrev pub is_target_among : Target → List Target → Bool
is_target_among target targets = list_any (λ (t : Target). same_target t target) targets

-- the permission is at this path and for this grantee
abbrev pub is_permission_of : Tokens → Grantee → Permission → Bool
is_permission_of path grantee x = same_path x.path path && same_grantee x.grantee grantee

-- there is a permission at this path for this grantee, ended or not
abbrev pub is_permission_among : Tokens → Grantee → List Permission → Bool
is_permission_among path grantee permissions = list_any (is_permission_of path grantee) permissions

-- there is a permission at this path for this grantee with this end
abbrev pub is_permission_among_until : Tokens → Grantee → Option ℤ → List Permission → Bool
is_permission_among_until path grantee until permissions =
    list_any (λ (x : Permission). is_permission_of path grantee x && same_end x.until until) permissions

-- ---- how many are there?

-- how many gates are at a class
abbrev pub class_gates_among : List Gate → ℕ
class_gates_among gates = count_by (λ (g : Gate). not (is_root g.path)) gates

-- how many gates at a class there would be with one at this path, in place of the one there
abbrev pub class_gates_with : Tokens → List Gate → ℕ
class_gates_with path gates =
    (if not (is_root path) then 1 else 0)
    + count_by (λ (g : Gate). not (same_path g.path path) && not (is_root g.path)) gates

-- how many recipients there are without this one
abbrev pub targets_beside : Target → List Target → ℕ
targets_beside target targets = count_by (λ (t : Target). not (same_target t target)) targets

-- how many permissions there are without the one at this path for this grantee
abbrev pub permissions_beside : Tokens → Grantee → List Permission → ℕ
permissions_beside path grantee permissions =
    count_by (λ (x : Permission). not (is_permission_of path grantee x)) permissions
