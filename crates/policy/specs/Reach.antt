-- How the gates and the permissions of a case stand to a reader, each list as a whole.
use Rattle.std.specs.Prelude.{Bool, ◌&&◌, List, is_some}
use Rattle.std.specs.List.{list_any}
use Rattle.iodef_tree.specs.Text.{is_root}
use Rattle.policy.specs.Gates.{refusal_of_gate}
use Rattle.policy.specs.Permissions.{holds_for}
use Rattle.policy.specs.declared.standing.Standing.{Standing}
use Rattle.policy.specs.declared.gate.Gate.{Gate}
use Rattle.policy.specs.declared.permission.Permission.{Permission}
use Rattle.policy.specs.declared.reach.Reach.{Reach}

-- whether the gate refuses the reader
abbrev pub is_refusing : Standing → Gate → Bool
is_refusing s g = is_some (refusal_of_gate s g)

-- whether the gate is at the root and refuses the reader
abbrev pub is_shutting : Standing → Gate → Bool
is_shutting s g = is_root g.path && is_refusing s g

-- how these gates and permissions stand to the reader
abbrev pub reach_of : List Gate → List Permission → Standing → Reach
reach_of gates permissions s = record {
  shut = list_any (is_shutting s) gates;
  refused = list_any (is_refusing s) gates;
  permitted = list_any (holds_for s) permissions;
}
