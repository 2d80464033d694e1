-- The lists in memory: the rows of a state without its directory, and an index.
use Rattle.std.specs.Prelude.{◌≡◌, ℕ, ◌+◌, ◌≤◌, Bool, List, map, vec_len, vec_capacity}
use Rattle.std.specs.List.{list_any}
use Rattle.circle.specs.Directory.{Directory}
use Rattle.hub_state.specs.State.{State, gate_cmp, recipient_cmp, permission_cmp}
use Rattle.circle.specs.Aftermath.{edited_rows}
use Rattle.hub_state.specs.Edits.{edited, with_edits}
use Rattle.hub_state.specs.inner.Changes.{row_edit}
use Rattle.hub_state.specs.declared.change.RowChange.{RowChange}
use Rattle.hub_state.specs.InOrder.{IsInOrder}
use Rattle.hub_state.specs.Orders.{incident_cmp, named_cmp, named}
use Rattle.hub_state.specs.declared.state.Incident.{Incident}
use Rattle.hub_state.specs.declared.edit.Edit.{Edit}
use Rattle.hub_state.specs.declared.rows.Named.{Named}
use Rattle.hub_state.specs.declared.lists.Lists.{Lists}
use Rattle.circle_rows.specs.Rows as directory

-- the state that these lists are beside a directory
abbrev pub with_directory : Directory → Lists → State
with_directory d l = record {
  directory = d;
  incidents = l.incidents.items;
  gates = l.gates.items;
  recipients = l.recipients.items;
  permissions = l.permissions.items;
}

-- a test passes some name exactly if it passes the name of some incident
abbrev pub IsIndexOf : List Incident → List Named → Type 0
IsIndexOf incidents names = (test : Named → Bool) → list_any (λ i. test (named i)) incidents ≡ list_any test names

-- each list is in the order of its key, and the names are an index of the incidents
pub record AreInOrder (l : Lists) : Type 0 where
  pub incidents : IsInOrder incident_cmp l.incidents.items
  pub names : IsInOrder named_cmp l.names.items
  pub gates : IsInOrder gate_cmp l.gates.items
  pub recipients : IsInOrder recipient_cmp l.recipients.items
  pub permissions : IsInOrder permission_cmp l.permissions.items
  pub indexed : IsIndexOf l.incidents.items l.names.items

-- each list has room for n more rows
pub record HasRoom (n : ℕ) (l : Lists) : Type 0 where
  pub incidents : vec_len l.incidents + n ≤ vec_capacity l.incidents
  pub names : vec_len l.names + n ≤ vec_capacity l.names
  pub gates : vec_len l.gates + n ≤ vec_capacity l.gates
  pub recipients : vec_len l.recipients + n ≤ vec_capacity l.recipients
  pub permissions : vec_len l.permissions + n ≤ vec_capacity l.permissions

-- the lists after the edit are the state's after it; it uses the room of at most one row
pub record IsMade (edit : Edit) (old new : Lists) : Type 0 where
  pub made : (d : Directory) → with_directory d new ≡ edited edit (with_directory d old)
  pub in_order : AreInOrder new
  pub room : (n : ℕ) → HasRoom (n + 1) old → HasRoom n new

-- a state before edits and after them
pub record Ready : Type 0 where
  pub before : State
  pub after : State

-- the state that these lists are, and the one that the changes of the directory and of the other rows lead to
abbrev pub ready_by : directory.Ready → Lists → List RowChange → Ready
ready_by d l changes = record {
  before = with_directory d.rows l;
  after = record (with_edits (map row_edit changes) (with_directory d.rows l)) { directory = edited_rows d.edits d.rows };
}
