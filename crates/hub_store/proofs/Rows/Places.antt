-- The place of each table of the newest version, by its name among the parts. The meaning of a text, and what a
-- statement changes, cite these and no number.
use Rattle.std.{proofs.Common.{◌≡◌, ℕ, zero, suc, List, [], ◌∷◌, slice_get, Some, unwrap_or, codes, subst}, specs.List.{AllByRecursion, position_from}}
use Rattle.{std.specs.Str.bytes_eq, sqlite_trees.specs.Tree.Trees, sqlite_schema.specs.declared.schema.Table.Table, hub_state.specs.State.State}
use Rattle.hub_store.specs.{Holdings.{Holding, IsHeld}, Means.{holdings, Means}, Tables.{hub_schema, hub_table}}

abbrev pub place_named : List ℕ → ℕ
place_named name = unwrap_or (position_from (λ (t : Table). bytes_eq t.name name) 0 hub_schema.tables) 0

abbrev pub table_at : ℕ → Table
table_at at = unwrap_or (slice_get hub_schema.tables at) hub_table

abbrev pub org_place : ℕ
org_place = place_named (codes "org")

abbrev pub org_tree : ℕ
org_tree = (table_at org_place).tree

abbrev pub person_place : ℕ
person_place = place_named (codes "person")

abbrev pub person_tree : ℕ
person_tree = (table_at person_place).tree

abbrev pub community_place : ℕ
community_place = place_named (codes "community")

abbrev pub community_tree : ℕ
community_tree = (table_at community_place).tree

abbrev pub grp_place : ℕ
grp_place = place_named (codes "grp")

abbrev pub grp_tree : ℕ
grp_tree = (table_at grp_place).tree

abbrev pub pair_place : ℕ
pair_place = place_named (codes "pair")

abbrev pub pair_tree : ℕ
pair_tree = (table_at pair_place).tree

abbrev pub gate_place : ℕ
gate_place = place_named (codes "gate")

abbrev pub gate_tree : ℕ
gate_tree = (table_at gate_place).tree

abbrev pub recipient_place : ℕ
recipient_place = place_named (codes "recipient")

abbrev pub recipient_tree : ℕ
recipient_tree = (table_at recipient_place).tree

abbrev pub permission_place : ℕ
permission_place = place_named (codes "permission")

abbrev pub permission_tree : ℕ
permission_tree = (table_at permission_place).tree

abbrev pub item_place : ℕ
item_place = place_named (codes "item")

abbrev pub item_tree : ℕ
item_tree = (table_at item_place).tree

abbrev pub incident_place : ℕ
incident_place = place_named (codes "incident")

abbrev pub incident_tree : ℕ
incident_tree = (table_at incident_place).tree

-- ---- what one table holds

held_among : {db : Trees} (at : ℕ) (hs : List Holding) (h : Holding) → slice_get hs at ≡ Some h → AllByRecursion (IsHeld db) hs → IsHeld db h
held_among at [] h is all = absurd cc
held_among {db} zero (x ∷ hs) h is all = let same : x ≡ h = cc in subst (IsHeld db) same all.0
held_among (suc at) (x ∷ hs) h is all = held_among at hs h is all.1

-- for parts that are written out, `refl` proves the premise
pub held_of : {db : Trees} (s : State) (at : ℕ) (h : Holding) → slice_get (holdings s) at ≡ Some h → Means db s → IsHeld db h
held_of s at h is means = held_among at (holdings s) h is means
