-- What the rows of a query show.
use Rattle.std.specs.Prelude.{◌≡◌, ℕ, pos, List, [], ◌∷◌, Option, Some, None}
use Rattle.sqlite_value.specs.declared.value.Value.TheVariants.{Int, Text}
use Rattle.sqlite_value.specs.Order.{Row, column}
use Rattle.circle.specs.declared.directory.Person.{Person}
use Rattle.iodef_tree.specs.Pointer.{pointer_text}
use Rattle.policy.specs.declared.gate.Gate.{Gate}
use Rattle.policy.specs.declared.permission.Permission.{Permission}
use Rattle.policy.specs.declared.case.Case.{Case}
use Rattle.hub_state.specs.Documents.{Lines}
use Rattle.hub_state.specs.Reads.{its_gates, its_permissions}
use Rattle.hub_state.specs.State.{State, target_key, grantee_key}
use Rattle.hub_state.specs.declared.request.Target.{Target}
use Rattle.hub_state.specs.declared.state.Naming.{Naming}
use Rattle.hub_state.specs.declared.reply.Entry.{Entry}
use Rattle.hub_store.specs.Values.{flag, number_or_null, moment_or_null}
use Rattle.hub_store.specs.Rows.{role_number}
use Rattle.hub_store.specs.Items.{placed_shown, placed_from}
use Rattle.hub_store.specs.declared.item_rows.PlacedLine.{PlacedLine}

-- the row shows this value and no other
abbrev pub IsShownBy : {X : Type 0} → (X → Row) → Row → X → Type 0
IsShownBy {X} shown row x = (y : X) → row ≡ shown y → x ≡ y

-- the first row shows the value, if there is one
abbrev pub ShowsFirst : {X : Type 0} → (Row → X → Type 0) → List Row → Option X → Type 0
ShowsFirst shows [] None = Unit {0}
ShowsFirst shows [] (Some x) = ⊥
ShowsFirst shows (row ∷ rows) None = ⊥
ShowsFirst shows (row ∷ rows) (Some x) = shows row x

-- each row shows a value, in the same order
abbrev pub ShowsAll : {X : Type 0} → (Row → X → Type 0) → List Row → List X → Type 0
ShowsAll shows [] [] = Unit {0}
ShowsAll shows [] (x ∷ xs) = ⊥
ShowsAll shows (row ∷ rows) [] = ⊥
ShowsAll shows (row ∷ rows) (x ∷ xs) = shows row x × ShowsAll shows rows xs

-- ---- the columns that the queries name

-- the columns of a person
abbrev pub person_shown : Person → Row
person_shown p =
    Int (pos p.number) ∷ Int (pos p.org) ∷ Text p.name ∷ Int (pos (role_number p.role)) ∷ flag p.active ∷ flag p.nominated ∷ []

-- the columns of an incident as it is listed
abbrev pub entry_shown : Entry → Row
entry_shown e = Int (pos e.number) ∷ Int (pos e.revision) ∷ Int (pos e.source) ∷ []

-- the columns of a naming in versions 1 to 3
abbrev pub naming_shown_2 : Naming → Row
naming_shown_2 k = Int (pos k.number) ∷ Int (pos k.source) ∷ Text k.ident ∷ Int (pos k.revision) ∷ []

-- the columns of a naming
abbrev pub naming_shown : Naming → Row
naming_shown k =
    Int (pos k.number) ∷ Int (pos k.source) ∷ Text k.ident ∷ Int (pos k.revision) ∷ number_or_null k.community ∷ []

-- the columns of a gate
abbrev pub gate_shown : Gate → Row
gate_shown g = Text (pointer_text g.path) ∷ Int (pos g.level) ∷ number_or_null g.group ∷ []

-- the columns of a recipient
abbrev pub target_shown : Target → Row
target_shown target = Int (pos (target_key target).0) ∷ Int (pos (target_key target).1) ∷ []

-- the columns of a permission
abbrev pub permission_shown : Permission → Row
permission_shown x =
    Text (pointer_text x.path) ∷ Int (pos (grantee_key x.grantee).0) ∷ Int (pos (grantee_key x.grantee).1) ∷ moment_or_null x.until ∷ []

-- the row has this place, whatever else it has, and shows no other line
abbrev pub ShowsPlaced : Row → PlacedLine → Type 0
ShowsPlaced shown placed = (column shown 0 ≡ Int (pos placed.place)) × IsShownBy placed_shown shown placed

-- All rows have the places 1, 2, 3 and so on, and show the lines of the document. There is none if there is no row.
abbrev pub ShowsLines : List Row → Option Lines → Type 0
ShowsLines [] None = Unit {0}
ShowsLines [] (Some lines) = ⊥
ShowsLines (row ∷ rows) None = ⊥
ShowsLines (row ∷ rows) (Some lines) = ShowsAll ShowsPlaced (row ∷ rows) (placed_from 1 lines)

-- the case of an incident with this number and this naming
abbrev pub IsCase : Naming → ℕ → State → Case → Type 0
IsCase k n s case = (case.source ≡ k.source) × (case.community ≡ k.community) ×
    (case.gates ≡ its_gates n s.gates) × (case.permissions ≡ its_permissions n s.permissions)
