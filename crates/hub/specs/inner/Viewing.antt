-- A view, made of what is read of an incident.
use Rattle.std.specs.Prelude.{ℕ, ◌==◌, List, [], ◌∷◌, Option, Some, None, if◌then◌else◌}
use Rattle.redact.specs.Told.{Told}
use Rattle.hub_state.specs.declared.reply.Entry.{Entry}
use Rattle.hub_state.specs.declared.reply.View.{View}

-- the first entry, if it has this number
abbrev pub first_being : ℕ → List Entry → Option Entry
first_being n [] = None
first_being n (e ∷ es) = if e.number == n then Some e else None

-- the view made of an entry and an excerpt
abbrev pub view_made : Entry → Told → View
view_made e t = record { number = e.number; revision = e.revision; source = e.source; classes = t.classes; document = t.outline; withheld = t.withheld }
