-- Edits of the directory and of the other rows can be made apart.
use Rattle.{std.proofs.Common.{◌≡◌, List, [], ◌∷◌, refl, ◌∙◌}, circle.specs.{Aftermath.{edited_row, edited_rows}, Directory.Directory}}
use Rattle.hub_state.specs.{Edits.{edited, with_edits}, State.State, declared.edit.Edit.Edit, inner.Changes.{directory_edits, row_edits}}
use Rattle.hub_state.specs.declared.edit.Edit.TheVariants as edit

-- edits of the other rows don't depend on the directory
beside : (edits : List Edit) (s : State) (d e : Directory) → (let t : State = with_edits (row_edits edits) (record s { directory = d }) in record t { directory = e }) ≡ (let t : State = with_edits (row_edits edits) s in record t { directory = e })
beside [] s d e = refl
beside (edit.Directory row ∷ edits) s d e = beside edits s d e
beside (edit.PutIncident i ∷ edits) s d e = beside edits (edited (edit.PutIncident i) s) d e
beside (edit.TakeIncident n ∷ edits) s d e = beside edits (edited (edit.TakeIncident n) s) d e
beside (edit.TakePolicy n ∷ edits) s d e = beside edits (edited (edit.TakePolicy n) s) d e
beside (edit.PutGate g ∷ edits) s d e = beside edits (edited (edit.PutGate g) s) d e
beside (edit.TakeGate key ∷ edits) s d e = beside edits (edited (edit.TakeGate key) s) d e
beside (edit.PutRecipient r ∷ edits) s d e = beside edits (edited (edit.PutRecipient r) s) d e
beside (edit.TakeRecipient r ∷ edits) s d e = beside edits (edited (edit.TakeRecipient r) s) d e
beside (edit.PutPermission x ∷ edits) s d e = beside edits (edited (edit.PutPermission x) s) d e
beside (edit.TakePermission key ∷ edits) s d e = beside edits (edited (edit.TakePermission key) s) d e

pub made_apart : (edits : List Edit) (s : State) → with_edits edits s ≡ (let t : State = with_edits (row_edits edits) s in record t { directory = edited_rows (directory_edits edits) s.directory })
made_apart [] s = refl
made_apart (edit.Directory row ∷ edits) s = made_apart edits (edited (edit.Directory row) s) ∙ beside edits s (edited_row row s.directory) (edited_rows (directory_edits edits) (edited_row row s.directory))
made_apart (edit.PutIncident i ∷ edits) s = made_apart edits (edited (edit.PutIncident i) s)
made_apart (edit.TakeIncident n ∷ edits) s = made_apart edits (edited (edit.TakeIncident n) s)
made_apart (edit.TakePolicy n ∷ edits) s = made_apart edits (edited (edit.TakePolicy n) s)
made_apart (edit.PutGate g ∷ edits) s = made_apart edits (edited (edit.PutGate g) s)
made_apart (edit.TakeGate key ∷ edits) s = made_apart edits (edited (edit.TakeGate key) s)
made_apart (edit.PutRecipient r ∷ edits) s = made_apart edits (edited (edit.PutRecipient r) s)
made_apart (edit.TakeRecipient r ∷ edits) s = made_apart edits (edited (edit.TakeRecipient r) s)
made_apart (edit.PutPermission x ∷ edits) s = made_apart edits (edited (edit.PutPermission x) s)
made_apart (edit.TakePermission key ∷ edits) s = made_apart edits (edited (edit.TakePermission key) s)
