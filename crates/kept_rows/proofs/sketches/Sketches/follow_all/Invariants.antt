use Rattle.{std.proofs.Common.{◌≡◌, drop}, hub_state.specs.{Edits.with_edits, State.State}, kept_rows.specs.Drawn.AreDrawn}
use Rattle.kept_rows.proofs.sketches.Sketches.follow_all.Given as goal

abbrev pub invariant-loop-edit : goal.invariant-loop-edit
invariant-loop-edit l = (s : State) → AreDrawn l.fn.self s →
    (t : State) × AreDrawn l.self t × (with_edits (drop l.edit-index l.edits) t ≡ with_edits l.fn.edits s)
