use Rattle.{std.proofs.Common.{◌≡◌, drop}, hub_state.specs.Documents.{bad_marking, bad_marking_from}}
use Rattle.hub_core.proofs.judging.body.well_marked.Given as goal

abbrev pub invariant-loop-place : goal.invariant-loop-place
invariant-loop-place l = bad_marking_from l.place (drop l.place l.documents) ≡ bad_marking l.documents
