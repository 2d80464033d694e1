use Rattle.{std.proofs.Common.{◌≡◌, map, drop}, hub_state.specs.Documents.ident_of, hub_core.specs.Refusals.stands_twice}
use Rattle.hub_core.proofs.judging.body.have_twins.Given as goal

abbrev pub invariant-loop-place : goal.invariant-loop-place
invariant-loop-place l = stands_twice (map ident_of (drop l.place l.documents)) ≡ stands_twice (map ident_of l.documents)
