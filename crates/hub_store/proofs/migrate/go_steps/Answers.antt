use Rattle.{std.proofs.Common.arith, hub_store.proofs.{Edits.Steps.fails_then, Versions.MovedOn.{only_1, above_none}}}
use Rattle.hub_store.proofs.migrate.go_steps.Goals as goal

pub returns-in_ok-to_version_2-clause-cause : goal.returns-in_ok-to_version_2-clause-cause
returns-in_ok-to_version_2-clause-cause g c older s sound taken =
    rw (only_1 c.args.version (above_none c.args.version older) c.if-version-lt2.true)
    (fails_then (c.in_ok-to_version_2.ensures.made s sound) c.go_on.ensures.goes (c.go_on.ensures.cause (omega arith) (omega arith) s sound taken))
