use Rattle.{std.proofs.Common.{[], ◌∷◌}, hub_store.proofs.{Edits.Steps.{made_by, fails_by}, Versions.VersionCauses.{take_version, take_fails, takes_version}}}
use Rattle.hub_store.specs.{Layout.{hub_part, under}, Parts.HoldsParts}
use Rattle.hub_store.proofs.set_version.take_version.Goals as goal

pub returns-clause-made : goal.returns-clause-made
returns-clause-made g c before ps beside = made_by g.S.Store take_version [] _ _ (HoldsParts (under before ps)) (HoldsParts (hub_part [] ∷ ps)) _ c.run.ensures.goes c.run.ensures.ran (λ mid count h. takes_version ps beside before mid _ count h)

pub returns-clause-cause : goal.returns-clause-cause
returns-clause-cause g c before ps beside = fails_by g.S.Store take_version [] _ _ (HoldsParts (under before ps)) _ c.run.ensures.failed (λ mid e h has other. take_fails ps beside before mid _ e h has other)
