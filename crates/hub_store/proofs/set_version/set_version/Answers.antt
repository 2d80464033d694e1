use Rattle.{std.proofs.Common.{[], ◌∷◌, refl}, hub_store.{proofs.Edits.Steps.{makes_then, fails_then, fails_passed, makes_passed}, specs.Layout.hub_part}}
use Rattle.hub_store.specs.Parts.{HoldsParts}
use Rattle.hub_store.proofs.set_version.set_version.Goals as goal

pub returns-in_err-take_version-clause-made : goal.returns-in_err-take_version-clause-made
returns-in_err-take_version-clause-made g c before ps beside = makes_passed c.from_residual.ensures.1 (c.in_err-take_version.ensures.made before ps beside).goes

pub returns-clause-made : goal.returns-clause-made
returns-clause-made g c before ps beside =
    makes_then _ _ _ _ (HoldsParts (hub_part [] ∷ ps)) _ _ _ (c.in_ok-take_version.ensures.made before ps beside) (c.put_version.ensures.made ps beside)

pub returns-in_err-take_version-clause-cause : goal.returns-in_err-take_version-clause-cause
returns-in_err-take_version-clause-cause g c before ps beside = fails_passed c.from_residual.ensures.1 (c.in_err-take_version.ensures.cause before ps beside)

pub returns-clause-cause : goal.returns-clause-cause
returns-clause-cause g c before ps beside =
    fails_then (c.in_ok-take_version.ensures.made before ps beside) (c.put_version.ensures.made [] refl).goes (c.put_version.ensures.cause ps beside)
