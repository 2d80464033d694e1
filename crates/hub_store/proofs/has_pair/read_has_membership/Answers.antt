use Rattle.{std.proofs.Common.{◌≡◌, is_some, ◌∙◌}, hub_store.{proofs.LookUps.{Extending.pair_there, Reading.read_turned}, specs.Rows.membership_pair}}
use Rattle.hub_store.specs.inner.PairKinds.{pair_between}
use Rattle.hub_store.specs.declared.pair_kind.PairKind.TheVariants as kind
use Rattle.hub_store.proofs.has_pair.read_has_membership.Goals as goal

pub returns-clause-read : goal.returns-clause-read
returns-clause-read g c =
    read_turned _ _ (λ s found. found ≡ is_some (pair_between kind.Membership c.args.community c.args.org s.directory)) _ c.read_has_pair.result c.read_has_pair.ensures.read (λ s found sound is. is ∙ pair_there membership_pair c.args.community c.args.org s.directory.memberships)
