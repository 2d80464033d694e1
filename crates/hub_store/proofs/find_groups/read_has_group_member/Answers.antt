use Rattle.{std.proofs.Common.{◌≡◌, is_some, ◌∙◌}, circle.specs.Directory.has_group_member, hub_store.proofs.LookUps.DirectorySets.member_found}
use Rattle.hub_store.{proofs.LookUps.Reading.read_turned, specs.inner.PairKinds.pair_between}
use Rattle.hub_store.specs.declared.pair_kind.PairKind.TheVariants as kind
use Rattle.hub_store.proofs.find_groups.read_has_group_member.Goals as goal

pub returns-clause-read : goal.returns-clause-read
returns-clause-read g c =
    read_turned _ _ (λ s found. found ≡ is_some (pair_between kind.GroupMember c.args.group c.args.org s.directory)) (λ s found. found ≡ has_group_member c.args.group c.args.org s.directory) c.read_has_pair.result c.read_has_pair.ensures.read
    (λ s found sound is. is ∙ member_found c.args.group c.args.org s.directory)
