use Rattle.{std.proofs.Common.{◌≡◌, map, ◌∙◌}, circle.specs.Reads.members_of, hub_store.proofs.LookUps.{DirectorySets.members_are, Reading.read_turned}}
use Rattle.hub_store.specs.{Pairs.Pair, inner.PairKinds.pairs_from}
use Rattle.hub_store.specs.declared.pair_kind.PairKind.TheVariants as kind
use Rattle.hub_store.proofs.find_joined_communities.read_members.Goals as goal

pub returns-clause-read : goal.returns-clause-read
returns-clause-read g c =
    let n = c.args.community in
    read_turned _ _ (λ s found. found.items ≡ map (λ (p : Pair). p.0.1) (pairs_from kind.Membership n s.directory))
    (λ s found. found.items ≡ members_of n s.directory) c.read_seconds.result c.read_seconds.ensures.read
    (λ s found sound is. is ∙ members_are n s.directory)
