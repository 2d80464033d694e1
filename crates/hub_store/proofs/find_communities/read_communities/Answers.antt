use Rattle.{std.proofs.Common.{◌≡◌, map, ◌∙◌}, circle.specs.Reads.communities_of, hub_store.proofs.LookUps.{DirectorySets.communities_are, Reading.read_turned}}
use Rattle.hub_store.specs.{Pairs.Pair, inner.PairKinds.pairs_to}
use Rattle.hub_store.specs.declared.pair_kind.PairKind.TheVariants as kind
use Rattle.hub_store.proofs.find_communities.read_communities.Goals as goal

pub returns-clause-read : goal.returns-clause-read
returns-clause-read g c =
    let org = c.args.org in
    read_turned _ _ (λ s found. found.items ≡ map (λ (p : Pair). p.0.0) (pairs_to kind.Membership org s.directory)) (λ s found. found.items ≡ communities_of org s.directory) c.read_firsts.result c.read_firsts.ensures.read
    (λ s found sound is. is ∙ communities_are org s.directory)
