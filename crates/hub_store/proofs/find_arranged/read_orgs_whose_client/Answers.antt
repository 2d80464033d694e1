use Rattle.{std.proofs.Common.{◌≡◌, ◌==◌, map, ◌∙◌}, circle.specs.Reads.orgs_whose_client, hub_store.proofs.LookUps.PairRows.viewed_pairs}
use Rattle.hub_store.{proofs.LookUps.Reading.read_turned, specs.{Pairs.Pair, Rows.client_pair, inner.PairKinds.pairs_to}}
use Rattle.hub_store.specs.declared.pair_kind.PairKind.TheVariants as kind
use Rattle.hub_store.proofs.find_arranged.read_orgs_whose_client.Goals as goal

pub returns-clause-read : goal.returns-clause-read
returns-clause-read g c =
    let client = c.args.client in
    read_turned _ _ (λ s found. found.items ≡ map (λ (p : Pair). p.0.0) (pairs_to kind.Client client s.directory)) (λ s found. found.items ≡ orgs_whose_client client s.directory) c.read_firsts.result c.read_firsts.ensures.read
    (λ s found sound is. is ∙ viewed_pairs client_pair (λ (p : Pair). p.0.0) (λ (p : Pair). p.0.1 == client) s.directory.clients)
