use Rattle.{std.proofs.Common.{◌≡◌, ◌++◌, map, Ok, ap, ◌∙◌}, circle.specs.Reads.connected_to, hub_store.proofs.LookUps.DirectorySets.connected_are}
use Rattle.hub_store.{proofs.LookUps.Reading.{read_then, read_gives}, specs.{Pairs.Pair, inner.PairKinds.{pairs_from, pairs_to}}}
use Rattle.hub_store.specs.declared.pair_kind.PairKind.TheVariants as kind
use Rattle.hub_store.proofs.find_joined_communities.read_connected.Goals as goal

pub returns-clause-read : goal.returns-clause-read
returns-clause-read g c =
    let n = c.args.community in
    let below = c.in_ok-found.found in
    let above = c.in_ok-above.above in
    read_gives _ _ (λ s above. (below.items ≡ map (λ (p : Pair). p.0.0) (pairs_to kind.Connection n s.directory)) ×
    (above.items ≡ map (λ (p : Pair). p.0.1) (pairs_from kind.Connection n s.directory))) (λ s found. found.items ≡ connected_to n s.directory) above
    c.extend_from_slice.new.self
    (read_then _ _ _ (λ s below. below.items ≡ map (λ (p : Pair). p.0.0) (pairs_to kind.Connection n s.directory))
    (λ s above. above.items ≡ map (λ (p : Pair). p.0.1) (pairs_from kind.Connection n s.directory)) below (Ok above) c.in_ok-found.ensures.read
    c.in_ok-above.ensures.read)
    (λ s sound both. c.in_ok-extend_from_slice.ensures.items ∙ ap (λ l. below.items ++ l) c.as_slice.ensures.value ∙ connected_are n s.directory
    below.items above.items both.0 both.1)
