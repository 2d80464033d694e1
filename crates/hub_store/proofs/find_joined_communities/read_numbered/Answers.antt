use Rattle.{std.{proofs.Common.{◌≡◌, Some, Ok, ap, ◌∙◌}, specs.Prelude.option_map}, sqlite.specs.Held.state, circle.specs.Reads.community_of}
use Rattle.{hub_state.specs.Reads.joined_community, hub_store.{proofs.LookUps.Reading.{read_then, read_gives}, specs.inner.Queries.IsReadInside}}
use Rattle.hub_store.proofs.find_joined_communities.read_numbered.Goals as goal

pub returns-in_ok-joined-in-Some-clause-read : goal.returns-in_ok-joined-in-Some-clause-read
returns-in_ok-joined-in-Some-clause-read g c =
    let old = state g.S.Store c.args.tx.now.conn.now in
    let mid = state g.S.Store c.read_community.new.tx.conn.now in
    let new = state g.S.Store c.read_joined.new.tx.conn.now in
    let n = c.args.number in
    let community = c.in-Some.community in
    let joined = c.in_ok-joined-in-Some.joined in
    let first : IsReadInside old mid (λ s found. found ≡ community_of n s.directory) (Ok (Some community)) = rw c.in-Some.is at c.in_ok-found.ensures.read in
    let both = read_then old mid new (λ s found. found ≡ community_of n s.directory) (λ s found. found ≡ joined_community s.directory community)
    (Some community) (Ok joined) first c.in_ok-joined-in-Some.ensures.read in
    read_gives old new (λ s it. (Some community ≡ community_of n s.directory) × (it ≡ joined_community s.directory community))
    (λ s found. found ≡ option_map (joined_community s.directory) (community_of n s.directory)) joined (Some joined) both
    (λ s sound it. ap Some it.1 ∙ ap (option_map (joined_community s.directory)) it.0)
