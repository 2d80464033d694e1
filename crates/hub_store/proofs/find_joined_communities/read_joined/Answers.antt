use Rattle.{std.proofs.Common.{◌≡◌, Ok, ◌∙◌}, circle.specs.Reads.{members_of, connected_to}, hub_state.specs.Reads.joined_community}
use Rattle.hub_store.proofs.LookUps.Reading.{read_then, read_gives}
use Rattle.hub_store.proofs.find_joined_communities.read_joined.Goals as goal

pub returns-clause-read : goal.returns-clause-read
returns-clause-read g c =
    let community = c.args.community in
    let members = c.in_ok-members.members in
    let connected = c.in_ok-connected.connected in
    read_gives _ _ _ (λ s found. found ≡ joined_community s.directory community) connected
    (record { number = community.number; name = community.name; members = c.new.result; connected = c.new-2.result })
    (read_then _ _ _ (λ s found. found.items ≡ members_of community.number s.directory)
    (λ s found. found.items ≡ connected_to community.number s.directory) members (Ok connected) c.in_ok-members.ensures.read c.in_ok-connected.ensures.read)
    (λ s sound both.
    let of = c.new.ensures ∙ both.0 in
    let with = c.new-2.ensures ∙ both.1 in
    λ i. record { number = community.number; name = community.name; members = of i; connected = with i })
