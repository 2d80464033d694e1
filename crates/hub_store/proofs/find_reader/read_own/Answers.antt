use Rattle.{std.proofs.Common.{◌≡◌, Ok, ap, ◌∙◌}, circle.specs.Reads.{orgs_whose_client, groups_joined, active_groups_joined, communities_of}}
use Rattle.{hub_state.specs.Reads.reader_with, hub_store.{proofs.LookUps.Reading.{read_then, read_gives}, specs.declared.find_groups.GroupsJoined.GroupsJoined}}
use Rattle.hub_store.proofs.find_reader.read_own.Goals as goal

pub returns-clause-read : goal.returns-clause-read
returns-clause-read g c =
    let person = c.args.person in
    let served = c.in_ok-served.served in
    let groups = c.in_ok-groups.groups in
    let communities = c.in_ok-communities.communities in
    read_gives _ _ _ (λ s found. found ≡ reader_with s person) communities (record { person = person; served = c.new.result; groups = groups.all; active_groups = groups.active; communities = c.new-2.result })
    (read_then _ _ _ _ (λ s found. found.items ≡ communities_of person.org s.directory) groups (Ok communities)
    (read_then _ _ _ (λ s found. found.items ≡ orgs_whose_client person.org s.directory) (λ s found. found ≡ record { all = groups_joined person.org s.directory; active = active_groups_joined person.org s.directory }) served (Ok groups) c.in_ok-served.ensures.read c.in_ok-groups.ensures.read)
    c.in_ok-communities.ensures.read)
    (λ s sound it.
    let clients = c.new.ensures ∙ it.0.0 in
    let all = ap (λ (g : GroupsJoined). g.all) it.0.1 in
    let active = ap (λ (g : GroupsJoined). g.active) it.0.1 in
    let members = c.new-2.ensures ∙ it.1 in
    λ i. record { person = person; served = clients i; groups = all i; active_groups = active i; communities = members i })
