use Rattle.{std.proofs.Common.{◌≡◌, ◌∙◌, map, filter, ap}, circle.specs.Reads.{groups_joined, active_groups_joined}}
use Rattle.{hub_state.specs.declared.reply.JoinedGroup.JoinedGroup, hub_store.proofs.LookUps.{GroupSets.{all_are, active_are}, Reading.read_gives}}
use Rattle.hub_store.specs.inner.ShownPairs.{groups_in}
use Rattle.hub_store.proofs.find_groups.read_groups_joined.Goals as goal

pub returns-clause-read : goal.returns-clause-read
returns-clause-read g c =
    let org = c.args.org in
    read_gives _ _ (λ s groups. groups.items ≡ groups_in org s.directory) (λ s found. found ≡ record { all = groups_joined org s.directory; active = active_groups_joined org s.directory }) c.in_ok-groups.groups (record { all = c.new.result; active = c.new-2.result }) c.in_ok-groups.ensures.read
    (λ s sound is.
    let all : c.new.result ≡ groups_joined org s.directory = c.new.ensures ∙ (rw c.deref.ensures.value at c.in_ok-all.ensures) ∙ ap (map (λ (g : JoinedGroup). g.number)) is ∙ all_are org s.directory sound.directory in
    let active : c.new-2.result ≡ active_groups_joined org s.directory = c.new-2.ensures ∙ (rw c.deref-2.ensures.value at c.in_ok-active.ensures) ∙ ap (λ gs. map (λ (g : JoinedGroup). g.number) (filter (λ (g : JoinedGroup). g.active) gs)) is ∙ active_are org s.directory sound.directory in
    λ i. record { all = all i; active = active i })
