use Rattle.{std.proofs.Common.{◌≡◌, map, ◌∙◌}, circle.specs.Reads.memberships_in_groups, hub_store.proofs.LookUps.DirectorySets.membership_rows}
use Rattle.hub_store.{proofs.LookUps.{Listed.reads_all, Reading.read_made}, specs.inner.{PairKinds.{pairs_to, first_shown}, ShownPairs.joined_of}}
use Rattle.hub_store.specs.inner.ShownPairs.{joined_shown}
use Rattle.hub_store.specs.declared.pair_kind.PairKind.TheVariants as kind
use Rattle.hub_store.proofs.find_groups.read_memberships.Goals as goal

pub returns-clause-read : goal.returns-clause-read
returns-clause-read g c =
    let org = c.args.org in
    read_made _ _ (λ s rows. rows.items ≡ map first_shown (pairs_to kind.GroupMember org s.directory)) (λ s found. found.items ≡ map joined_of (memberships_in_groups org s.directory)) c.in_ok-rows.rows c.all.result c.in_ok-rows.ensures.read
    (λ s sound is. reads_all joined_shown (map joined_of (memberships_in_groups org s.directory)) c.in_ok-rows.rows.items c.all.result (is ∙ membership_rows org s.directory) (rw c.deref.ensures.value at c.all.ensures))
