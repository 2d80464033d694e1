-- A reader that is kept for one incident after another.
use Rattle.std.specs.Prelude.{◌≡◌}
use Rattle.circle.specs.Reads.{communities_of, groups_joined, active_groups_joined, orgs_whose_client}
use Rattle.circle.specs.declared.directory.Person.{Person}
use Rattle.hub_state.specs.State.{State}
use Rattle.hub_state.specs.declared.kept_reader.KeptReader.{KeptReader}

-- The reader is this person: what is kept is what its standings to all incidents have in common.
pub record IsReader (k : KeptReader) (p : Person) (s : State) : Type 0 where
  pub served : k.served ≡ orgs_whose_client p.org s.directory
  pub nominated : k.standing.nominated ≡ p.nominated
  pub who : k.standing.who ≡ p.number
  pub org : k.standing.org ≡ p.org
  pub groups : k.standing.groups ≡ groups_joined p.org s.directory
  pub active_groups : k.standing.active_groups ≡ active_groups_joined p.org s.directory
  pub communities : k.standing.communities ≡ communities_of p.org s.directory
