-- No organisation, person, community or group goes away.
use Rattle.std.specs.Prelude.{ℕ, IsTrue}
use Rattle.circle.specs.Directory.{Directory, has_org, has_person, has_community, has_group}

-- each organisation, person, community and group of the first directory is in the second
pub record Grows (before after : Directory) : Type 0 where
  pub orgs : (n : ℕ) → IsTrue (has_org n before) → IsTrue (has_org n after)
  pub persons : (n : ℕ) → IsTrue (has_person n before) → IsTrue (has_person n after)
  pub communities : (n : ℕ) → IsTrue (has_community n before) → IsTrue (has_community n after)
  pub groups : (n : ℕ) → IsTrue (has_group n before) → IsTrue (has_group n after)
