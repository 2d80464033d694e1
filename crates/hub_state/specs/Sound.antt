-- When a state is sound: one record for each set, over the lists that it depends on.
use Rattle.std.specs.Prelude.{◌≡◌, ℕ, ◌≤◌, List, Option, Some, None, Ok, IsTrue, Contains}
use Rattle.std.specs.declared.cmp.Ordering.TheVariants.{Less}
use Rattle.iodef_tree.specs.Text.{Bytes}
use Rattle.iodef_tree.specs.Paths.{located}
use Rattle.iodef_tree.specs.Json.{incident_id}
use Rattle.iodef_tree.specs.Reading.{reading}
use Rattle.marking.specs.Marks.{first_bad_marking}
use Rattle.policy.specs.declared.permission.Grantee.{Grantee}
use Rattle.circle.specs.Sound.{Pairwise, Each, Differ, Names, IsNumbered, IsOrg, IsCommunity, IsGroup}
use Rattle.circle.specs.Directory.{Directory, account_number}
use Rattle.circle.specs.declared.directory.Community.{Community}
use Rattle.circle.specs.declared.directory.Group.{Group}
use Rattle.hub_state.specs.declared.TheConstants.{INCIDENT_LIMIT, REVISION_LIMIT, GATE_LIMIT, RECIPIENT_LIMIT, PERMISSION_LIMIT}
use Rattle.hub_state.specs.Documents.{Lines}
use Rattle.hub_state.specs.State.{State, incident_number, gate_cmp, recipient_cmp, permission_cmp, is_class_of, is_place_of, root_gates, class_gates}
use Rattle.hub_state.specs.State.{recipients_of, permissions_of}
use Rattle.hub_state.specs.declared.request.Target.{Target}
use Rattle.hub_state.specs.declared.state.Incident.{Incident}
use Rattle.hub_state.specs.declared.state.Gate.{Gate}
use Rattle.hub_state.specs.declared.state.Recipient.{Recipient}
use Rattle.hub_state.specs.declared.state.Permission.{Permission}
use Rattle.policy.specs.declared.permission.Grantee.TheVariants as grantee
use Rattle.circle.specs.Sound as circle
use Rattle.hub_state.specs.declared.request.Target.TheVariants as target

-- the document was read from some body, and has no bad marking
pub record IsAccepted (doc : Lines) : Type 0 where
  pub body : Bytes
  pub docs : List Lines
  pub read : reading body ≡ Ok docs
  pub among : Contains docs doc
  pub marked : first_bad_marking (located doc) ≡ None

-- there is an incident of this number
abbrev pub IsIncident : List Incident → ℕ → Type 0
IsIncident = Names incident_number

-- there is a person of this number
abbrev pub IsPerson : Directory → ℕ → Type 0
IsPerson d = Names account_number d.accounts

-- the person or organisation is there
abbrev pub IsTarget : Directory → Target → Type 0
IsTarget d (target.Person n) = IsPerson d n
IsTarget d (target.Org n) = IsOrg d.orgs n

-- the grantee is there
abbrev pub IsGrantee : Directory → Grantee → Type 0
IsGrantee d (grantee.Person n) = IsPerson d n
IsGrantee d (grantee.Org n) = IsOrg d.orgs n
IsGrantee d (grantee.Community n) = IsCommunity d.communities n
IsGrantee d (grantee.Group n) = IsGroup d.groups n

-- the community is there, if one is named
abbrev pub IsCommunityIfAny : List Community → Option ℕ → Type 0
IsCommunityIfAny communities None = Unit {0}
IsCommunityIfAny communities (Some n) = IsCommunity communities n

-- the group is there, if one is named
abbrev pub IsGroupIfAny : List Group → Option ℕ → Type 0
IsGroupIfAny groups None = Unit {0}
IsGroupIfAny groups (Some n) = IsGroup groups n

-- Numbers have no gaps, source and ident together are unique, sources and named communities are there, revisions keep
-- their limit, and each document is accepted.
pub record SoundIncidents (d : Directory) (incidents : List Incident) : Type 0 where
  pub numbered : IsNumbered incident_number INCIDENT_LIMIT incidents
  pub idents : Differ {K = ℕ × Bytes} (λ (i : Incident). (i.naming.source, i.naming.ident)) incidents
  pub sources : Each (λ (i : Incident). IsOrg d.orgs i.naming.source) incidents
  pub revisions : Each (λ (i : Incident). i.naming.revision ≤ REVISION_LIMIT) incidents
  -- the source may have left the community since
  pub communities : Each (λ (i : Incident). IsCommunityIfAny d.communities i.naming.community) incidents
  pub documents : Each (λ (i : Incident). IsAccepted i.document) incidents
  -- the ident is that of the document
  pub follow : Each (λ (i : Incident). incident_id i.document ≡ Some i.naming.ident) incidents

-- Keys rise, each gate is at the root or at a class of an incident, groups are there, and each incident has one root
-- gate and at most GATE_LIMIT class gates.
pub record SoundGates (groups : List Group) (incidents : List Incident) (gates : List Gate) : Type 0 where
  pub rising : Pairwise (λ a b. gate_cmp a b ≡ Less) gates
  -- each is at the root of an incident or at one of its classes
  pub places : Each (λ (g : Gate). IsTrue (is_place_of incidents g.incident g.gate.path)) gates
  pub ends : Each (λ (g : Gate). IsGroupIfAny groups g.gate.group) gates
  pub roots : Each (λ (i : Incident). root_gates i.naming.number gates ≡ 1) incidents
  pub limit : Each (λ (i : Incident). class_gates i.naming.number gates ≤ GATE_LIMIT) incidents

-- Keys rise, incidents and targets are there, and no incident has more than RECIPIENT_LIMIT recipients.
pub record SoundRecipients (d : Directory) (incidents : List Incident) (recipients : List Recipient) : Type 0 where
  pub rising : Pairwise (λ a b. recipient_cmp a b ≡ Less) recipients
  pub ends : Each (λ (r : Recipient). IsIncident incidents r.incident) recipients
  pub targets : Each (λ (r : Recipient). IsTarget d r.target) recipients
  pub limit : Each (λ (i : Incident). recipients_of i.naming.number recipients ≤ RECIPIENT_LIMIT) incidents

-- Keys rise, each permission is at a class of an incident, grantees are there, and no incident has more
-- than PERMISSION_LIMIT permissions.
pub record SoundPermissions (d : Directory) (incidents : List Incident) (permissions : List Permission) : Type 0 where
  pub rising : Pairwise (λ a b. permission_cmp a b ≡ Less) permissions
  -- each is at a class of an incident
  pub places : Each (λ (x : Permission). IsTrue (is_class_of incidents x.incident x.permission.path)) permissions
  pub grantees : Each (λ (x : Permission). IsGrantee d x.permission.grantee) permissions
  pub limit : Each (λ (i : Incident). permissions_of i.naming.number permissions ≤ PERMISSION_LIMIT) incidents

-- the state is sound: the directory and each of the four sets of incidents are
pub record IsSound (s : State) : Type 0 where
  pub directory : circle.IsSound s.directory
  pub incidents : SoundIncidents s.directory s.incidents
  pub gates : SoundGates s.directory.groups s.incidents s.gates
  pub recipients : SoundRecipients s.directory s.incidents s.recipients
  pub permissions : SoundPermissions s.directory s.incidents s.permissions
