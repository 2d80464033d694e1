-- Worlds that are alike for a person: two states, joined by steps that change only what the person can't learn of.
use Rattle.std.specs.Prelude.{◌≡◌, ◌⊎◌, ℕ, ℤ, Bool, true, false, not, ◌&&◌, ◌||◌, ◌==◌, List, [], ◌∷◌, map, filter, Some, Contains, if◌then◌else◌}
use Rattle.std.specs.Option.{option_map_or}
use Rattle.iodef_tree.specs.Text.{Tokens, is_root, is_prefix}
use Rattle.iodef_tree.specs.Paths.{LocatedLine}
use Rattle.policy.specs.Permissions.{includes, is_before}
use Rattle.policy.specs.Standing.{stranger}
use Rattle.policy.specs.declared.permission.Grantee.{Grantee}
use Rattle.redact.specs.Alike.{Report, is_within, lines_but, is_hidden_from}
use Rattle.redact.specs.Told.{withheld_of}
use Rattle.redact.specs.Withheld.{Withheld}
use Rattle.circle.specs.Directory.{Directory}
use Rattle.circle.specs.Reads.{groups_joined, active_groups_joined, communities_of}
use Rattle.circle.specs.declared.directory.Account.{Account}
use Rattle.circle.specs.declared.directory.Arrangement.{Arrangement}
use Rattle.circle.specs.declared.directory.GroupMember.{GroupMember}
use Rattle.hub_core.specs.Documents.{Lines, ident_of}
use Rattle.hub_core.specs.State.{State, incident_of}
use Rattle.hub_core.specs.Reads.{case_for}
use Rattle.hub_core.specs.Sound.{IsSound}
use Rattle.hub_state.specs.declared.request.Target.{Target}
use Rattle.hub_state.specs.declared.state.Incident.{Incident}
use Rattle.hub_state.specs.declared.state.Gate.{Gate}
use Rattle.hub_state.specs.declared.state.Recipient.{Recipient}
use Rattle.hub_state.specs.declared.state.Permission.{Permission}
use Rattle.hub_state.specs.declared.request.Request.{Request}
use Rattle.hub.specs.Told.{standing_at, is_served}
use Rattle.hub.specs.Replies.{reply_of}
use Rattle.hub.specs.declared.key.Key.TheVariants.{Digest}
use Rattle.redact.specs.Alike as report
use Rattle.hub_state.specs.declared.request.Target.TheVariants as target
use Rattle.hub_state.specs.declared.request.Request.TheVariants as ask

-- ---- rows

-- The incidents with another document in the one of this number. The ident follows the document; number, source,
-- revision and the community that it names stay.
abbrev pub with_document : ℕ → Lines → List Incident → List Incident
with_document n document incidents = map (λ (i : Incident). if i.naming.number == n then record i { naming = record i.naming { ident = ident_of document }; document = document } else i) incidents

-- the gates without those of an incident at the class at p and below it
abbrev pub gates_but_at : ℕ → Tokens → List Gate → List Gate
gates_but_at n p gates = filter (λ (g : Gate). not (g.incident == n && is_prefix p g.gate.path)) gates

-- the permissions without those of an incident at the class at p and below it
abbrev pub permissions_but_at : ℕ → Tokens → List Permission → List Permission
permissions_but_at n p permissions =
    filter (λ (x : Permission). not (x.incident == n && is_prefix p x.permission.path)) permissions

-- What stays of an incident whose lines at the class at p and below it are left out: all but its ident and its lines,
-- and the other lines, each under the path of its class. The ident follows the lines.
abbrev pub parts_but : Tokens → Incident → Incident × List LocatedLine
parts_but p i = (record i { naming = record i.naming { ident = [] }; document = [] }, lines_but (is_within p) i.document)

-- that of the incident of this number, and any other incident whole
abbrev pub incident_but : ℕ → Tokens → Incident → Incident × List LocatedLine
incident_but n p i = if i.naming.number == n then parts_but p i else (i, [])

-- The states are equal but for the rows of an incident at the class at p and below it: lines, gates and permissions.
pub record IsEqualBut (n : ℕ) (p : Tokens) (s t : State) : Type 0 where
  pub directory : s.directory ≡ t.directory
  pub incidents : map (incident_but n p) s.incidents ≡ map (incident_but n p) t.incidents
  pub gates : gates_but_at n p s.gates ≡ gates_but_at n p t.gates
  pub recipients : s.recipients ≡ t.recipients
  pub permissions : permissions_but_at n p s.permissions ≡ permissions_but_at n p t.permissions

-- an incident with this document, as redaction sees it: the lines and the case
abbrev pub report_of : State → Incident → Lines → Report
report_of s i document = record { lines = document; case = case_for s i }

-- all rows stay that aren't of the incident of this number
pub record HasOtherIncident (n : ℕ) (s t : State) : Type 0 where
  pub directory : s.directory ≡ t.directory
  pub incidents : filter (λ (i : Incident). not (i.naming.number == n)) s.incidents
      ≡ filter (λ (i : Incident). not (i.naming.number == n)) t.incidents
  pub gates : filter (λ (g : Gate). not (g.incident == n)) s.gates
      ≡ filter (λ (g : Gate). not (g.incident == n)) t.gates
  pub recipients : filter (λ (x : Recipient). not (x.incident == n)) s.recipients
      ≡ filter (λ (x : Recipient). not (x.incident == n)) t.recipients
  pub permissions : filter (λ (x : Permission). not (x.incident == n)) s.permissions
      ≡ filter (λ (x : Permission). not (x.incident == n)) t.permissions

-- ---- steps, for a person with its key, at a moment

module _ (now : ℤ) (a : Account) where
  -- the incident of this number is there, and its source is the person's organisation
  abbrev pub is_own : State → ℕ → Bool
  is_own s n = option_map_or (λ (i : Incident). i.naming.source == a.person.org) (incident_of n s) false

  -- the incident of this number is there, and some class of it is visible to the person
  abbrev pub is_served_of : State → ℕ → Bool
  is_served_of s n = option_map_or (is_served s now a.person) (incident_of n s) false

  -- One incident has other plain lines in a class that isn't visible to the person. The label written in that class
  -- stays, and so do all other lines, the path of every class and every other row.
  pub record HasOtherPlainLines (s t : State) : Type 0 where
    pub incident : Incident
    pub path : Tokens
    pub document : Lines
    pub there : incident_of incident.naming.number s ≡ Some incident
    -- its source sees all of it, so nothing of it is hidden there; no proof needs this field
    pub foreign : is_own s incident.naming.number ≡ false
    pub lines : report.HasOtherPlainLines (standing_at s now a.person incident) path (report_of s incident incident.document) (report_of s incident document)
    pub after : t ≡ record s { incidents = with_document incident.naming.number document s.incidents }

  -- the incident of this number is there, and no class of it at p or below is visible to the person
  abbrev pub is_hidden_in : State → ℕ → Tokens → Bool
  is_hidden_in s n p = option_map_or
      (λ (i : Incident). is_hidden_from (standing_at s now a.person i) p (report_of s i i.document)) (incident_of n s) false

  -- what is withheld from the person of the incident of this number; nothing if it isn't there
  abbrev pub withheld_in : State → ℕ → List Withheld
  withheld_in s n = option_map_or
      (λ (i : Incident). withheld_of i.document (case_for s i) (standing_at s now a.person i)) (incident_of n s) []

  -- The states are equal but for the rows of one incident at a class and below it, of which nothing is visible to the
  -- person in either state. What is withheld of the incident is the same.
  pub record HasOtherHiddenClass (s t : State) : Type 0 where
    pub number : ℕ
    pub path : Tokens
    pub below_root : is_root path ≡ false
    pub foreign : is_own s number ≡ false
    pub first : is_hidden_in s number path ≡ true
    pub second : is_hidden_in t number path ≡ true
    pub withheld : withheld_in s number ≡ withheld_in t number
    pub others : IsEqualBut number path s t

  -- Anything may differ in an incident of which the person sees nothing in either state, also the community that it
  -- names. It may be missing in one of them.
  pub record HasOtherUnseenIncident (s t : State) : Type 0 where
    pub number : ℕ
    pub first_foreign : is_own s number ≡ false
    pub second_foreign : is_own t number ≡ false
    pub first : is_served_of s number ≡ false
    pub second : is_served_of t number ≡ false
    pub others : HasOtherIncident number s t

  -- the grantee includes the person
  abbrev pub includes_person : Directory → Grantee → Bool
  includes_person d g = includes (record (stranger a.person.number a.person.org) {
    groups = groups_joined a.person.org d;
    active_groups = active_groups_joined a.person.org d;
    communities = communities_of a.person.org d;
  }) g

  -- the recipient is the person or any organisation
  abbrev pub is_org_or_person : Target → Bool
  is_org_or_person (target.Person n) = n == a.person.number
  is_org_or_person (target.Org n) = true

  -- the permissions that stay: those whose grantee includes the person, and those of its organisation's incidents
  abbrev pub staying_permissions : State → List Permission
  staying_permissions s =
      filter (λ (x : Permission). includes_person s.directory x.permission.grantee || is_own s x.incident)
      s.permissions

  -- the recipients that stay: organisations, the person, and those of its organisation's incidents
  abbrev pub staying_recipients : State → List Recipient
  staying_recipients s = filter (λ (x : Recipient). is_org_or_person x.target || is_own s x.incident) s.recipients

  -- the account that stays: the person's
  abbrev pub staying_accounts : Directory → List Account
  staying_accounts d = filter (λ (b : Account). b.person.number == a.person.number) d.accounts

  -- the arrangements that stay: those with the person's organisation
  abbrev pub staying_arrangements : Directory → List Arrangement
  staying_arrangements d = filter (λ (x : Arrangement). x.org == a.person.org) d.arrangements

  -- the group members that stay: those of the person's organisation
  abbrev pub staying_members : Directory → List GroupMember
  staying_members d = filter (λ (m : GroupMember). m.org == a.person.org) d.group_members

  -- Other permissions whose grantee doesn't include the person, other persons as recipients, other persons,
  -- arrangements with other organisations, and memberships of other organisations in groups. The incidents stay, with
  -- the communities that they name, and so do the members of communities.
  pub record HasOtherRows (s t : State) : Type 0 where
    pub permissions : staying_permissions s ≡ staying_permissions t
    pub recipients : staying_recipients s ≡ staying_recipients t
    pub accounts : staying_accounts s.directory ≡ staying_accounts t.directory
    pub arrangements : staying_arrangements s.directory ≡ staying_arrangements t.directory
    pub group_members : staying_members s.directory ≡ staying_members t.directory
    pub after : t ≡ record s {
      directory = record s.directory { accounts = t.directory.accounts; arrangements = t.directory.arrangements; group_members = t.directory.group_members };
      recipients = t.recipients;
      permissions = t.permissions;
    }

  -- one step between worlds that are alike
  abbrev pub IsAlikeStep : State → State → Type 0
  IsAlikeStep s t = HasOtherPlainLines s t ⊎ (HasOtherHiddenClass s t ⊎ (HasOtherUnseenIncident s t ⊎ HasOtherRows s t))

  -- each of these states is sound and one step from the one before it, and the last is t
  abbrev pub IsChain : State → List State → State → Type 0
  IsChain s [] t = t ≡ s
  IsChain s (u ∷ us) t = IsAlikeStep s u × IsSound u × IsChain u us t

  -- two sound states, joined by a chain; the person is there with its key
  pub record IsAlike (s t : State) : Type 0 where
    pub sound : IsSound s
    pub there : Contains s.directory.accounts a
    pub between : List State
    pub chain : IsChain s between t

-- ---- the law

-- the request reads incidents, groups or the caller: `View`, `List`, `Search`, `Addressed`, `MyGroups`, `WhoAmI`
abbrev pub is_told : Request → Bool
is_told (ask.View n) = true
is_told (ask.List after) = true
is_told (ask.Search r) = true
is_told (ask.Addressed after) = true
is_told ask.MyGroups = true
is_told ask.WhoAmI = true
is_told _ = false

-- the request reads any of these, how an own report is shared, or the own communities: the six and `Sharing`,
-- `MyCommunities`
abbrev pub is_answered_alike : Request → Bool
is_answered_alike (ask.Sharing n) = true
is_answered_alike ask.MyCommunities = true
is_answered_alike request = is_told request

-- in two worlds that are alike for a person, the same reply is due to it at the same moment
abbrev pub AlikeIsAnsweredAlike : Type 0
AlikeIsAnsweredAlike = (now : ℤ) (a : Account) (s t : State) (request : Request) → IsAlike now a s t → is_answered_alike request ≡ true →
    reply_of s now (Digest a.key) request ≡ reply_of t now (Digest a.key) request

-- ---- permissions that have ended

-- the permissions that haven't ended at this moment
abbrev pub live_permissions : ℤ → State → List Permission
live_permissions now s = filter (λ (x : Permission). is_before now x.permission.until) s.permissions

-- The states differ only in permissions that have ended at this moment, whoever their grantees are.
pub record HasOtherEndedPermissions (now : ℤ) (s t : State) : Type 0 where
  pub permissions : live_permissions now s ≡ live_permissions now t
  pub after : t ≡ record s { permissions = t.permissions }

-- In two such sound states the same reply is due to each person of the first, also to a grantee of those permissions.
abbrev pub EndedPermissionsAreNotFelt : Type 0
EndedPermissionsAreNotFelt = (now : ℤ) (a : Account) (s t : State) (request : Request) → IsSound s → IsSound t →
    Contains s.directory.accounts a → HasOtherEndedPermissions now s t → is_told request ≡ true →
    reply_of s now (Digest a.key) request ≡ reply_of t now (Digest a.key) request

-- the permissions that haven't ended at this moment, and those of the incidents of the person's organisation
abbrev pub live_or_own_permissions : ℤ → Account → State → List Permission
live_or_own_permissions now a s =
    filter (λ (x : Permission). is_before now x.permission.until || is_own now a s x.incident) s.permissions

-- The states differ only in permissions at incidents of other organisations that have ended at this moment.
pub record HasOthersEndedPermissions (now : ℤ) (a : Account) (s t : State) : Type 0 where
  pub permissions : live_or_own_permissions now a s ≡ live_or_own_permissions now a t
  pub after : t ≡ record s { permissions = t.permissions }

-- In two such sound states the same reply is due to the person, also to how an own report is shared.
abbrev pub OthersEndedPermissionsAreNotFelt : Type 0
OthersEndedPermissionsAreNotFelt = (now : ℤ) (a : Account) (s t : State) (request : Request) → IsSound s → IsSound t →
    Contains s.directory.accounts a → HasOthersEndedPermissions now a s t → is_answered_alike request ≡ true →
    reply_of s now (Digest a.key) request ≡ reply_of t now (Digest a.key) request
