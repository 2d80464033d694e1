-- The grounds on which a command is refused.
use Rattle.std.specs.Prelude.{ℕ, Bool, true, false, not, ◌&&◌, ◌||◌, ◌==◌, nat_le, List, [], ◌∷◌, length, Option, Some, None, if◌then◌else◌, codes, min, max}
use Rattle.circle.specs.declared.TheConstants.{ORG_LIMIT, PERSON_LIMIT, COMMUNITY_LIMIT, GROUP_LIMIT}
use Rattle.circle.specs.declared.directory.Role.{Role}
use Rattle.circle.specs.declared.directory.Role.TheVariants.{Administrator, Coordinator}
use Rattle.circle.specs.declared.directory.Person.{Person}
use Rattle.circle.specs.declared.command.CircleCommand.{CircleCommand}
use Rattle.circle.specs.declared.command.CircleCommand.TheVariants.{AddOrg, AddPerson, SuspendPerson, AddClient, RemoveClient, AddCommunity, Join, Leave, Link}
use Rattle.circle.specs.declared.command.CircleCommand.TheVariants.{Unlink, NewGroup, GroupAdd, GroupRemove, GroupActive, Arrange, CancelArrange, Nominate}
use Rattle.circle.specs.declared.command.CircleCommand.TheVariants.{Unnominate, NewKey}
use Rattle.circle.specs.declared.refusal.Code.{Code}
use Rattle.circle.specs.declared.refusal.Code.TheVariants.{W1, B1, N2, W2, W3, S1, S2, L1}
use Rattle.circle.specs.declared.refusal.Refusal.{Refusal}
use Rattle.circle.specs.Outcomes.{bare}
use Rattle.circle.specs.Texts.{is_name, is_releasability}
use Rattle.circle.specs.Directory.{Directory, has_org, has_org_named, has_person, has_key, has_suspended, has_nominated, has_person_of, has_client}
use Rattle.circle.specs.Directory.{has_community, has_community_named, has_membership, has_connection, has_group_named, has_group_of, has_group_being}
use Rattle.circle.specs.Directory.{has_group_member, has_extender, has_arrangement}

-- a ground: whether it holds, and the answer if it does
pub record Ground : Type 0 where
  pub holds : Bool
  pub answer : Refusal

-- the answer of the first ground that holds
abbrev pub first_answer : List Ground → Option Refusal
first_answer [] = None
first_answer (g ∷ gs) = if g.holds then Some g.answer else first_answer gs

-- a ground with this code and no detail
abbrev pub refuse : Code → Bool → Ground
refuse code holds = record { holds = holds; answer = bare code }

-- ---- the grounds, each under its name

-- whether the role is that of an administrator
abbrev pub is_administrator : Role → Bool
is_administrator Administrator = true
is_administrator _ = false

-- whether the role is that of a coordinator
abbrev pub is_coordinator : Role → Bool
is_coordinator Coordinator = true
is_coordinator _ = false

-- `W1` unless the actor is an administrator
abbrev pub unless_administrator : Person → Ground
unless_administrator actor = refuse W1 (not (is_administrator actor.role))

-- `W1` unless the actor is a coordinator
abbrev pub unless_coordinator : Person → Ground
unless_coordinator actor = refuse W1 (not (is_coordinator actor.role))

-- `B1` with the field as its detail, if the argument is bad
abbrev pub bad : List ℕ → Bool → Ground
bad field holds = record { holds = holds; answer = record { code = B1; detail = field } }

-- `N2` unless the row that is named is there
abbrev pub unknown_unless : Bool → Ground
unknown_unless known = refuse N2 (not known)

-- `W2` if the group isn't the actor's to extend or to change
abbrev pub not_yours : Bool → Ground
not_yours = refuse W2

-- `W3` unless the person is of the actor's organisation
abbrev pub stranger_unless : Bool → Ground
stranger_unless own = refuse W3 (not own)

-- `S1` if it is so already
abbrev pub already : Bool → Ground
already = refuse S1

-- `S2` unless it is so
abbrev pub not_so_unless : Bool → Ground
not_so_unless stands = refuse S2 (not stands)

-- `L1` if there are as many rows as the limit
abbrev pub full : ℕ → {X : Type 0} → List X → Ground
full limit rows = refuse L1 (nat_le limit (length rows))

-- ---- the table

-- the table of refusals: the grounds of the actor's command, in their order
abbrev pub grounds : Directory → Person → CircleCommand → List Ground
grounds d a (AddOrg name) =
    unless_administrator a ∷ bad (codes "name") (not (is_name name)) ∷ already (has_org_named name d) ∷ full ORG_LIMIT d.orgs ∷ []
grounds d a (AddPerson org name role key) =
    unless_administrator a ∷ bad (codes "name") (not (is_name name)) ∷ unknown_unless (has_org org d) ∷ already (has_key key d) ∷ full PERSON_LIMIT d.accounts ∷ []
grounds d a (SuspendPerson person) =
    unless_administrator a ∷ bad (codes "person") (person == a.number) ∷ unknown_unless (has_person person d) ∷ already (has_suspended person d) ∷ []
grounds d a (AddClient org client) =
    unless_administrator a ∷ bad (codes "client") (org == client) ∷ unknown_unless (has_org org d && has_org client d) ∷ already (has_client org client d) ∷ []
grounds d a (RemoveClient org client) =
    unless_administrator a ∷ bad (codes "client") (org == client) ∷ unknown_unless (has_org org d && has_org client d) ∷ not_so_unless (has_client org client d) ∷ []
grounds d a (AddCommunity name) =
    unless_administrator a ∷ bad (codes "name") (not (is_name name)) ∷ already (has_community_named name d) ∷ full COMMUNITY_LIMIT d.communities ∷ []
grounds d a (Join community org) =
    unless_administrator a ∷ unknown_unless (has_community community d && has_org org d) ∷ already (has_membership community org d) ∷ []
grounds d a (Leave community org) =
    unless_administrator a ∷ unknown_unless (has_community community d && has_org org d) ∷ not_so_unless (has_membership community org d) ∷ []
grounds d a (Link community other) =
    unless_administrator a ∷ bad (codes "other") (community == other) ∷ unknown_unless (has_community community d && has_community other d) ∷ already (has_connection (min community other) (max community other) d) ∷ []
grounds d a (Unlink community other) =
    unless_administrator a ∷ bad (codes "other") (community == other) ∷ unknown_unless (has_community community d && has_community other d) ∷ not_so_unless (has_connection (min community other) (max community other) d) ∷ []
grounds d a (NewGroup name releasability) =
    unless_coordinator a ∷ bad (codes "name") (not (is_name name)) ∷ bad (codes "releasability") (not (is_releasability releasability)) ∷ already (has_group_named a.org name d) ∷ full GROUP_LIMIT d.groups ∷ []
grounds d a (GroupAdd group org extend) =
    unless_coordinator a ∷ unknown_unless (has_group_member group a.org d && has_org org d) ∷ not_yours (not (has_extender group a.org d)) ∷ already (has_group_member group org d) ∷ []
grounds d a (GroupRemove group org) =
    unless_coordinator a ∷ unknown_unless (has_group_member group a.org d && has_org org d) ∷ not_yours (not (has_group_of group a.org d) || has_group_of group org d) ∷ not_so_unless (has_group_member group org d) ∷ []
grounds d a (GroupActive group active) =
    unless_coordinator a ∷ unknown_unless (has_group_member group a.org d) ∷ not_yours (not (has_group_of group a.org d)) ∷ already (has_group_being group active d) ∷ []
grounds d a (Arrange org handling) =
    unless_coordinator a ∷ bad (codes "org") (org == a.org) ∷ unknown_unless (has_org org d) ∷ already (has_arrangement a.org org d) ∷ []
grounds d a (CancelArrange org) =
    unless_coordinator a ∷ unknown_unless (has_org org d) ∷ not_so_unless (has_arrangement a.org org d) ∷ []
grounds d a (Nominate person) =
    unless_coordinator a ∷ unknown_unless (has_person person d) ∷ stranger_unless (has_person_of person a.org d) ∷ already (has_nominated person d) ∷ []
grounds d a (Unnominate person) =
    unless_coordinator a ∷ unknown_unless (has_person person d) ∷ stranger_unless (has_person_of person a.org d) ∷ not_so_unless (has_nominated person d) ∷ []
grounds d a (NewKey key) =
    already (has_key key d) ∷ []

-- the refusal of the actor's command: the answer of the first ground that holds, if one holds
abbrev pub refusal_of : Directory → Person → CircleCommand → Option Refusal
refusal_of d actor command = first_answer (grounds d actor command)
