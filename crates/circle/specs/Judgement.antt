-- The refusal by the facts: one order of grounds for every command.
use Rattle.std.specs.Prelude.{ℕ, Bool, true, false, not, ◌&&◌, ◌||◌, ◌==◌, nat_le, List, Option, Some, None, if◌then◌else◌, codes}
use Rattle.circle.specs.declared.TheConstants.{ORG_LIMIT, PERSON_LIMIT, COMMUNITY_LIMIT, GROUP_LIMIT}
use Rattle.circle.specs.declared.directory.Role.{Role}
use Rattle.circle.specs.declared.directory.Person.{Person}
use Rattle.circle.specs.declared.command.CircleCommand.{CircleCommand}
use Rattle.circle.specs.declared.command.CircleCommand.TheVariants.{AddOrg, AddPerson, SuspendPerson, AddClient, RemoveClient, AddCommunity, Join, Leave, Link}
use Rattle.circle.specs.declared.command.CircleCommand.TheVariants.{Unlink, NewGroup, GroupAdd, GroupRemove, GroupActive, Arrange, CancelArrange, Nominate}
use Rattle.circle.specs.declared.command.CircleCommand.TheVariants.{Unnominate, NewKey}
use Rattle.circle.specs.declared.command.CircleFacts.{CircleFacts}
use Rattle.circle.specs.declared.refusal.Code.TheVariants.{W1, B1, N2, W2, W3, S1, S2, L1}
use Rattle.circle.specs.declared.refusal.Refusal.{Refusal}
use Rattle.circle.specs.Outcomes.{bare}
use Rattle.circle.specs.Texts.{is_name, is_releasability}
use Rattle.circle.specs.Refusals.{is_administrator, is_coordinator}

-- whether a role allows the command: an administrator's, a coordinator's or each
abbrev pub is_allowed : CircleCommand → Role → Bool
is_allowed (AddOrg name) = is_administrator
is_allowed (AddPerson org name role key) = is_administrator
is_allowed (SuspendPerson person) = is_administrator
is_allowed (AddClient org client) = is_administrator
is_allowed (RemoveClient org client) = is_administrator
is_allowed (AddCommunity name) = is_administrator
is_allowed (Join community org) = is_administrator
is_allowed (Leave community org) = is_administrator
is_allowed (Link community other) = is_administrator
is_allowed (Unlink community other) = is_administrator
is_allowed (NewKey key) = λ (role : Role). true
is_allowed _ = is_coordinator

-- this field if it is bad, else the other answer
abbrev pub field_if : Bool → List ℕ → Option (List ℕ) → Option (List ℕ)
field_if bad field other = if bad then Some field else other

-- the first argument of the command that is bad by itself, if one is
abbrev pub bad_field : CircleCommand → Person → Option (List ℕ)
bad_field (AddOrg name) a = field_if (not (is_name name)) (codes "name") None
bad_field (AddPerson org name role key) a = field_if (not (is_name name)) (codes "name") None
bad_field (SuspendPerson person) a = field_if (person == a.number) (codes "person") None
bad_field (AddClient org client) a = field_if (org == client) (codes "client") None
bad_field (RemoveClient org client) a = field_if (org == client) (codes "client") None
bad_field (AddCommunity name) a = field_if (not (is_name name)) (codes "name") None
bad_field (Link community other) a = field_if (community == other) (codes "other") None
bad_field (Unlink community other) a = field_if (community == other) (codes "other") None
bad_field (NewGroup name releasability) a = field_if (not (is_name name)) (codes "name") (field_if (not (is_releasability releasability)) (codes "releasability") None)
bad_field (Arrange org handling) a = field_if (org == a.org) (codes "org") None
bad_field _ a = None

-- whether the actor's organisation may not change the group so
abbrev pub lacks_right : CircleCommand → CircleFacts → Bool
lacks_right (GroupAdd group org extend) f = not f.may_extend
lacks_right (GroupRemove group org) f = not f.owner || f.target_is_owner
lacks_right (GroupActive group active) f = not f.owner
lacks_right _ f = false

-- whether the person isn't of the actor's organisation
abbrev pub is_strange : CircleCommand → CircleFacts → Bool
is_strange (Nominate person) f = not f.own_person
is_strange (Unnominate person) f = not f.own_person
is_strange _ f = false

-- Whether the command takes something back. `Unnominate` does: it is refused by `S2` if the person isn't nominated.
abbrev pub is_removal : CircleCommand → Bool
is_removal (RemoveClient org client) = true
is_removal (Leave community org) = true
is_removal (Unlink community other) = true
is_removal (GroupRemove group org) = true
is_removal (CancelArrange org) = true
is_removal (Unnominate person) = true
is_removal _ = false

-- the limit of the kind of row that the command numbers; of a command that numbers none the facts count 0
abbrev pub limit_of : CircleCommand → ℕ
limit_of (AddOrg name) = ORG_LIMIT
limit_of (AddPerson org name role key) = PERSON_LIMIT
limit_of (AddCommunity name) = COMMUNITY_LIMIT
limit_of _ = GROUP_LIMIT

-- the refusal of a bad field if there is one, else the other answer
abbrev pub with_field : Option (List ℕ) → Option Refusal → Option Refusal
with_field (Some field) rest = Some (record { code = B1; detail = field })
with_field None rest = rest

-- the first ground from `N2` on that the facts give
abbrev pub objection_of : CircleFacts → CircleCommand → Option Refusal
objection_of f c =
    if not f.exists then Some (bare N2) else
    if lacks_right c f then Some (bare W2) else
    if is_strange c f then Some (bare W3) else
    if is_removal c && not f.stands then Some (bare S2) else
    if not (is_removal c) && f.stands then Some (bare S1) else
    if nat_le (limit_of c) f.count then Some (bare L1) else
    None

-- the refusal by the facts: of the role, then of the arguments, then of the facts
abbrev pub refusal_by : CircleFacts → Person → CircleCommand → Option Refusal
refusal_by f a c = if not (is_allowed c a.role) then Some (bare W1) else with_field (bad_field c a) (objection_of f c)
