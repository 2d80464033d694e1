-- The laws of every command.
use Rattle.std.specs.Prelude.{◌≡◌, ◌≢◌, ℕ, List, Some, IsTrue}
use Rattle.circle.specs.declared.directory.Person.{Person}
use Rattle.circle.specs.declared.command.CircleCommand.{CircleCommand}
use Rattle.circle.specs.declared.command.CircleCommand.TheVariants.{NewKey}
use Rattle.circle.specs.declared.refusal.Refusal.{Refusal}
use Rattle.circle.specs.Directory.{Directory, empty, has_suspended}
use Rattle.circle.specs.Refusals.{refusal_of}
use Rattle.circle.specs.declared.command.Edit.{Edit}
use Rattle.circle.specs.Aftermath.{edited, edited_rows, rows_of, state_after}
use Rattle.circle.specs.Sound.{IsSound, IsOrg, OwnersExtend}
use Rattle.circle.specs.Others.{LeavesTheirs}
use Rattle.circle.specs.Growth.{Grows}
use Rattle.circle.specs.NewKeys.{ChangesKeyOf}

-- A command of a person of a sound directory leaves the directory sound.
abbrev pub StaysSound : Type 0
StaysSound = (d : Directory) (actor : Person) (command : CircleCommand) → IsSound d → IsOrg d.orgs actor.org → IsSound (state_after d actor command)

-- The owners of groups stay members that may extend them.
abbrev pub OwnersStay : Type 0
OwnersStay = (d : Directory) (actor : Person) (command : CircleCommand) → OwnersExtend d → OwnersExtend (state_after d actor command)

-- The directory without a row is sound, and the owner of each of its groups stays a member that may extend it.
abbrev pub EmptyIsSound : Type 0
EmptyIsSound = IsSound empty × OwnersExtend empty

-- A refused command changes no row.
abbrev pub RefusalsLeaveAll : Type 0
RefusalsLeaveAll = (d : Directory) (actor : Person) (command : CircleCommand) (why : Refusal) → refusal_of d actor command ≡ Some why → state_after d actor command ≡ d

-- No command of a person, of any role, changes another organisation's arrangements, nominations or groups, except that
-- an extend flag lets it put a member in.
abbrev pub OrganisationsKeepApart : Type 0
OrganisationsKeepApart = (d : Directory) (actor : Person) (command : CircleCommand) (other : ℕ) → IsSound d → other ≢ actor.org → LeavesTheirs other actor.org d (state_after d actor command)

-- A suspended person stays suspended.
abbrev pub SuspendedStays : Type 0
SuspendedStays = (d : Directory) (actor : Person) (command : CircleCommand) (person : ℕ) → IsTrue (has_suspended person d) → IsTrue (has_suspended person (state_after d actor command))

-- No organisation, person, community or group goes away.
abbrev pub NothingVanishes : Type 0
NothingVanishes = (d : Directory) (actor : Person) (command : CircleCommand) → Grows d (state_after d actor command)

-- A new key changes nothing but the key of the actor, of any role.
abbrev pub NewKeysChangeOne : Type 0
NewKeysChangeOne = (d : Directory) (actor : Person) (key : List ℕ) → ChangesKeyOf actor.number d (state_after d actor (NewKey key))

-- An edit is the edits of its rows, one after another.
abbrev pub EditsAreRows : Type 0
EditsAreRows = (edit : Edit) (d : Directory) → edited_rows (rows_of edit) d ≡ edited edit d
