-- A change of the directory leaves a sound state.
use Rattle.{std.proofs.Common.{◌≡◌, ℕ, Option, Some, None, sym, subst}, policy.specs.declared.permission.Grantee.Grantee, circle.proofs.Growth.grows}
use Rattle.circle.{proofs.Keeping.each_weaker, specs.{Directory.Directory, Growth.Grows, Sound.IsOrg, declared.command.CircleCommand.CircleCommand}}
use Rattle.{circle.specs.declared.{command.Edit.Edit as CircleEdit, directory.Person.Person}, hub_state.specs.{Aftermath.changed, Sound.{IsSound, IsTarget}}}
use Rattle.hub_state.specs.{Sound.{IsGrantee, IsCommunityIfAny, IsGroupIfAny}, State.State, declared.request.Target.Target}
use Rattle.hub_core.{proofs.Commands.rows_make, specs.Refusals.refusal_of}
use Rattle.policy.specs.declared.permission.Grantee.TheVariants as grantee
use Rattle.circle.specs.Aftermath as circle
use Rattle.circle.specs.Sound as circle_sound
use Rattle.circle.proofs.Kept as kept
use Rattle.hub_state.specs.declared.request.Request.TheVariants as ask
use Rattle.hub_state.specs.declared.request.Target.TheVariants as target

community_stays : (d e : Directory) → Grows d e → (community : Option ℕ) → IsCommunityIfAny d.communities community → IsCommunityIfAny e.communities community
community_stays d e more None h = tt
community_stays d e more (Some n) h = more.communities n h

group_stays : (d e : Directory) → Grows d e → (g : Option ℕ) → IsGroupIfAny d.groups g → IsGroupIfAny e.groups g
group_stays d e more None h = tt
group_stays d e more (Some n) h = more.groups n h

target_stays : (d e : Directory) → Grows d e → (t : Target) → IsTarget d t → IsTarget e t
target_stays d e more (target.Person n) h = more.persons n h
target_stays d e more (target.Org n) h = more.orgs n h

grantee_stays : (d e : Directory) → Grows d e → (g : Grantee) → IsGrantee d g → IsGrantee e g
grantee_stays d e more (grantee.Person n) h = more.persons n h
grantee_stays d e more (grantee.Org n) h = more.orgs n h
grantee_stays d e more (grantee.Community n) h = more.communities n h
grantee_stays d e more (grantee.Group n) h = more.groups n h

with_directory : (s : State) (e : Directory) → IsSound s → circle_sound.IsSound e → Grows s.directory e → IsSound (record s { directory = e })
with_directory s e h sound more =
    let d = s.directory in
    record {
      directory = sound;
      incidents = record {
        numbered = h.incidents.numbered;
        idents = h.incidents.idents;
        sources = each_weaker _ _ s.incidents (λ i known. more.orgs i.naming.source known) h.incidents.sources;
        revisions = h.incidents.revisions;
        communities = each_weaker _ _ s.incidents (λ i known. community_stays d e more i.naming.community known) h.incidents.communities;
        documents = h.incidents.documents;
        follow = h.incidents.follow;
      };
      gates = record {
        rising = h.gates.rising;
        places = h.gates.places;
        ends = each_weaker _ _ s.gates (λ g known. group_stays d e more g.gate.group known) h.gates.ends;
        roots = h.gates.roots;
        limit = h.gates.limit;
      };
      recipients = record {
        rising = h.recipients.rising;
        ends = h.recipients.ends;
        targets = each_weaker _ _ s.recipients (λ r known. target_stays d e more r.target known) h.recipients.targets;
        limit = h.recipients.limit;
      };
      permissions = record {
        rising = h.permissions.rising;
        places = h.permissions.places;
        grantees = each_weaker _ _ s.permissions (λ x known. grantee_stays d e more x.permission.grantee known) h.permissions.grantees;
        limit = h.permissions.limit;
      };
    }

pub directory_kept : (s : State) (a : Person) (c : CircleCommand) → IsSound s → IsOrg s.directory.orgs a.org → refusal_of s a (ask.Circle c) ≡ None → IsSound (changed s a (ask.Circle c))
directory_kept s a c h known fine =
    let edit : CircleEdit = circle.edit_of (circle.next_in s.directory c) a c in
    subst IsSound (sym (rows_make edit s)) (with_directory s (circle.changed s.directory a c) h (kept.kept s.directory a c h.directory known fine) (grows edit s.directory))
