-- What is known of the names in a request if no ground holds.
use Rattle.std.proofs.{Common.{◌≡◌, ℕ, ◌==◌, Bool, true, false, not, if◌then◌else◌, Option, Some, None, refl, sym, ap, ◌∙◌, subst}, lemmas.Bool.and_parts}
use Rattle.{std.{proofs.lemmas.Bool.{eqb-true, not-false}, specs.{List.list_all, Option.option_map_or, Prelude.option_map}}, iodef_tree.specs.Text.Bytes}
use Rattle.{iodef_tree.specs.Text.Tokens, policy.specs.declared.permission.Grantee.Grantee, circle.proofs.Keeping.{found_then, each_weaker}}
use Rattle.circle.specs.{Directory.{Directory, has_group_member, has_membership}, Sound.{Each, IsCommunity, IsGroup}, declared.directory.Person.Person}
use Rattle.hub_state.{proofs.Keeping.{all_each, found_any, found_is, found_passing}, specs.{Documents.{Lines, at_pointer}, Facts.counted}}
use Rattle.hub_state.specs.{Requests.{incident_facts, is_own_community, is_own_group, are_own_groups, has_joined_all, is_target, is_grantee}, Sound.IsIncident}
use Rattle.hub_state.specs.{Sound.{IsTarget, IsGrantee, IsCommunityIfAny, IsGroupIfAny}, State.{State, incident_of}, declared.facts.IncidentFacts.IncidentFacts}
use Rattle.hub_state.specs.declared.{request.{Distribution.Distribution, Target.Target, WantedGate.WantedGate}, state.Incident.Incident}
use Rattle.hub_core.specs.Judgement.{is_own}
use Rattle.policy.specs.declared.permission.Grantee.TheVariants as grantee
use Rattle.circle.specs.Sound as circle
use Rattle.hub_state.specs.declared.request.Target.TheVariants as target
pub use Rattle.hub_state.proofs.Keeping.{some_is}

-- ---- what is known of an incident

pub map_or_map : {X Y Z : Type 0} (f : Y → Z) (g : X → Y) (o : Option X) (z : Z) → option_map_or f (option_map g o) z ≡ option_map_or (λ x. f (g x)) o z
map_or_map f g None z = refl
map_or_map f g (Some x) z = refl

-- a test of the incident's document is a test of the incident
pub of_document : (test : Lines → Tokens → Bool) (o : Option Incident) (path : Bytes) →
    at_pointer (λ p. option_map_or (λ (doc : Lines). test doc p) (option_map (λ (i : Incident). i.document) o) false) path
    ≡ at_pointer (λ p. option_map_or (λ (i : Incident). test i.document p) o false) path
of_document test None path = refl
of_document test (Some i) path = refl

-- the incident that the source's request names
pub record Own (s : State) (a : Person) (n : ℕ) : Type 0 where
  pub incident : Incident
  pub found : incident_of n s ≡ Some incident
  pub source : incident.naming.source ≡ a.org
  pub number : incident.naming.number ≡ n

pub own : (s : State) (a : Person) (n : ℕ) → not (is_own (option_map incident_facts (incident_of n s)) a) ≡ false → Own s a n
own s a n h =
    let theirs = λ (k : IncidentFacts). k.source == a.org in
    let f = found_passing (λ (i : Incident). i.naming.source == a.org) (incident_of n s) (sym (map_or_map theirs incident_facts (incident_of n s) false) ∙ not-false (is_own (option_map incident_facts (incident_of n s)) a) h) in
    record { incident = f.0; found = f.1; source = eqb-true f.0.naming.source a.org f.2; number = eqb-true f.0.naming.number n (found_is (λ (i : Incident). i.naming.number == n) s.incidents f.0 f.1) }

pub is_incident : (s : State) (n : ℕ) (i : Incident) → incident_of n s ≡ Some i → IsIncident s.incidents n
is_incident s n i h = found_any (λ (x : Incident). x.naming.number == n) s.incidents (some_is (incident_of n s) i h)

-- the count, if the incident is there
pub counted_is : (s : State) (n : ℕ) (i : Incident) (count : ℕ → ℕ) → incident_of n s ≡ Some i → counted s (Some n) count ≡ count n
counted_is s n i count h = ap (λ b. if b then count n else 0) (some_is (incident_of n s) i h)

pub target_is : (d : Directory) (t : Target) → is_target d t ≡ true → IsTarget d t
target_is d (target.Person n) h = h
target_is d (target.Org n) h = h

-- a group with a member is there
group_is : (d : Directory) (n org : ℕ) → circle.IsSound d → has_group_member n org d ≡ true → IsGroup d.groups n
group_is d n org h member = found_then _ _ (IsGroup d.groups n) d.group_members (λ m is e. subst (IsGroup d.groups) (eqb-true m.group n (and_parts (m.group == n) (m.org == org) is).0) e.0) member h.group_members.ends

pub grantee_is : (d : Directory) (org : ℕ) (g : Grantee) → circle.IsSound d → is_grantee d org g ≡ true → IsGrantee d g
grantee_is d org (grantee.Person n) h k = k
grantee_is d org (grantee.Org n) h k = k
grantee_is d org (grantee.Community n) h k = k
grantee_is d org (grantee.Group n) h k = group_is d n org h k

pub group_if_any : (s : State) (a : Person) (g : Option ℕ) → circle.IsSound s.directory → is_own_group s a g ≡ true → IsGroupIfAny s.directory.groups g
group_if_any s a None h k = tt
group_if_any s a (Some n) h k = group_is s.directory n a.org h k

-- the groups of an incident's gates are there
groups_are : (s : State) (a : Person) (d : Distribution) → circle.IsSound s.directory → are_own_groups s a d ≡ true →
    IsGroupIfAny s.directory.groups d.group × Each (λ (g : WantedGate). IsGroupIfAny s.directory.groups g.group) d.gates
groups_are s a d h k =
    let parts = and_parts (is_own_group s a d.group) (list_all (λ (g : WantedGate). is_own_group s a g.group) d.gates) k in
    (group_if_any s a d.group h parts.0, each_weaker _ _ d.gates (λ g e. group_if_any s a g.group h e) (all_each (λ (g : WantedGate). is_own_group s a g.group) d.gates parts.1))

-- a community with a member is there
community_is : (d : Directory) (n org : ℕ) → circle.IsSound d → has_membership n org d ≡ true → IsCommunity d.communities n
community_is d n org h member = found_then _ _ (IsCommunity d.communities n) d.memberships (λ m is e. subst (IsCommunity d.communities) (eqb-true m.community n (and_parts (m.community == n) (m.org == org) is).0) e.0) member h.memberships.ends

community_if_any : (s : State) (a : Person) (community : Option ℕ) → circle.IsSound s.directory → is_own_community s a community ≡ true → IsCommunityIfAny s.directory.communities community
community_if_any s a None h k = tt
community_if_any s a (Some n) h k = community_is s.directory n a.org h k

-- so are the community and the groups that a distribution names
pub record AreThere (directory : Directory) (d : Distribution) : Type 0 where
  pub community : IsCommunityIfAny directory.communities d.community
  pub group : IsGroupIfAny directory.groups d.group
  pub groups : Each (λ (g : WantedGate). IsGroupIfAny directory.groups g.group) d.gates

pub all_there : (s : State) (a : Person) (d : Distribution) → circle.IsSound s.directory → has_joined_all s a d ≡ true → AreThere s.directory d
all_there s a d h k =
    let parts = and_parts (is_own_community s a d.community) (are_own_groups s a d) k in
    let groups = groups_are s a d h parts.1 in
    record { community = community_if_any s a d.community h parts.0; group = groups.0; groups = groups.1 }
