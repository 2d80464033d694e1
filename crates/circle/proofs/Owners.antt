-- The owners of groups stay members that may extend them.
use Rattle.std.proofs.Common.{◌≡◌, ℕ, ◌==◌, ◌&&◌, ◌||◌, Bool, true, false, not, List, [], ◌∷◌, filter, IsTrue, Option, Some, None, if◌then◌else◌, refl, sym, ap}
use Rattle.std.{proofs.{Common.{◌∙◌, arith}, lemmas.Bool.Decides.nat_tests}, specs.{List.list_any, Ordering.is_lt, declared.cmp.Ordering.Ordering}}
use Rattle.circle.{proofs.{Judged.passed, Keeping.{each_put, each_weaker, each_map, any_put, none_of}, Kept.same_when}, specs.Aftermath.changed}
use Rattle.circle.specs.{Aftermath.{unless_refused, next_in}, Directory.{Directory, group_number, group_member_key, has_extender, has_group_of}}
use Rattle.circle.specs.{Laws.{OwnersStay, EmptyIsSound}, Ordered.{put_by, by_number, by_pair}, Refusals.{grounds, refusal_of}, Sound.{Each, OwnersExtend}}
use Rattle.circle.specs.declared.command.CircleCommand.{CircleCommand, TheVariants.{AddOrg, AddPerson, SuspendPerson, AddClient, RemoveClient, AddCommunity}}
use Rattle.circle.specs.declared.command.CircleCommand.TheVariants.{Join, Leave, Link, Unlink, NewGroup, GroupAdd, GroupRemove, GroupActive, Arrange}
use Rattle.circle.specs.declared.{command.CircleCommand.TheVariants.{CancelArrange, Nominate, Unnominate, NewKey}, directory.Group.Group}
use Rattle.circle.specs.declared.{directory.{GroupMember.GroupMember, Person.Person}, refusal.Refusal.Refusal}

abbrev extends_it : Group → GroupMember → Bool
extends_it g m = m.group == g.number && m.org == g.owner && m.extend

-- the new row is found
any_new : {X : Type 0} (p : X → Bool) (cmp : X → X → Ordering) (x : X) (xs : List X) → p x ≡ true → IsTrue (list_any p (put_by cmp x xs))
any_new p cmp x [] here = ap (λ b. b || false) here
any_new p cmp x (y ∷ ys) here = elim (is_lt (cmp x y)) as (λ b. IsTrue (list_any p (if b then x ∷ y ∷ ys else y ∷ put_by cmp x ys))) [
  | true ↦ ap (λ b. b || list_any p (y ∷ ys)) here
  | false ↦ after (p y) (any_new p cmp x ys here)
]
  where
    after : (b : Bool) → IsTrue (list_any p (put_by cmp x ys)) → IsTrue (b || list_any p (put_by cmp x ys))
    after true e = refl
    after false e = e

-- a row that is found is found too if only other rows are taken out
any_left : {X : Type 0} (p q : X → Bool) (xs : List X) → ((x : X) → p x ≡ true → q x ≡ true) → IsTrue (list_any p xs) → IsTrue (list_any p (filter q xs))
any_left p q [] go h = h
any_left p q (x ∷ xs) go h = split (p x) (q x) refl refl (any_left p q xs go)
  where
    kept : q x ≡ true → IsTrue (list_any p (x ∷ filter q xs)) → IsTrue (list_any p (filter q (x ∷ xs)))
    kept is found = ap (λ t. list_any p (if t then x ∷ filter q xs else filter q xs)) is ∙ found

    later : p x ≡ false → IsTrue (list_any p xs)
    later is = sym (ap (λ b. b || list_any p xs) is) ∙ h

    split : (a b : Bool) → p x ≡ a → q x ≡ b → (IsTrue (list_any p xs) → IsTrue (list_any p (filter q xs))) → IsTrue (list_any p (filter q (x ∷ xs)))
    split true b is left rest = kept (go x is) (ap (λ t. t || list_any p (filter q xs)) is)
    split false true is left rest = kept left (ap (λ t. t || list_any p (filter q xs)) is ∙ rest (later is))
    split false false is left rest = ap (λ t. list_any p (if t then x ∷ filter q xs else filter q xs)) left ∙ rest (later is)

each_both : {X : Type 0} (P Q R : X → Type 0) (xs : List X) → ((x : X) → P x → Q x → R x) → Each P xs → Each Q xs → Each R xs
each_both P Q R [] go all those = tt
each_both P Q R (x ∷ xs) go all those = (go x all.0 those.0, each_both P Q R xs go all.1 those.1)

not_theirs_if : (mine theirs : Bool) → (not mine || theirs) ≡ false → theirs ≡ false
not_theirs_if true theirs h = h
not_theirs_if false theirs h = cc

another_row : (g o number owner group org : ℕ) (extend : Bool) → (number == group && owner == org) ≡ false → (g == number && o == owner && extend) ≡ true → not (g == group && o == org) ≡ true
another_row g o number owner group org true other here = grind (arith, nat_tests)
another_row g o number owner group org false other here = grind (arith, nat_tests)

own_row : (number owner : ℕ) → (number == number && owner == owner && true) ≡ true
own_row number owner = grind (arith, nat_tests)

owners_changed : (d : Directory) (a : Person) (c : CircleCommand) → OwnersExtend d → refusal_of d a c ≡ None → OwnersExtend (changed d a c)
owners_changed d a (AddOrg name) h fine = h
owners_changed d a (AddPerson org name role key) h fine = h
owners_changed d a (SuspendPerson person) h fine = h
owners_changed d a (AddClient org client) h fine = h
owners_changed d a (RemoveClient org client) h fine = h
owners_changed d a (AddCommunity name) h fine = h
owners_changed d a (Join community org) h fine = h
owners_changed d a (Leave community org) h fine = h
owners_changed d a (Link community other) h fine = h
owners_changed d a (Unlink community other) h fine = h
owners_changed d a (NewGroup name releasability) h fine =
    let group : Group = record { number = next_in d (NewGroup name releasability); owner = a.org; name = name; releasability = releasability; active = true } in
    let row : GroupMember = record { group = group.number; org = a.org; extend = true } in
    each_put (λ (g : Group). IsTrue (list_any (extends_it g) (put_by (by_pair group_member_key) row d.group_members))) (by_number group_number) group d.groups
    (any_new (extends_it group) (by_pair group_member_key) row d.group_members (own_row group.number a.org))
    (each_weaker (λ (g : Group). IsTrue (has_extender g.number g.owner d)) _ d.groups (λ g there. any_put (extends_it g) (by_pair group_member_key) row d.group_members there) h)
owners_changed d a (GroupAdd group org extend) h fine = each_weaker (λ (g : Group). IsTrue (has_extender g.number g.owner d)) _ d.groups (λ g there. any_put (extends_it g) (by_pair group_member_key) _ d.group_members there) h
owners_changed d a (GroupRemove group org) h fine =
    let p = passed (grounds d a (GroupRemove group org)) fine in
    each_both (λ (g : Group). IsTrue (has_extender g.number g.owner d)) (λ (g : Group). (g.number == group && g.owner == org) ≡ false) _ d.groups
    (λ g there other. any_left (extends_it g) (λ (m : GroupMember). not (m.group == group && m.org == org)) d.group_members (λ m here. another_row m.group m.org g.number g.owner group org m.extend other here) there)
    h (none_of (λ (g : Group). g.number == group && g.owner == org) d.groups (not_theirs_if (has_group_of group a.org d) (has_group_of group org d) p.1.1.0))
owners_changed d a (GroupActive group active) h fine = each_map (λ (g : Group). IsTrue (has_extender g.number g.owner d)) (λ (g : Group). if g.number == group then record g { active = active } else g) d.groups (λ g there. same_when (λ (x : Group). has_extender x.number x.owner d) (g.number == group) (record g { active = active }) g refl ∙ there) h
owners_changed d a (Arrange org handling) h fine = h
owners_changed d a (CancelArrange org) h fine = h
owners_changed d a (Nominate person) h fine = h
owners_changed d a (Unnominate person) h fine = h
owners_changed d a (NewKey key) h fine = h

pub owners_after : OwnersStay
owners_after d a c h = split (refusal_of d a c) refl
  where
    split : (r : Option Refusal) → refusal_of d a c ≡ r → OwnersExtend (unless_refused r d (changed d a c))
    split None fine = owners_changed d a c h fine
    split (Some r) is = h

pub empty_sound : EmptyIsSound
empty_sound = (
  record {
    orgs = record { numbered = (tt, omega arith); names = tt };
    accounts = record { numbered = (tt, omega arith); keys = tt; ends = tt };
    clients = record { rising = tt; ends = tt };
    communities = record { numbered = (tt, omega arith); names = tt };
    memberships = record { rising = tt; ends = tt };
    connections = record { rising = tt; ends = tt };
    groups = record { numbered = (tt, omega arith); names = tt; ends = tt };
    group_members = record { rising = tt; ends = tt };
    arrangements = record { rising = tt; ends = tt };
  },
  tt,
)
