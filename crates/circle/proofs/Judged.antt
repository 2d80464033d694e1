-- The facts of a directory give its refusals, and if it is sound the next number.
use Rattle.std.proofs.Common.{◌≡◌, ℕ, ◌+◌, List, [], ◌∷◌, map, length, max, Option, Some, None, Result, Ok, Err, IfOk, OnOk, Bool, true, false, if◌then◌else◌}
use Rattle.std.{proofs.{Common.{refl, sym, ap, ◌∙◌, arith, not, ◌&&◌, ◌<◌}, lemmas.Bool.Decides.nat_tests}, specs.Prelude.nat_le}
use Rattle.circle.specs.{Aftermath.{greatest, next_in, edit_of, edited, changed, state_after, unless_refused}, Directory.{Directory, org_number}}
use Rattle.circle.specs.{Directory.{account_number, community_number, group_number}, Facts.{facts_of, count_in}, Judgement.{refusal_by, objection_of}}
use Rattle.circle.specs.{Judgement.{lacks_right, is_strange, is_removal, limit_of, with_field, field_if}, Refusals.{Ground, first_answer, refusal_of}}
use Rattle.circle.specs.{Sound.{IsSound, IsNumbered, CountsFrom, Each}, declared.TheConstants.{ORG_LIMIT, PERSON_LIMIT, COMMUNITY_LIMIT, GROUP_LIMIT}}
use Rattle.circle.specs.declared.command.CircleCommand.{CircleCommand, TheVariants.{AddOrg, AddPerson, SuspendPerson, AddClient, RemoveClient, AddCommunity}}
use Rattle.circle.specs.declared.command.CircleCommand.TheVariants.{Join, Leave, Link, Unlink, NewGroup, GroupAdd, GroupRemove, GroupActive, Arrange}
use Rattle.circle.specs.declared.command.{CircleCommand.TheVariants.{CancelArrange, Nominate, Unnominate, NewKey}, CircleFacts.CircleFacts, Edit.Edit}
use Rattle.circle.specs.declared.{directory.Person.Person, refusal.{Code.TheVariants.B1, Refusal.Refusal}}

with_field_if : (b : Bool) (field : List ℕ) (other : Option (List ℕ)) (rest : Option Refusal) → with_field (field_if b field other) rest ≡ (if b then Some (record { code = B1; detail = field }) else with_field other rest)
with_field_if true field other rest = refl
with_field_if false field other rest = refl

pub agrees : (d : Directory) (a : Person) (c : CircleCommand) → refusal_by (facts_of d a c) a c ≡ refusal_of d a c
agrees d a (AddOrg name) = rw with_field_if
agrees d a (AddPerson org name role key) = rw with_field_if
agrees d a (SuspendPerson person) = rw with_field_if
agrees d a (AddClient org client) = rw with_field_if
agrees d a (RemoveClient org client) = rw with_field_if
agrees d a (AddCommunity name) = rw with_field_if
agrees d a (Join community org) = refl
agrees d a (Leave community org) = refl
agrees d a (Link community other) = rw with_field_if
agrees d a (Unlink community other) = rw with_field_if
agrees d a (NewGroup name releasability) = rw (with_field_if, with_field_if)
agrees d a (GroupAdd group org extend) = refl
agrees d a (GroupRemove group org) = refl
agrees d a (GroupActive group active) = refl
agrees d a (Arrange org handling) = rw with_field_if
agrees d a (CancelArrange org) = refl
agrees d a (Nominate person) = refl
agrees d a (Unnominate person) = refl
agrees d a (NewKey key) = refl

-- the greatest of numbers without a gap is how many there are
greatest_counts : {X : Type 0} (number : X → ℕ) (n : ℕ) (rows : List X) → CountsFrom number n rows → max n (greatest (map number rows)) ≡ n + length rows
greatest_counts number n [] h = omega arith
greatest_counts number n (x ∷ xs) h =
    let rest = greatest_counts number (n + 1) xs h.1 in
    let first : number x ≡ n + 1 = h.0 in omega arith

pub next_number : {X : Type 0} (number : X → ℕ) (limit : ℕ) (rows : List X) → IsNumbered number limit rows → greatest (map number rows) + 1 ≡ length rows + 1
next_number number limit rows h =
    let counted = greatest_counts number 0 rows h.0 in omega arith

pub same_edit : (d : Directory) (a : Person) (c : CircleCommand) → IsSound d → edit_of (count_in d c + 1) a c ≡ edit_of (next_in d c) a c
same_edit d a (AddOrg name) h = ap (λ n. edit_of n a (AddOrg name)) (sym (next_number org_number ORG_LIMIT d.orgs h.orgs.numbered))
same_edit d a (AddPerson org name role key) h = ap (λ n. edit_of n a (AddPerson org name role key)) (sym (next_number account_number PERSON_LIMIT d.accounts h.accounts.numbered))
same_edit d a (AddCommunity name) h = ap (λ n. edit_of n a (AddCommunity name)) (sym (next_number community_number COMMUNITY_LIMIT d.communities h.communities.numbered))
same_edit d a (NewGroup name releasability) h = ap (λ n. edit_of n a (NewGroup name releasability)) (sym (next_number group_number GROUP_LIMIT d.groups h.groups.numbered))
same_edit d a (SuspendPerson person) h = refl
same_edit d a (AddClient org client) h = refl
same_edit d a (RemoveClient org client) h = refl
same_edit d a (Join community org) h = refl
same_edit d a (Leave community org) h = refl
same_edit d a (Link community other) h = refl
same_edit d a (Unlink community other) h = refl
same_edit d a (GroupAdd group org extend) h = refl
same_edit d a (GroupRemove group org) h = refl
same_edit d a (GroupActive group active) h = refl
same_edit d a (Arrange org handling) h = refl
same_edit d a (CancelArrange org) h = refl
same_edit d a (Nominate person) h = refl
same_edit d a (Unnominate person) h = refl
same_edit d a (NewKey key) h = refl

none_said : (b : Bool) (r : Refusal) (rest : Option Refusal) → (if b then Some r else rest) ≡ None → (b ≡ false) × (rest ≡ None)
none_said true r rest h = cc
none_said false r rest h = (refl, h)

-- if no ground refuses, each ground of the list doesn't hold
pub passed : (gs : List Ground) → first_answer gs ≡ None → Each (λ (g : Ground). g.holds ≡ false) gs
passed [] h = tt
passed (g ∷ gs) h = let said = none_said g.holds g.answer (first_answer gs) h in (said.0, passed gs said.1)

below_limit : (c : CircleCommand) (n : ℕ) → nat_le (limit_of c) n ≡ false → n < PERSON_LIMIT
below_limit (AddPerson org name role key) n h = grind (arith, nat_tests)
below_limit _ n h = grind (arith, nat_tests)

-- if the facts refuse nothing, there is room for one more number
room_left : (f : CircleFacts) (c : CircleCommand) → objection_of f c ≡ None → f.count < PERSON_LIMIT
room_left f c h =
    let there = none_said (not f.exists) _ _ h in
    let right = none_said (lacks_right c f) _ _ there.1 in
    let own = none_said (is_strange c f) _ _ right.1 in
    let taken = none_said (is_removal c && not f.stands) _ _ own.1 in
    let put = none_said (not (is_removal c) && f.stands) _ _ taken.1 in
    below_limit c f.count (none_said (nat_le (limit_of c) f.count) _ _ put.1).0

-- if the facts refuse nothing, the number of a command is one more than their count
pub counted_edit : (a : Person) (c : CircleCommand) (f : CircleFacts) (n : ℕ) (edit : Edit) → objection_of f c ≡ None → (f.count < PERSON_LIMIT → n ≡ f.count + 1) → edit ≡ edit_of n a c → edit ≡ edit_of (f.count + 1) a c
counted_edit a c f n edit fine next made = made ∙ ap (λ (m : ℕ). edit_of m a c) (next (room_left f c fine))

-- the facts of a directory refuse what it refuses
pub by_facts : (d : Directory) (a : Person) (c : CircleCommand) (f : CircleFacts) → f ≡ facts_of d a c → refusal_of d a c ≡ refusal_by f a c
by_facts d a c f is = sym (ap (λ (g : CircleFacts). refusal_by g a c) is ∙ agrees d a c)

-- the edit by the facts leads to the state after the command
makes : (d : Directory) (a : Person) (c : CircleCommand) (f : CircleFacts) (edit : Edit) → IsSound d → f ≡ facts_of d a c → refusal_by f a c ≡ None → edit ≡ edit_of (f.count + 1) a c → edited edit d ≡ state_after d a c
makes d a c f edit sound is fine made =
    let none : refusal_of d a c ≡ None = by_facts d a c f is ∙ fine in
    let by_next : edit ≡ edit_of (next_in d c) a c = made ∙ (ap (λ (g : CircleFacts). edit_of (g.count + 1) a c) is ∙ same_edit d a c sound) in
    ap (λ (e : Edit). edited e d) by_next ∙ sym (ap (λ (r : Option Refusal). unless_refused r d (changed d a c)) none)

pub answer_makes : (d : Directory) (a : Person) (c : CircleCommand) (f : CircleFacts) (answer : Result Edit Refusal) → IsSound d → f ≡ facts_of d a c → OnOk answer (refusal_by f a c ≡ None) → IfOk answer (λ edit. edit ≡ edit_of (f.count + 1) a c) → IfOk answer (λ edit. edited edit d ≡ state_after d a c)
answer_makes d a c f (Ok edit) sound is fine made = makes d a c f edit sound is fine made
answer_makes d a c f (Err refusal) sound is fine made = tt
