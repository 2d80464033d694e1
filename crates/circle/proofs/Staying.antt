-- A refused command changes nothing, and a suspended person stays suspended.
use Rattle.std.proofs.Common.{◌≡◌, ℕ, ◌==◌, ◌&&◌, ◌||◌, Bool, true, false, not, List, [], ◌∷◌, map, IsTrue, Option, Some, None, if◌then◌else◌, refl, sym, ap}
use Rattle.{std.{proofs.Common.◌∙◌, specs.List.list_any}, circle.{proofs.Keeping.any_put, specs.Aftermath.{changed, unless_refused, exchange_account}}}
use Rattle.circle.specs.{Aftermath.exchange_key, Directory.{Directory, account_number, has_suspended}, Laws.{RefusalsLeaveAll, SuspendedStays}}
use Rattle.circle.specs.{Ordered.by_number, Refusals.refusal_of, declared.command.CircleCommand.{CircleCommand, TheVariants.{AddOrg, AddPerson, SuspendPerson}}}
use Rattle.circle.specs.declared.command.CircleCommand.TheVariants.{AddClient, RemoveClient, AddCommunity, Join, Leave, Link, Unlink, NewGroup, GroupAdd}
use Rattle.circle.specs.declared.command.CircleCommand.TheVariants.{GroupRemove, GroupActive, Arrange, CancelArrange, Nominate, Unnominate, NewKey}
use Rattle.circle.specs.declared.{directory.{Account.Account, Person.Person}, refusal.Refusal.Refusal}

pub leaves_all : RefusalsLeaveAll
leaves_all d a c why is = ap (λ (r : Option Refusal). unless_refused r d (changed d a c)) is

-- a test that an exchange doesn't change
any_map : {X : Type 0} (p : X → Bool) (f : X → X) (xs : List X) → ((x : X) → p x ≡ true → p (f x) ≡ true) → IsTrue (list_any p xs) → IsTrue (list_any p (map f xs))
any_map p f [] go h = h
any_map p f (x ∷ xs) go h = split (p x) refl (any_map p f xs go)
  where
    after : (b : Bool) → IsTrue (list_any p (map f xs)) → IsTrue (b || list_any p (map f xs))
    after true e = refl
    after false e = e

    split : (b : Bool) → p x ≡ b → (IsTrue (list_any p xs) → IsTrue (list_any p (map f xs))) → IsTrue (list_any p (map f (x ∷ xs)))
    split true is rest = ap (λ b. b || list_any p (map f xs)) (go x is)
    split false is rest = after (p (f x)) (rest (sym (ap (λ b. b || list_any p xs) is) ∙ h))

either_way : {X : Type 0} (p : X → Bool) (b : Bool) (x y : X) → p x ≡ true → p y ≡ true → p (if b then y else x) ≡ true
either_way p true x y one other = other
either_way p false x y one other = one

suspended_exchanged : (d : Directory) (n person : ℕ) (f : Person → Person) → ((p : Person) → (p.number == person && not p.active) ≡ true → ((f p).number == person && not (f p).active) ≡ true) → IsTrue (has_suspended person d) → IsTrue (list_any (λ (a : Account). a.person.number == person && not a.person.active) (exchange_account n f d.accounts))
suspended_exchanged d n person f go h = any_map (λ (a : Account). a.person.number == person && not a.person.active) (λ (a : Account). if a.person.number == n then record a { person = f a.person } else a) d.accounts
    (λ a here. either_way (λ (x : Account). x.person.number == person && not x.person.active) (a.person.number == n) a (record a { person = f a.person }) here (go a.person here)) h

first_holds : (a b : Bool) → (a && b) ≡ true → (a && true) ≡ true
first_holds true b h = refl
first_holds false b h = h

suspended_keyed : (d : Directory) (n person : ℕ) (key : List ℕ) → IsTrue (has_suspended person d) → IsTrue (has_suspended person (record d { accounts = exchange_key n key d.accounts }))
suspended_keyed d n person key h =
    any_map suspended (λ (a : Account). if a.person.number == n then record a { key = key } else a) d.accounts
    (λ a here. either_way suspended (a.person.number == n) a (record a { key = key }) here here) h
  where
    suspended : Account → Bool
    suspended a = a.person.number == person && not a.person.active

suspended_changed : (d : Directory) (a : Person) (c : CircleCommand) (person : ℕ) → IsTrue (has_suspended person d) → IsTrue (has_suspended person (changed d a c))
suspended_changed d a (AddOrg name) person h = h
suspended_changed d a (AddPerson org name role key) person h = any_put (λ (x : Account). x.person.number == person && not x.person.active) (by_number account_number) _ d.accounts h
suspended_changed d a (SuspendPerson who) person h = suspended_exchanged d who person (λ (p : Person). record p { active = false }) (λ p here. first_holds (p.number == person) (not p.active) here) h
suspended_changed d a (AddClient org client) person h = h
suspended_changed d a (RemoveClient org client) person h = h
suspended_changed d a (AddCommunity name) person h = h
suspended_changed d a (Join community org) person h = h
suspended_changed d a (Leave community org) person h = h
suspended_changed d a (Link community other) person h = h
suspended_changed d a (Unlink community other) person h = h
suspended_changed d a (NewGroup name releasability) person h = h
suspended_changed d a (GroupAdd group org extend) person h = h
suspended_changed d a (GroupRemove group org) person h = h
suspended_changed d a (GroupActive group active) person h = h
suspended_changed d a (Arrange org handling) person h = h
suspended_changed d a (CancelArrange org) person h = h
suspended_changed d a (Nominate who) person h = suspended_exchanged d who person (λ (p : Person). record p { nominated = true }) (λ p here. here) h
suspended_changed d a (Unnominate who) person h = suspended_exchanged d who person (λ (p : Person). record p { nominated = false }) (λ p here. here) h
suspended_changed d a (NewKey key) person h = suspended_keyed d a.number person key h

pub suspended_after : SuspendedStays
suspended_after d a c person h = split (refusal_of d a c)
  where
    split : (r : Option Refusal) → IsTrue (has_suspended person (unless_refused r d (changed d a c)))
    split None = suspended_changed d a c person h
    split (Some r) = h
