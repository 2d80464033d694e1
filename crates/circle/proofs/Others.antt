-- The rows of another organisation stay.
use Rattle.std.proofs.Common.{◌≡◌, ◌≢◌, ◌⊎◌, inl, inr, ℕ, ◌+◌, ◌<◌, ◌≤◌, ◌==◌, ◌&&◌, ◌||◌, Bool, true, false, not, List, [], ◌∷◌, map, filter, length, IsTrue}
use Rattle.std.proofs.{Common.{Option, Some, None, if◌then◌else◌, refl, sym, ap, ◌∙◌, subst, arith}, lemmas.{Bool.Decides.nat_tests, Cmp.on_total}}
use Rattle.std.specs.{Cmp.IsTotalOrder, List.list_any, Ordering.is_lt, declared.cmp.Ordering.{Ordering, TheVariants.{Less, Equal, Greater}}}
use Rattle.circle.proofs.{Judged.{passed, next_number}, Keeping.{past, each_weaker, each_left, found_then, pair_total}, Kept.{yes, same_when}}
use Rattle.circle.specs.{Aftermath.{changed, unless_refused, exchange_account, exchange_key, exchange_group, next_in}, Directory.{Directory, account_number}}
use Rattle.circle.specs.{Directory.{group_number, group_member_key, arrangement_key, has_person_of, has_group_of, has_extender}, Laws.OrganisationsKeepApart}
use Rattle.circle.specs.{Ordered.{put_by, by_number, by_pair}, Others.{nominated_of, groups_owned, members_in, ExtendsBy, LeavesTheirs}, Refusals.grounds}
use Rattle.circle.specs.{Refusals.refusal_of, Sound.{IsSound, CountsFrom, Each, Pairwise}, declared.TheConstants.GROUP_LIMIT}
use Rattle.circle.specs.declared.command.CircleCommand.{CircleCommand, TheVariants.{AddOrg, AddPerson, SuspendPerson, AddClient, RemoveClient, AddCommunity}}
use Rattle.circle.specs.declared.command.CircleCommand.TheVariants.{Join, Leave, Link, Unlink, NewGroup, GroupAdd, GroupRemove, GroupActive, Arrange}
use Rattle.circle.specs.declared.{command.CircleCommand.TheVariants.{CancelArrange, Nominate, Unnominate, NewKey}, directory.Account.Account}
use Rattle.circle.specs.declared.{directory.{Arrangement.Arrangement, Group.Group, GroupMember.GroupMember, Person.Person}, refusal.Refusal.Refusal}

-- ---- rows that are looked for, and rows put in, taken out or exchanged

filter_put_out : {X : Type 0} (p : X → Bool) (cmp : X → X → Ordering) (x : X) (xs : List X) → p x ≡ false → filter p (put_by cmp x xs) ≡ filter p xs
filter_put_out p cmp x [] out = ap (λ b. if b then x ∷ [] else []) out
filter_put_out p cmp x (y ∷ ys) out = elim (is_lt (cmp x y)) as (λ b. filter p (if b then x ∷ y ∷ ys else y ∷ put_by cmp x ys) ≡ filter p (y ∷ ys)) [
  | true ↦ ap (λ b. if b then x ∷ filter p (y ∷ ys) else filter p (y ∷ ys)) out
  | false ↦ ap (λ zs. if p y then y ∷ zs else zs) (filter_put_out p cmp x ys out)
]

-- if only rows that a test drops are taken out, the rows that it keeps stay
filter_left : {X : Type 0} (p q : X → Bool) (xs : List X) → ((x : X) → p x ≡ true → q x ≡ true) → filter p (filter q xs) ≡ filter p xs
filter_left p q [] go = refl
filter_left p q (x ∷ xs) go = split (p x) (q x) refl refl (filter_left p q xs go)
  where
    split : (a b : Bool) → p x ≡ a → q x ≡ b → filter p (filter q xs) ≡ filter p xs → filter p (filter q (x ∷ xs)) ≡ filter p (x ∷ xs)
    split a true is kept rest = ap (λ t. filter p (if t then x ∷ filter q xs else filter q xs)) kept ∙ ap (λ zs. if p x then x ∷ zs else zs) rest
    split false false is gone rest = ap (λ t. filter p (if t then x ∷ filter q xs else filter q xs)) gone ∙ (rest ∙ sym (ap (λ t. if t then x ∷ filter p xs else filter p xs) is))
    split true false is gone rest = absurd (clash (sym (go x is) ∙ gone))
      where
        clash : true ≡ false → ⊥
        clash e = cc

head_put : {X : Type 0} (cmp : X → X → Ordering) (x : X) (xs : List X) → Each (λ z. is_lt (cmp x z) ≡ true) xs → put_by cmp x xs ≡ x ∷ xs
head_put cmp x [] all = refl
head_put cmp x (y ∷ ys) all = ap (λ b. if b then x ∷ y ∷ ys else y ∷ put_by cmp x ys) all.0

less_of : (o : Ordering) → is_lt o ≡ true → o ≡ Less
less_of Less h = refl
less_of Equal h = cc
less_of Greater h = cc

-- a row that the test keeps, put into rows that are in order
filter_put_in : {X : Type 0} (p : X → Bool) (cmp : X → X → Ordering) (x : X) (xs : List X) → IsTotalOrder cmp → p x ≡ true → Pairwise (λ a b. cmp a b ≡ Less) xs → filter p (put_by cmp x xs) ≡ put_by cmp x (filter p xs)
filter_put_in p cmp x [] total kept order = ap (λ b. if b then x ∷ [] else []) kept
filter_put_in p cmp x (y ∷ ys) total kept order = split (is_lt (cmp x y)) (p y) refl refl (filter_put_in p cmp x ys total kept order.1)
  where
    above : cmp x y ≡ Less → Each (λ z. is_lt (cmp x z) ≡ true) (y ∷ ys)
    above low = (ap is_lt low, each_weaker (λ z. cmp y z ≡ Less) (λ z. is_lt (cmp x z) ≡ true) ys (λ z h. ap is_lt (total.trans x y z low h)) order.0)

    split : (a b : Bool) → is_lt (cmp x y) ≡ a → p y ≡ b → filter p (put_by cmp x ys) ≡ put_by cmp x (filter p ys) → filter p (put_by cmp x (y ∷ ys)) ≡ put_by cmp x (filter p (y ∷ ys))
    split true b low is rest =
        ap (λ t. filter p (if t then x ∷ y ∷ ys else y ∷ put_by cmp x ys)) low
        ∙ (ap (λ t. if t then x ∷ filter p (y ∷ ys) else filter p (y ∷ ys)) kept
        ∙ sym (head_put cmp x (filter p (y ∷ ys)) (each_left (λ z. is_lt (cmp x z) ≡ true) p (y ∷ ys) (above (less_of (cmp x y) low)))))
    split false true high is rest =
        ap (λ t. filter p (if t then x ∷ y ∷ ys else y ∷ put_by cmp x ys)) high
        ∙ (ap (λ t. if t then y ∷ filter p (put_by cmp x ys) else filter p (put_by cmp x ys)) is
        ∙ (ap (λ zs. y ∷ zs) rest
        ∙ (sym (ap (λ t. if t then x ∷ y ∷ filter p ys else y ∷ put_by cmp x (filter p ys)) high)
        ∙ sym (ap (λ t. put_by cmp x (if t then y ∷ filter p ys else filter p ys)) is))))
    split false false high is rest =
        ap (λ t. filter p (if t then x ∷ y ∷ ys else y ∷ put_by cmp x ys)) high
        ∙ (ap (λ t. if t then y ∷ filter p (put_by cmp x ys) else filter p (put_by cmp x ys)) is
        ∙ (rest ∙ sym (ap (λ t. put_by cmp x (if t then y ∷ filter p ys else filter p ys)) is)))

-- rows that are changed, are kept or dropped as before and show the same
shown_exchanged : {X Y : Type 0} (show : X → Y) (p : X → Bool) (f : X → X) (xs : List X) → Each (λ x. (p (f x) ≡ p x) × (show (f x) ≡ show x)) xs → map show (filter p (map f xs)) ≡ map show (filter p xs)
shown_exchanged show p f [] all = refl
shown_exchanged show p f (x ∷ xs) all = split (p x) refl (shown_exchanged show p f xs all.1)
  where
    split : (b : Bool) → p x ≡ b → map show (filter p (map f xs)) ≡ map show (filter p xs) → map show (filter p (map f (x ∷ xs))) ≡ map show (filter p (x ∷ xs))
    split true is rest =
        ap (λ t. map show (if t then f x ∷ filter p (map f xs) else filter p (map f xs))) (all.0.0 ∙ is)
        ∙ (ap (λ y. y ∷ map show (filter p (map f xs))) all.0.1
        ∙ (ap (λ ys. show x ∷ ys) rest
        ∙ sym (ap (λ t. map show (if t then x ∷ filter p xs else filter p xs)) is)))
    split false is rest =
        ap (λ t. map show (if t then f x ∷ filter p (map f xs) else filter p (map f xs))) (all.0.0 ∙ is)
        ∙ (rest ∙ sym (ap (λ t. map show (if t then x ∷ filter p xs else filter p xs)) is))

-- rows of which only dropped ones are changed
pub kept_exchanged : {X : Type 0} (p : X → Bool) (f : X → X) (xs : List X) → Each (λ x. (f x ≡ x) ⊎ ((p x ≡ false) × (p (f x) ≡ false))) xs → filter p (map f xs) ≡ filter p xs
kept_exchanged p f [] all = refl
kept_exchanged p f (x ∷ xs) all = split all.0 (kept_exchanged p f xs all.1)
  where
    split : (f x ≡ x) ⊎ ((p x ≡ false) × (p (f x) ≡ false)) → filter p (map f xs) ≡ filter p xs → filter p (map f (x ∷ xs)) ≡ filter p (x ∷ xs)
    split (inl same) rest = ap (λ y. if p y then y ∷ filter p (map f xs) else filter p (map f xs)) same ∙ ap (λ zs. if p x then x ∷ zs else zs) rest
    split (inr out) rest = ap (λ t. if t then f x ∷ filter p (map f xs) else filter p (map f xs)) out.1 ∙ (rest ∙ sym (ap (λ t. if t then x ∷ filter p xs else filter p xs) out.0))

-- ---- numbers without gaps

within : {X : Type 0} (number : X → ℕ) (n : ℕ) (xs : List X) → CountsFrom number n xs → Each (λ x. number x ≤ n + length xs) xs
within number n [] h = tt
within number n (x ∷ xs) h =
    let first : number x ≡ n + 1 = h.0 in
    (omega arith, each_weaker (λ y. number y ≤ n + 1 + length xs) (λ y. number y ≤ n + length (x ∷ xs)) xs (λ y low. omega arith) (within number (n + 1) xs h.1))

second_of_pair : (a b c d : ℕ) → (a == b && c == d) ≡ true → c ≡ d
second_of_pair a b c d h = grind (arith, nat_tests)

first_of_pair : (a b c d : ℕ) → (a == b && c == d) ≡ true → a ≡ b
first_of_pair a b c d h = grind (arith, nat_tests)

same_number : (a b : ℕ) → (a == b) ≡ true → a ≡ b
same_number a b h = grind (arith, nat_tests)

other_number : (a b : ℕ) → a ≢ b → (a == b) ≡ false
other_number a b h = grind (arith, nat_tests)

-- the one row with a number has this owner
owner_of : {X : Type 0} (number owner : X → ℕ) (n k o : ℕ) (xs : List X) → CountsFrom number n xs → list_any (λ x. number x == k && owner x == o) xs ≡ true → Each (λ x. number x ≡ k → owner x ≡ o) xs
owner_of {X = X} number owner n k o [] counts h = tt
owner_of {X = X} number owner n k o (x ∷ xs) counts h = split (number x == k) (owner x == o) refl refl (owner_of number owner (n + 1) k o xs counts.1)
  where
    Owned : List X → Type 0
    Owned ys = Each (λ y. number y ≡ k → owner y ≡ o) ys

    none_later : number x ≡ k → Owned xs
    none_later here = each_weaker (λ y. n + 1 < number y) (λ y. number y ≡ k → owner y ≡ o) xs (λ y low e. absurd (clash (number y) low e here)) (past number (n + 1) xs counts.1)
      where
        clash : (m : ℕ) → n + 1 < m → m ≡ k → number x ≡ k → ⊥
        clash m low e is = let first : number x ≡ n + 1 = counts.0 in omega arith

    later : (a b : Bool) → (number x == k) ≡ a → (owner x == o) ≡ b → (a && b) ≡ false → list_any (λ y. number y == k && owner y == o) xs ≡ true
    later a b is own none = sym (ap (λ t. t || list_any (λ y. number y == k && owner y == o) xs) (ap (λ t. t && (owner x == o)) is ∙ (ap (λ t. a && t) own ∙ none))) ∙ h

    split : (a b : Bool) → (number x == k) ≡ a → (owner x == o) ≡ b → (list_any (λ y. number y == k && owner y == o) xs ≡ true → Owned xs) → Owned (x ∷ xs)
    split true true is own rest = ((λ e. same_number (owner x) o own), none_later (same_number (number x) k is))
    split true false is own rest = ((λ e. absurd (found_then (λ y. number y == k && owner y == o) (λ y. n + 1 < number y) ⊥ xs (λ y here low. clash (number y) low (first_of_pair (number y) k (owner y) o here) e) (later true false is own refl) (past number (n + 1) xs counts.1))), none_later (same_number (number x) k is))
      where
        clash : (m : ℕ) → n + 1 < m → m ≡ k → number x ≡ k → ⊥
        clash m low e is = let first : number x ≡ n + 1 = counts.0 in omega arith
    split false b is own rest = ((λ e. absurd (differs e)), rest (later false b is own refl))
      where
        differs : number x ≡ k → ⊥
        differs e = grind (arith, nat_tests)

-- ---- the directory

not_theirs : (o own other : ℕ) (t : Bool) → other ≢ own → o ≡ own → (o == other && t) ≡ false
not_theirs o own other t apart is = grind (arith, nat_tests)

and_false : (b : Bool) → (b && false) ≡ false
and_false true = refl
and_false false = refl

when_true : {X : Type 0} (p : X → Bool) (b : Bool) (x y : X) → (b ≡ true → p y ≡ p x) → p (if b then y else x) ≡ p x
when_true p true x y go = go refl
when_true p false x y go = refl

nominated_exchanged : (d : Directory) (n own other : ℕ) (f : Person → Person) → ((p : Person) → (f p).number ≡ p.number) → ((p : Person) → (f p).org ≡ p.org) → IsSound d → other ≢ own → has_person_of n own d ≡ true
    → map account_number (filter (λ (a : Account). a.person.org == other && a.person.nominated) (exchange_account n f d.accounts)) ≡ nominated_of other d
nominated_exchanged d n own other f number org sound apart of_own =
    shown_exchanged account_number theirs (λ (a : Account). if a.person.number == n then record a { person = f a.person } else a) d.accounts
    (each_weaker (λ a. account_number a ≡ n → a.person.org ≡ own) _ d.accounts (λ a owned. (
      when_true theirs (a.person.number == n) a (record a { person = f a.person }) (λ here. dropped a (owned (same_number a.person.number n here))),
      same_when account_number (a.person.number == n) (record a { person = f a.person }) a (number a.person),
    ))
    (owner_of account_number (λ (a : Account). a.person.org) 0 n own d.accounts sound.accounts.numbered.0 of_own))
  where
    theirs : Account → Bool
    theirs a = a.person.org == other && a.person.nominated

    dropped : (a : Account) → a.person.org ≡ own → theirs (record a { person = f a.person }) ≡ theirs a
    dropped a is = not_theirs (f a.person).org own other (f a.person).nominated apart (org a.person ∙ is) ∙ sym (not_theirs a.person.org own other a.person.nominated apart is)

pub each_of : {X : Type 0} (P : X → Type 0) (xs : List X) → ((x : X) → P x) → Each P xs
each_of P [] go = tt
each_of P (x ∷ xs) go = (go x, each_of P xs go)

suspended_shows : (d : Directory) (n other : ℕ) → map account_number (filter (λ (a : Account). a.person.org == other && a.person.nominated) (exchange_account n (λ (p : Person). record p { active = false }) d.accounts)) ≡ nominated_of other d
suspended_shows d n other =
    shown_exchanged account_number (λ (a : Account). a.person.org == other && a.person.nominated) (λ (a : Account). if a.person.number == n then record a { person = record a.person { active = false } } else a) d.accounts
    (each_of _ d.accounts (λ a. (
      same_when (λ (x : Account). x.person.org == other && x.person.nominated) (a.person.number == n) (record a { person = record a.person { active = false } }) a refl,
      same_when account_number (a.person.number == n) (record a { person = record a.person { active = false } }) a refl,
    )))

keyed_shows : (d : Directory) (n other : ℕ) (key : List ℕ) → nominated_of other (record d { accounts = exchange_key n key d.accounts }) ≡ nominated_of other d
keyed_shows d n other key =
    shown_exchanged account_number theirs (λ (a : Account). if a.person.number == n then record a { key = key } else a) d.accounts
    (each_of _ d.accounts (λ a. (
      same_when theirs (a.person.number == n) (record a { key = key }) a refl,
      same_when account_number (a.person.number == n) (record a { key = key }) a refl,
    )))
  where
    theirs : Account → Bool
    theirs a = a.person.org == other && a.person.nominated

groups_exchanged : (d : Directory) (n own other : ℕ) (active : Bool) → IsSound d → other ≢ own → has_group_of n own d ≡ true → filter (λ (g : Group). g.owner == other) (exchange_group n (λ (g : Group). record g { active = active }) d.groups) ≡ groups_owned other d
groups_exchanged d n own other active sound apart of_own =
    kept_exchanged (λ (g : Group). g.owner == other) set d.groups
    (each_weaker (λ g. group_number g ≡ n → g.owner ≡ own) (λ g. (set g ≡ g) ⊎ (((g.owner == other) ≡ false) × (((set g).owner == other) ≡ false))) d.groups (λ g owned. either g (g.number == n) refl owned)
    (owner_of group_number (λ (g : Group). g.owner) 0 n own d.groups sound.groups.numbered.0 of_own))
  where
    set : Group → Group
    set g = if g.number == n then record g { active = active } else g

    either : (g : Group) (b : Bool) → (g.number == n) ≡ b → (group_number g ≡ n → g.owner ≡ own) → (set g ≡ g) ⊎ (((g.owner == other) ≡ false) × (((set g).owner == other) ≡ false))
    either g true is owned =
        let of_them : (g.owner == other) ≡ false = other_number g.owner other (λ e. apart (sym e ∙ owned (same_number g.number n is))) in
        inr (of_them, same_when (λ (x : Group). x.owner == other) (g.number == n) (record g { active = active }) g refl ∙ of_them)
    either g false is owned = inl (ap (λ b. if b then record g { active = active } else g) is)

-- a group of another organisation isn't one of the actor's
two_owners : (d : Directory) (theirs mine own other : ℕ) → IsSound d → other ≢ own → has_group_of theirs other d ≡ true → has_group_of mine own d ≡ true → theirs ≢ mine
two_owners d theirs mine own other sound apart of_them of_own same =
    found_then (λ (g : Group). g.number == theirs && g.owner == other) (λ (g : Group). group_number g ≡ mine → g.owner ≡ own) ⊥ d.groups
    (λ g here owned. apart (sym (second_of_pair g.number theirs g.owner other here) ∙ owned (first_of_pair g.number theirs g.owner other here ∙ same)))
    of_them (owner_of group_number (λ (g : Group). g.owner) 0 mine own d.groups sound.groups.numbered.0 of_own)

-- a group that is there doesn't have the next number
not_next : (d : Directory) (group other : ℕ) (name releasability : List ℕ) → IsSound d → has_group_of group other d ≡ true → next_in d (NewGroup name releasability) ≢ group
not_next d group other name releasability sound there same =
    let next : next_in d (NewGroup name releasability) ≡ length d.groups + 1 = next_number group_number GROUP_LIMIT d.groups sound.groups.numbered in
    found_then (λ (g : Group). g.number == group && g.owner == other) (λ (g : Group). g.number ≤ 0 + length d.groups) ⊥ d.groups
    (λ g here low. clash g.number (first_of_pair g.number group g.owner other here) low next)
    there (within group_number 0 d.groups sound.groups.numbered.0)
  where
    clash : (m : ℕ) → m ≡ group → m ≤ 0 + length d.groups → next_in d (NewGroup name releasability) ≡ length d.groups + 1 → ⊥
    clash m is low next = omega arith

mine_if : (mine theirs : Bool) → (not mine || theirs) ≡ false → mine ≡ true
mine_if true theirs h = refl
mine_if false theirs h = cc

-- the rows of another organisation stay if these four sets stay
left_alone : (other own : ℕ) (d e : Directory) → e.arrangements ≡ d.arrangements → e.accounts ≡ d.accounts → e.groups ≡ d.groups → e.group_members ≡ d.group_members → LeavesTheirs other own d e
left_alone other own d e arrangements accounts groups members = record {
  arrangements = ap (λ (rows : List Arrangement). filter (λ (a : Arrangement). a.source == other) rows) arrangements;
  nominations = ap (λ (rows : List Account). map account_number (filter (λ (a : Account). a.person.org == other && a.person.nominated) rows)) accounts;
  groups = ap (λ (rows : List Group). filter (λ (g : Group). g.owner == other) rows) groups;
  members = λ group theirs. inl (ap (λ (rows : List GroupMember). filter (λ (m : GroupMember). m.group == group) rows) members);
}

group_added : (d : Directory) (a : Person) (group org : ℕ) (extend : Bool) (theirs : ℕ) → IsSound d → has_extender group a.org d ≡ true
    → (members_in theirs (changed d a (GroupAdd group org extend)) ≡ members_in theirs d) ⊎ ((member : GroupMember) × ExtendsBy a.org theirs d (changed d a (GroupAdd group org extend)) member)
group_added d a group org extend theirs sound flag = split (group == theirs) refl
  where
    row : GroupMember
    row = record { group = group; org = org; extend = extend }

    split : (b : Bool) → (group == theirs) ≡ b → (members_in theirs (changed d a (GroupAdd group org extend)) ≡ members_in theirs d) ⊎ ((member : GroupMember) × ExtendsBy a.org theirs d (changed d a (GroupAdd group org extend)) member)
    split true is = inr (
      row,
      record {
        flag = subst (λ (g : ℕ). IsTrue (has_extender g a.org d)) (same_number group theirs is) flag;
        group_of = same_number group theirs is;
        put_in = filter_put_in (λ (m : GroupMember). m.group == theirs) (by_pair group_member_key) row d.group_members (on_total group_member_key pair_total) is sound.group_members.rising;
      },
    )
    split false is = inl (filter_put_out (λ (m : GroupMember). m.group == theirs) (by_pair group_member_key) row d.group_members is)

removed_elsewhere : (theirs group org : ℕ) (m : GroupMember) → theirs ≢ group → (m.group == theirs) ≡ true → not (m.group == group && m.org == org) ≡ true
removed_elsewhere theirs group org m apart here = elsewhere m.group m.org here
  where
    elsewhere : (g o : ℕ) → (g == theirs) ≡ true → not (g == group && o == org) ≡ true
    elsewhere g o is = grind (arith, nat_tests)

cancelled_elsewhere : (source other org : ℕ) (r : Arrangement) → other ≢ source → (r.source == other) ≡ true → not (r.source == source && r.org == org) ≡ true
cancelled_elsewhere source other org r apart here = elsewhere r.source r.org here
  where
    elsewhere : (s o : ℕ) → (s == other) ≡ true → not (s == source && o == org) ≡ true
    elsewhere s o is = grind (arith, nat_tests)

apart_changed : (d : Directory) (a : Person) (c : CircleCommand) (other : ℕ) → IsSound d → other ≢ a.org → refusal_of d a c ≡ None → LeavesTheirs other a.org d (changed d a c)
apart_changed d a (AddOrg name) other sound apart fine = left_alone other a.org d _ refl refl refl refl
apart_changed d a (AddPerson org name role key) other sound apart fine = record { arrangements = refl; nominations = ap (λ (rows : List Account). map account_number rows) (filter_put_out (λ (x : Account). x.person.org == other && x.person.nominated) (by_number account_number) _ d.accounts (and_false (org == other))); groups = refl; members = λ group theirs. inl refl }
apart_changed d a (SuspendPerson person) other sound apart fine = record { arrangements = refl; nominations = suspended_shows d person other; groups = refl; members = λ group theirs. inl refl }
apart_changed d a (AddClient org client) other sound apart fine = left_alone other a.org d _ refl refl refl refl
apart_changed d a (RemoveClient org client) other sound apart fine = left_alone other a.org d _ refl refl refl refl
apart_changed d a (AddCommunity name) other sound apart fine = left_alone other a.org d _ refl refl refl refl
apart_changed d a (Join community org) other sound apart fine = left_alone other a.org d _ refl refl refl refl
apart_changed d a (Leave community org) other sound apart fine = left_alone other a.org d _ refl refl refl refl
apart_changed d a (Link community second) other sound apart fine = left_alone other a.org d _ refl refl refl refl
apart_changed d a (Unlink community second) other sound apart fine = left_alone other a.org d _ refl refl refl refl
apart_changed d a (NewGroup name releasability) other sound apart fine = record { arrangements = refl; nominations = refl; groups = filter_put_out (λ (g : Group). g.owner == other) (by_number group_number) _ d.groups (other_number a.org other (λ e. apart (sym e))); members = λ group theirs. inl (filter_put_out (λ (m : GroupMember). m.group == group) (by_pair group_member_key) _ d.group_members (other_number (next_in d (NewGroup name releasability)) group (not_next d group other name releasability sound theirs))) }
apart_changed d a (GroupAdd group org extend) other sound apart fine = let p = passed (grounds d a (GroupAdd group org extend)) fine in record { arrangements = refl; nominations = refl; groups = refl; members = λ theirs there. group_added d a group org extend theirs sound (yes (has_extender group a.org d) p.1.1.0) }
apart_changed d a (GroupRemove group org) other sound apart fine = let p = passed (grounds d a (GroupRemove group org)) fine in record { arrangements = refl; nominations = refl; groups = refl; members = λ theirs there. inl (filter_left (λ (m : GroupMember). m.group == theirs) _ d.group_members (λ m here. removed_elsewhere theirs group org m (two_owners d theirs group a.org other sound apart there (mine_if (has_group_of group a.org d) (has_group_of group org d) p.1.1.0)) here)) }
apart_changed d a (GroupActive group active) other sound apart fine = let p = passed (grounds d a (GroupActive group active)) fine in record { arrangements = refl; nominations = refl; groups = groups_exchanged d group a.org other active sound apart (yes (has_group_of group a.org d) p.1.1.0); members = λ group theirs. inl refl }
apart_changed d a (Arrange org handling) other sound apart fine = record { arrangements = filter_put_out (λ (r : Arrangement). r.source == other) (by_pair arrangement_key) _ d.arrangements (other_number a.org other (λ e. apart (sym e))); nominations = refl; groups = refl; members = λ group theirs. inl refl }
apart_changed d a (CancelArrange org) other sound apart fine = record { arrangements = filter_left (λ (r : Arrangement). r.source == other) _ d.arrangements (λ r here. cancelled_elsewhere a.org other org r apart here); nominations = refl; groups = refl; members = λ group theirs. inl refl }
apart_changed d a (Nominate person) other sound apart fine = let p = passed (grounds d a (Nominate person)) fine in record { arrangements = refl; nominations = nominated_exchanged d person a.org other (λ (p : Person). record p { nominated = true }) (λ p. refl) (λ p. refl) sound apart (yes (has_person_of person a.org d) p.1.1.0); groups = refl; members = λ group theirs. inl refl }
apart_changed d a (Unnominate person) other sound apart fine = let p = passed (grounds d a (Unnominate person)) fine in record { arrangements = refl; nominations = nominated_exchanged d person a.org other (λ (p : Person). record p { nominated = false }) (λ p. refl) (λ p. refl) sound apart (yes (has_person_of person a.org d) p.1.1.0); groups = refl; members = λ group theirs. inl refl }
apart_changed d a (NewKey key) other sound apart fine =
    record { arrangements = refl; nominations = keyed_shows d a.number other key; groups = refl; members = λ group theirs. inl refl }

pub apart_after : OrganisationsKeepApart
apart_after d a c other sound apart = split (refusal_of d a c) refl
  where
    split : (r : Option Refusal) → refusal_of d a c ≡ r → LeavesTheirs other a.org d (unless_refused r d (changed d a c))
    split None fine = apart_changed d a c other sound apart fine
    split (Some r) is = left_alone other a.org d d refl refl refl refl
