-- Members of a group that may extend it, by the flag of their row.
use Rattle.std.proofs.Common.{◌≡◌, ℕ, List, [], ◌∷◌, map, find, Bool, true, false, ◌&&◌, ◌==◌, is_some, Option, Some, None, option_map, Result, Ok, Err, IfOk}
use Rattle.std.{proofs.{Common.{sym, ap, subst, ◌∙◌}, lemmas.Iterator.Adapters.option_map_id}, specs.{List.{AllByRecursion, list_any}, Option.option_map_or}}
use Rattle.{std.specs.Option.option_to_list, sqlite_value.specs.Order.Row, sqlite.specs.declared.error.Error.Error, circle.specs.Directory.Directory}
use Rattle.{circle.specs.{Directory.has_extender, declared.directory.GroupMember.GroupMember}, hub_store.proofs.LookUps.AskedPairs.{once_between, pairs_rise}}
use Rattle.hub_store.{proofs.LookUps.{ByNumber.some_passes, DirectorySets.as_flag, Finding.Once, PairRows.found_pair, Whether.one_passes}, specs.Pairs.Pair}
use Rattle.hub_store.specs.{Rows.group_member_pair, inner.{FirstShown.ShowsFlagOrFalse, PairKinds.{is_between, pair_between, value_shown}}}
use Rattle.circle.specs.Sound as circle
use Rattle.hub_store.specs.declared.pair_kind.PairKind.TheVariants as kind

-- there is such a pair exactly if there is such an element
pub pair_there : {X : Type 0} (pair : X → Pair) (a b : ℕ) (xs : List X) → is_some (find (is_between a b) (map pair xs)) ≡ list_any (λ x. is_between a b (pair x)) xs
pair_there pair a b xs = ap is_some (found_pair pair (is_between a b) xs) ∙ some_passes pair (λ x. is_between a b (pair x)) xs

all_mapped : {X Y : Type 0} (f : X → Y) (P : Y → Type 0) (xs : List X) → AllByRecursion P (map f xs) → AllByRecursion (λ x. P (f x)) xs
all_mapped f P [] all = tt
all_mapped f P (x ∷ xs) all = (all.0, all_mapped f P xs all.1)

once_mapped : {X Y : Type 0} (f : X → Y) (q : Y → Bool) (xs : List X) → Once q (map f xs) → Once (λ x. q (f x)) xs
once_mapped f q [] once = tt
once_mapped f q (x ∷ xs) once = (all_mapped f (λ y. q (f x) ≡ true → q y ≡ false) xs once.0, once_mapped f q xs once.1)

flag_of : (o : Option GroupMember) (rows : List Row) (b : Bool) → rows ≡ map value_shown (option_to_list (option_map group_member_pair o)) → ShowsFlagOrFalse rows b → b ≡ option_map_or (λ (m : GroupMember). m.extend) o false
flag_of o rows b is h = go o (subst (λ l. ShowsFlagOrFalse l b) is h)
  where
    go : (o : Option GroupMember) → ShowsFlagOrFalse (map value_shown (option_to_list (option_map group_member_pair o))) b → b ≡ option_map_or (λ (m : GroupMember). m.extend) o false
    go None h = h
    go (Some m) h = h m.extend (ap (λ v. v ∷ []) (as_flag m.extend))

extends_is : (d : Directory) (group org : ℕ) (rows : List Row) (b : Bool) → circle.IsSound d → rows ≡ map value_shown (option_to_list (pair_between kind.GroupMember group org d)) → ShowsFlagOrFalse rows b → b ≡ has_extender group org d
extends_is d group org rows b sound is h =
    let its = λ (m : GroupMember). m.group == group && m.org == org in
    let members = d.group_members in
    let pairs = map group_member_pair members in
    let once = once_mapped group_member_pair (is_between group org) members (once_between group org pairs (pairs_rise kind.GroupMember d sound)) in
    let found = is ∙ ap (λ (o : Option Pair). map value_shown (option_to_list o)) (found_pair group_member_pair (is_between group org) members) in
    one_passes (λ (m : GroupMember). m) its (λ (m : GroupMember). m.extend) members (find its members) b once (sym (option_map_id (find its members))) (flag_of (find its members) rows b found h)

pub reads_extends : (d : Directory) (group org : ℕ) (rows : List Row) (r : Result Bool Error) → circle.IsSound d → rows ≡ map value_shown (option_to_list (pair_between kind.GroupMember group org d)) → IfOk r (λ b. ShowsFlagOrFalse rows b) → IfOk r (λ b. b ≡ has_extender group org d)
reads_extends d group org rows (Ok b) sound is h = extends_is d group org rows b sound is h
reads_extends d group org rows (Err e) sound is h = tt
