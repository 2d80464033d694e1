-- The groups of an organisation, as queries find them.
use Rattle.std.proofs.Common.{◌≡◌, ℕ, pos, List, [], ◌∷◌, map, filter, find, Bool, true, false, cond, ◌==◌, Option, Some, None, option_map, refl, sym, ap, ◌∙◌}
use Rattle.std.{proofs.{Math.Bool.or-false, lemmas.Bool.{eqb-true, false≢true}}, specs.List.{AllByRecursion, list_any, filter_map, cons_option}}
use Rattle.{std.specs.{List.Sorted.IsPermutation, Option.option_to_list, Prelude.is_some}, sqlite_value.specs.{Order.Row, declared.value.Value.TheVariants.Int}}
use Rattle.{sqlite_trees.specs.Tree.Trees, sqlite_sql.specs.{Query.IsAnswer, Term.col}, circle.proofs.{Keeping.{each_left, each_weaker}, Lookup.any_having}}
use Rattle.circle.specs.{Directory.{Directory, group_number, has_group_being}, Reads.{group_of, memberships_in_groups, groups_joined, active_groups_joined}}
use Rattle.{circle.specs.declared.directory.{Group.Group, GroupMember.GroupMember}, hub_state.specs.{Reads.joined, Sound.IsSound}}
use Rattle.{hub_state.specs.declared.reply.JoinedGroup.JoinedGroup, hub_store.proofs.LookUps.{ByNumber.{one_with_number, some_passes}, Finding.only_one}}
use Rattle.hub_store.{proofs.{LookUps.Finding.once_numbered, Rows.{Forms.{one_table, is_param}, Places.{grp_place, grp_tree, held_of}}}, specs.Means.Means}
use Rattle.hub_store.specs.{Rows.group_row, inner.ShownPairs.{group_shown, joined_of, group_if_any, groups_in}}
use Rattle.circle.specs.Sound as circle
use Rattle.hub_state.specs.State as core

pub group_found : (db : Trees) (s : core.State) (n : ℕ) (rows : List Row) → IsSound s → Means db s → IsAnswer (one_table grp_tree (is_param 0 0 ∷ []) (col 1 0 ∷ col 1 2 ∷ col 1 3 ∷ col 1 4 ∷ col 1 5 ∷ [])) db (Int (pos n) ∷ []) rows
    → IsPermutation (map group_shown (option_to_list (group_of n s.directory))) rows
group_found db s n rows sound means a = one_with_number db grp_tree group_row group_number s.directory.groups (λ x. refl) n (col 1 0 ∷ col 1 2 ∷ col 1 3 ∷ col 1 4 ∷ col 1 5 ∷ []) rows (held_of s grp_place _ refl means) a sound.directory.groups.numbered.0

-- ---- each membership with its group

joined_each : (d : Directory) (ms : List GroupMember) → filter_map (group_if_any d) (map joined_of ms) ≡ filter_map (λ (m : GroupMember). option_map (joined m) (group_of m.group d)) ms
joined_each d [] = refl
joined_each d (m ∷ ms) = ap (cons_option (option_map (joined m) (group_of m.group d))) (joined_each d ms)

pub groups_are : (org : ℕ) (d : Directory) → filter_map (group_if_any d) (map joined_of (memberships_in_groups org d)) ≡ groups_in org d
groups_are org d = joined_each d (memberships_in_groups org d)

-- ---- a group by its number

abbrev is_active : Option Group → Bool
is_active None = false
is_active (Some g) = g.active

any_is : (o : Option Group) → list_any (λ (g : Group). g.active) (option_to_list o) ≡ is_active o
any_is None = refl
any_is (Some g) = or-false g.active

being_is : (n : ℕ) (d : Directory) → circle.IsSound d → has_group_being n true d ≡ is_active (group_of n d)
being_is n d sound =
    sym (any_having (λ (g : Group). g.number == n) (λ (g : Group). g.active) d.groups)
    ∙ (ap (list_any (λ (g : Group). g.active)) (only_one (λ (g : Group). g.number == n) d.groups (once_numbered group_number n d.groups sound.groups.numbered.0)) ∙ any_is (group_of n d))

some_group : (a b : Group) → ◌≡◌ {A = Option Group} (Some a) (Some b) → a ≡ b
some_group a b e = cc

found_number : (n : ℕ) (gs : List Group) (g : Group) → find (λ (g : Group). g.number == n) gs ≡ Some g → g.number ≡ n
found_number n [] g e = absurd cc
found_number n (x ∷ xs) g e = go (x.number == n) refl e (found_number n xs g)
  where
    go : (b : Bool) → (x.number == n) ≡ b → cond b (Some x) (find (λ (g : Group). g.number == n) xs) ≡ Some g → (find (λ (g : Group). g.number == n) xs ≡ Some g → g.number ≡ n) → g.number ≡ n
    go true is f later = ap (λ (g : Group). g.number) (sym (some_group x g f)) ∙ eqb-true x.number n is
    go false is f later = later f

-- ---- all of them

all_each : (d : Directory) (ms : List GroupMember) → AllByRecursion (λ (m : GroupMember). circle.IsGroup d.groups m.group) ms → map (λ (g : JoinedGroup). g.number) (filter_map (λ (m : GroupMember). option_map (joined m) (group_of m.group d)) ms) ≡ map (λ (m : GroupMember). m.group) ms
all_each d [] there = refl
all_each d (m ∷ ms) there = go (group_of m.group d) refl (all_each d ms there.1)
  where
    go : (o : Option Group) → group_of m.group d ≡ o → map (λ (g : JoinedGroup). g.number) (filter_map (λ (m : GroupMember). option_map (joined m) (group_of m.group d)) ms) ≡ map (λ (m : GroupMember). m.group) ms
        → map (λ (g : JoinedGroup). g.number) (cons_option (option_map (joined m) o) (filter_map (λ (m : GroupMember). option_map (joined m) (group_of m.group d)) ms)) ≡ m.group ∷ map (λ (m : GroupMember). m.group) ms
    go None is more = absurd (false≢true (sym (ap (λ o. is_some (option_map (λ (g : Group). g) o)) is) ∙ some_passes (λ (g : Group). g) (λ (g : Group). g.number == m.group) d.groups ∙ there.0))
    go (Some g) is more = let number : g.number ≡ m.group = found_number m.group d.groups g is in cc

-- the group of each membership is there
pub all_are : (org : ℕ) (d : Directory) → circle.IsSound d → map (λ (g : JoinedGroup). g.number) (groups_in org d) ≡ groups_joined org d
all_are org d sound = all_each d (memberships_in_groups org d) (each_left _ _ d.group_members (each_weaker _ _ d.group_members (λ m ends. ends.0) sound.group_members.ends))

-- ---- those that are active

abbrev active_of : List JoinedGroup → List ℕ
active_of gs = map (λ (g : JoinedGroup). g.number) (filter (λ (g : JoinedGroup). g.active) gs)

numbers_kept : (m : GroupMember) (g : Group) (rest : List JoinedGroup) (more : List ℕ) (b : Bool) → g.number ≡ m.group → active_of rest ≡ more
    → map (λ (g : JoinedGroup). g.number) (cond b (joined m g ∷ filter (λ (g : JoinedGroup). g.active) rest) (filter (λ (g : JoinedGroup). g.active) rest)) ≡ cond b (m.group ∷ more) more
numbers_kept m g rest more true number tail = cc
numbers_kept m g rest more false number tail = tail

one_more : (d : Directory) (m : GroupMember) (rest : List JoinedGroup) (more : List ℕ) (o : Option Group) (being : Bool) → group_of m.group d ≡ o → being ≡ is_active o → active_of rest ≡ more
    → active_of (cons_option (option_map (joined m) o) rest) ≡ cond being (m.group ∷ more) more
one_more d m rest more None being is e tail = tail ∙ ap (λ b. cond b (m.group ∷ more) more) (sym e)
one_more d m rest more (Some g) being is e tail = numbers_kept m g rest more g.active (found_number m.group d.groups g is) tail ∙ ap (λ b. cond b (m.group ∷ more) more) (sym e)

active_each : (d : Directory) (ms : List GroupMember) → circle.IsSound d → active_of (filter_map (λ (m : GroupMember). option_map (joined m) (group_of m.group d)) ms) ≡ filter (λ n. has_group_being n true d) (map (λ (m : GroupMember). m.group) ms)
active_each d [] sound = refl
active_each d (m ∷ ms) sound = one_more d m _ _ (group_of m.group d) (has_group_being m.group true d) refl (being_is m.group d sound) (active_each d ms sound)

pub active_are : (org : ℕ) (d : Directory) → circle.IsSound d → active_of (groups_in org d) ≡ active_groups_joined org d
active_are org d sound = active_each d (memberships_in_groups org d) sound
