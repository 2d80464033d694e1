-- No array is empty, level by level.
use Rattle.std.proofs.Common.{◌≡◌, ℕ, suc, ◌<◌, Bool, true, ◌&&◌, List, [], ◌∷◌, map, length, get_or, refl, sym, ◌∙◌, ap, subst, Vec, Global, rules, arith}
use Rattle.{std.{proofs.lemmas.Bool.{and_parts, and_from}, specs.List.{AllByRecursion, list_all}}, json_pointer.specs.declared.text.Text.Text as Bytes}
use Rattle.iodef_tree.specs.Filled.{has_some, item_filled, member_filled, object_filled, is_object_filled, is_member_filled, is_item_filled, IsFilled}
use Rattle.iodef_tree.specs.{Filled.{IsMemberFilled, IsItemFilled}, Tree.{Forest, Body, Bodies, one, many}, View.{item_step, member_step, object_step, forest}}
use Rattle.iodef_tree.specs.{View.{bodies, body}, declared.object.Item.{Item, TheFolds.{fold_out-Member, map-Member}, TheOpen.Member-F, TheVariants.Class}}
use Rattle.iodef_tree.specs.declared.object.{Item.{TheVariants.{Text, Value}, TheViews.out-Member}, Member.{Member, TheVariants.{One, Many}}, Object.Object}
use Rattle.iodef_tree.specs.declared.object.Object.{roll-Object, the_lemmas}

pub filled-Class : (o : Object) → is_item_filled (Class o) ≡ is_object_filled o
filled-Class o = search (rules, the_lemmas)

pub filled-Text : (s : Bytes) → is_item_filled (Text s) ≡ true
filled-Text s = search (rules, the_lemmas)

pub filled-Value : (s : Bytes) → is_item_filled (Value s) ≡ true
filled-Value s = search (rules, the_lemmas)

pub filled-One : (i : Item) → is_member_filled (One i) ≡ is_item_filled i
filled-One i = search (rules, the_lemmas)

pub filled-Many : (v : Vec Item Global) → is_member_filled (Many v) ≡ (has_some (map is_item_filled v.items) && list_all (λ inside. inside) (map is_item_filled v.items))
filled-Many v = search (rules, the_lemmas)

pub filled-members : (o : Object) → is_object_filled o ≡ list_all (λ m. m.1) (map (λ (m : Bytes × Member). let x : Bytes × Bool = (m.0, is_member_filled m.1) in x) o.members.items)
filled-members o = search (rules, the_lemmas)

pub filled-made : (v : Vec (Bytes × Member) Global) → is_object_filled (roll-Object (record { members = v })) ≡ list_all (λ m. m.1) (map (λ (m : Bytes × Member). let x : Bytes × Bool = (m.0, is_member_filled m.1) in x) v.items)
filled-made v = search (rules, the_lemmas)

-- ---- lists of filled parts

pub has_some-map : {X Y : Type 0} (f : X → Y) (xs : List X) → has_some (map f xs) ≡ has_some xs
has_some-map f xs = grind arith

all-true : {X Y : Type 0} (f : X → Y) (test : Y → Bool) (xs : List X) → AllByRecursion (λ x. test (f x) ≡ true) xs → list_all test (map f xs) ≡ true
all-true f test [] h = refl
all-true f test (x ∷ xs) h = and_from (test (f x)) _ h.0 (all-true f test xs h.1)

true-all : {X Y : Type 0} (f : X → Y) (test : Y → Bool) (xs : List X) → list_all test (map f xs) ≡ true → AllByRecursion (λ x. test (f x) ≡ true) xs
true-all f test [] h = tt
true-all f test (x ∷ xs) h = let parts = and_parts (test (f x)) (list_all test (map f xs)) h in (parts.0, true-all f test xs parts.1)

abbrev pub asked : Bytes × Member → Bytes × Bool
asked m = (m.0, is_member_filled m.1)

-- ---- parts that are made

pub made-filled : (v : Vec (Bytes × Member) Global) → AllByRecursion (λ m. IsMemberFilled m.1) v.items → IsFilled (roll-Object (record { members = v }))
made-filled v h = filled-made v ∙ all-true asked (λ m. m.1) v.items h

pub many-filled : (v : Vec Item Global) → has_some v.items ≡ true → AllByRecursion IsItemFilled v.items → IsMemberFilled (Many v)
many-filled v some h = filled-Many v ∙ and_from _ _ (has_some-map is_item_filled v.items ∙ some) (all-true is_item_filled (λ inside. inside) v.items h)

pub many-kept : (v : Vec Item Global) → IsMemberFilled (Many v) → (has_some v.items ≡ true) × AllByRecursion IsItemFilled v.items
many-kept v h =
    let parts = and_parts (has_some (map is_item_filled v.items)) _ (sym (filled-Many v) ∙ h) in
    (sym (has_some-map is_item_filled v.items) ∙ parts.0, true-all is_item_filled (λ inside. inside) v.items parts.1)

pub members-filled : (o : Object) → IsFilled o → AllByRecursion (λ m. IsMemberFilled m.1) o.members.items
members-filled o h = true-all asked (λ m. m.1) o.members.items (sym (filled-members o) ∙ h)

pub object-filled : (o : Object) → AllByRecursion (λ m. IsMemberFilled m.1) o.members.items → IsFilled o
object-filled o h = filled-members o ∙ all-true asked (λ m. m.1) o.members.items h

-- ---- at one place of a list

pub all-at : {X : Type 0} (P : X → Type 0) (xs : List X) (i : ℕ) (d : X) → i < length xs → AllByRecursion P xs → P (get_or xs i d)
all-at P (x ∷ xs) (suc i) d h all = all-at P xs i d (omega (arith, h)) all.1
all-at P xs i d h all = grind arith

pub item-at : (xs : List Item) (i : ℕ) (x : Item) → AllByRecursion IsItemFilled xs → i < length xs → x ≡ get_or xs i x → IsItemFilled x
item-at xs i x all h is = subst IsItemFilled (sym is) (all-at IsItemFilled xs i x h all)

pub member-at : (o : Object) (xs : List (Bytes × Member)) (i : ℕ) (m : Bytes × Member) → IsFilled o → xs ≡ o.members.items → i < length xs → m ≡ get_or xs i m → IsMemberFilled m.1
member-at o xs i m filled same h is = grind (arith, all-at, members-filled)

-- ---- as contracts see them

abbrev pub has_elements : Bodies → Bool
has_elements (one b) = true
has_elements (many bs) = has_some bs

elements-seen : (x : Member-F Item Member Object) → member_filled (map-Member Item Member Object Bool Bool Bool is_item_filled is_member_filled is_object_filled x) ≡ true →
    has_elements (member_step (map-Member Item Member Object Body Bodies Forest body bodies forest x)) ≡ true
elements-seen x h = grind (arith, and_parts, has_some-map)

-- a member that is filled has a line
pub member-elements : (m : Member) → IsMemberFilled m → has_elements (bodies m) ≡ true
member-elements m h =
    ap has_elements (fold_out-Member Body Bodies Forest item_step member_step object_step m)
    ∙ elements-seen (out-Member m) (sym (fold_out-Member Bool Bool Bool item_filled member_filled object_filled m) ∙ h)

-- ---- the parts of a filled part

pub elements-kept : (m : Member) (v : Vec Item Global) → IsMemberFilled m → m ≡ Many v → AllByRecursion IsItemFilled v.items
elements-kept m v h is = (many-kept v (subst IsMemberFilled is h)).1

pub element-at : (m : Member) (v : Vec Item Global) (xs : List Item) (i : ℕ) (x : Item) → IsMemberFilled m → m ≡ Many v → xs ≡ v.items → i < length xs → x ≡ get_or xs i x → IsItemFilled x
element-at m v xs i x h is same low at = item-at xs i x (subst (AllByRecursion IsItemFilled) (sym same) (elements-kept m v h is)) low at
