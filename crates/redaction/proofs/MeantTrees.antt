-- The members that the tree of a document means. They are in normal form, they are made into the same tree again, and
-- reading refuses none of them unless the tree is too high.
use Rattle.std.proofs.Common.{◌≡◌, ◌≤◌, ℕ, zero, suc, ◌+◌, ◌*◌, true, false, ◌&&◌, ◌==◌, refl, sym, ap, ◌∙◌, subst, arith, true≢false, Ordering, Less, Equal}
use Rattle.std.proofs.{Common.{Greater, is_lt, Option, Some, None, is_some, nat_lt, bytes_eq, decimal}, lemmas.Bool.{and_parts, and_right, or_from, eqb-true}}
use Rattle.{std.{proofs.lemmas.Bool.le-ltb, specs.{Cmp.Lexicographic.slice_cmp, Ordering.{nat_cmp, match_ordering}}}, serde_json.specs.Data.{Data, put, depth}}
use Rattle.{serde_json.specs.{Data.{items_depth, members_depth}, Find.get_member}, iodef_tree.proofs.{Fitness.{AreClear, clear-joined}, Normal.IsNormal}}
use Rattle.iodef_tree.{proofs.{Normal.{AreNormal, AreMembersNormal, put-normal}, Order.{bytes_eq-true, bytes_lt-less, bytes_lt-trans}}, specs.Json.content_data}
use Rattle.iodef_tree.specs.{Sound.{SiblingPlace, may_stand, IsOrderedBehind}, Text.{Bytes, bytes_lt}, Texts.HasTexts, Tree.{Content, says, holds, Body, one}}
use Rattle.iodef_tree.specs.{Tree.{Forest, end, leaf, branch, in_front, elements, member_front, height}, Values.{nodes, item_nodes, member_nodes}}
use Rattle.iodef_tree.specs.{Values.{bodies_of_data, body_of_data, items_of_data, forest_of_data}, declared.TheConstants.DEPTH_LIMIT}
use Rattle.{iodef_tree.specs.inner.{FitValues.is_refused, Written.{placed_member, placed_item, members_of, items_of}}, redaction.proofs.MeantValues.MayBe}
use Rattle.redaction.proofs.MeantValues.{content-normal, content-low, content-clear, content-body, content-bodies}
use Rattle.serde_json.specs.Data as json

-- ---- the names ascend

abbrev pub AscendBehind : Bytes → json.Members → Type 0
AscendBehind n json.no_members = Unit {0}
AscendBehind n (json.member l d ms) = (bytes_lt n l ≡ true) × AscendBehind l ms

-- each name is later than the one before
abbrev pub Ascend : json.Members → Type 0
Ascend json.no_members = Unit {0}
Ascend (json.member l d ms) = AscendBehind l ms

-- a later element has the name of the element before
pub same-name : (n : Bytes) (q : Option ℕ) (name : Bytes) (k : ℕ) → may_stand (Some (n, q)) name (Some (suc k)) ≡ true → (n ≡ name) × (q ≡ Some k)
same-name n None name k h = absurd (true≢false (sym h))
same-name n (Some j) name k h = let parts = and_parts (bytes_eq n name) (j == k) h in (bytes_eq-true n name parts.0, ap Some (eqb-true j k parts.1))

placed-behind : (n : Bytes) (q : Option ℕ) (name : Bytes) (place : Option ℕ) (d : Data) (ds : json.Items) (ms : json.Members) → may_stand (Some (n, q)) name place ≡ true → AscendBehind name ms →
    AscendBehind n (placed_member name place d ds ms)
placed-behind n q name None d ds ms h all = (h, all)
placed-behind n q name (Some zero) d ds ms h all = (h, all)
placed-behind n q name (Some (suc k)) d ds ms h all = subst (λ x. AscendBehind x ms) (sym (same-name n q name k h).0) all

ascend-behind : (f : Forest) (n : Bytes) (q : Option ℕ) → IsOrderedBehind (Some (n, q)) f → AscendBehind n (members_of f)
ascend-behind end n q h = tt
ascend-behind (leaf i rest) n q h = placed-behind n q i.name i.place (content_data i.content) (items_of rest) (members_of rest) h.0 (ascend-behind rest i.name i.place h.1)
ascend-behind (branch name place kids rest) n q h = placed-behind n q name place (json.object (members_of kids)) (items_of rest) (members_of rest) h.0 (ascend-behind rest name place h.2)

behind-ascend : (n : Bytes) (ms : json.Members) → AscendBehind n ms → Ascend ms
behind-ascend n json.no_members h = tt
behind-ascend n (json.member l d ms) h = h.1

placed-ascend : (name : Bytes) (place : Option ℕ) (d : Data) (ds : json.Items) (ms : json.Members) → AscendBehind name ms → Ascend (placed_member name place d ds ms)
placed-ascend name None d ds ms all = all
placed-ascend name (Some zero) d ds ms all = all
placed-ascend name (Some (suc k)) d ds ms all = behind-ascend name ms all

pub ascend : (f : Forest) (o : Option SiblingPlace) → IsOrderedBehind o f → Ascend (members_of f)
ascend end o h = tt
ascend (leaf i rest) o h = placed-ascend i.name i.place (content_data i.content) (items_of rest) (members_of rest) (ascend-behind rest i.name i.place h.1)
ascend (branch name place kids rest) o h = placed-ascend name place (json.object (members_of kids)) (items_of rest) (members_of rest) (ascend-behind rest name place h.2)

-- ---- what ascends is in normal form

put-first : (n : Bytes) (d : Data) (ms : json.Members) → AscendBehind n ms → put n d ms ≡ json.member n d ms
put-first n d json.no_members h = refl
put-first n d (json.member l e ms) h = ap (λ o. match_ordering o (json.member n d (json.member l e ms)) (json.member l d ms) (json.member l e (put n d ms))) (bytes_lt-less n l h.0)

pub normal : (ms : json.Members) → Ascend ms → AreMembersNormal ms → IsNormal (json.object ms)
normal json.no_members h all = (tt, tt)
normal (json.member l d ms) h all = subst (λ xs. IsNormal (json.object xs)) (put-first l d ms h) (put-normal l d ms (normal ms (behind-ascend l ms h) all.1) all.0)

-- ---- a member that is put where the same one is

none-before : (k n : Bytes) (ms : json.Members) → bytes_lt k n ≡ true → AscendBehind n ms → get_member k ms ≡ None
none-before k n json.no_members lt h = refl
none-before k n (json.member l e ms) lt h =
    let less = bytes_lt-trans k n l lt h.0 in
    ap (λ o. match_ordering o (get_member k ms) (Some e) (get_member k ms)) (bytes_lt-less k l less) ∙ none-before k l ms less h.1

pub put-same : (k : Bytes) (v : Data) (ms : json.Members) → Ascend ms → get_member k ms ≡ Some v → put k v ms ≡ ms
put-same k v json.no_members h is = cc
put-same k v (json.member l e ms) h is = step (slice_cmp nat_cmp k l) refl is (put-same k v ms (behind-ascend l ms h))
  where
    step : (o : Ordering) → slice_cmp nat_cmp k l ≡ o → match_ordering o (get_member k ms) (Some e) (get_member k ms) ≡ Some v → (get_member k ms ≡ Some v → put k v ms ≡ ms) →
        match_ordering o (json.member k v (json.member l e ms)) (json.member l v ms) (json.member l e (put k v ms)) ≡ json.member l e ms
    step Less cmp at later = let none = none-before k l ms (ap is_lt cmp) h in cc
    step Equal cmp at later = let same : e ≡ v = cc in ap (λ x. json.member l x ms) (sym same)
    step Greater cmp at later = ap (json.member l e) (later at)

-- ---- each value of the tree is in normal form

placed-normal : (name : Bytes) (place : Option ℕ) (d : Data) (ds : json.Items) (ms : json.Members) → IsNormal d → AreNormal ds → AreMembersNormal ms → AreMembersNormal (placed_member name place d ds ms) × AreNormal (placed_item place d ds)
placed-normal name None d ds ms h k l = ((h, l), tt)
placed-normal name (Some zero) d ds ms h k l = (((h, k), l), tt)
placed-normal name (Some (suc j)) d ds ms h k l = (l, (h, k))

normal-tree : (f : Forest) (o : Option SiblingPlace) → IsOrderedBehind o f → HasTexts f → AreMembersNormal (members_of f) × AreNormal (items_of f)
normal-tree end o h k = (tt, tt)
normal-tree (leaf i rest) o h k =
    let r = normal-tree rest (Some (i.name, i.place)) h.1 k.1 in
    placed-normal i.name i.place (content_data i.content) (items_of rest) (members_of rest) (content-normal (is_some i.place) i.content k.0) r.1 r.0
normal-tree (branch name place kids rest) o h k =
    let inner = normal-tree kids None h.1 k.0 in
    let r = normal-tree rest (Some (name, place)) h.2 k.1 in
    placed-normal name place (json.object (members_of kids)) (items_of rest) (members_of rest) (normal (members_of kids) (ascend kids None h.1) inner.0) r.1 r.0

pub normal-object : (f : Forest) → IsOrderedBehind None f → HasTexts f → IsNormal (json.object (members_of f))
normal-object f h k = normal (members_of f) (ascend f None h) (normal-tree f None h k).0

-- ---- it is as low as the tree

placed-low : (name : Bytes) (place : Option ℕ) (d : Data) (ds : json.Items) (ms : json.Members) (n : ℕ) → suc (depth d) ≤ n → suc (items_depth ds) ≤ n → members_depth ms ≤ n →
    (members_depth (placed_member name place d ds ms) ≤ n) × (suc (items_depth (placed_item place d ds)) ≤ n)
placed-low name None d ds ms n h k l = (omega arith, omega arith)
placed-low name (Some zero) d ds ms n h k l = (omega arith, omega arith)
placed-low name (Some (suc j)) d ds ms n h k l = (omega arith, omega arith)

pub low-tree : (f : Forest) (n : ℕ) → HasTexts f → 33 + 2 * height f ≤ n → (members_depth (members_of f) ≤ n) × (suc (items_depth (items_of f)) ≤ n)
low-tree end n k h = (omega arith, omega arith)
low-tree (leaf i rest) n k h =
    let r = low-tree rest n k.1 (omega (arith, h)) in
    let own = content-low (is_some i.place) i.content k.0 in
    placed-low i.name i.place (content_data i.content) (items_of rest) (members_of rest) n (omega (arith, own, h)) r.1 r.0
low-tree (branch name place kids rest) n k h =
    let inner = low-tree kids (33 + 2 * height kids) k.0 (omega arith) in
    let r = low-tree rest n k.1 (omega (arith, h)) in
    placed-low name place (json.object (members_of kids)) (items_of rest) (members_of rest) n (omega (arith, inner.0, h)) r.1 r.0

-- ---- the tree is made of it again

-- the tree that goes on behind a sibling, made of what it means
abbrev resumed : Option SiblingPlace → json.Items → json.Members → Forest
resumed None ds ms = forest_of_data ms
resumed (Some (n, None)) ds ms = forest_of_data ms
resumed (Some (n, Some k)) ds ms = elements n (suc k) (items_of_data ds) (forest_of_data ms)

-- a member begins
begins : (o : Option SiblingPlace) (ms : json.Members) → resumed o json.no_items ms ≡ forest_of_data ms
begins None ms = refl
begins (Some (n, None)) ms = refl
begins (Some (n, Some k)) ms = refl

one-front : (o : Option SiblingPlace) (name : Bytes) (place : Option ℕ) (b : Body) (d : Data) (rest : Forest) → may_stand o name place ≡ true → (place ≡ None → bodies_of_data d ≡ one b) → (is_some place ≡ true → body_of_data d ≡ b) →
    resumed (Some (name, place)) (items_of rest) (members_of rest) ≡ rest →
    resumed o (placed_item place d (items_of rest)) (placed_member name place d (items_of rest) (members_of rest)) ≡ in_front name place b rest
one-front o name None b d rest stands lone element again =
    begins o (json.member name d (members_of rest))
    ∙ ap (λ m. member_front name m (forest_of_data (members_of rest))) (lone refl)
    ∙ ap (in_front name None b) again
one-front o name (Some zero) b d rest stands lone element again =
    begins o (json.member name (json.array (json.item d (items_of rest))) (members_of rest))
    ∙ ap (λ x. in_front name (Some 0) x (elements name 1 (items_of_data (items_of rest)) (forest_of_data (members_of rest)))) (element refl)
    ∙ ap (in_front name (Some 0) b) again
one-front None name (Some (suc k)) b d rest stands lone element again = absurd (true≢false (sym stands))
one-front (Some (n, q)) name (Some (suc k)) b d rest stands lone element again =
    let same = same-name n q name k stands in
    ap (λ x. resumed (Some (n, x)) (json.item d (items_of rest)) (members_of rest)) same.1
    ∙ ap (λ x. resumed (Some (x, Some k)) (json.item d (items_of rest)) (members_of rest)) same.0
    ∙ ap (λ x. in_front name (Some (suc k)) x (elements name (suc (suc k)) (items_of_data (items_of rest)) (forest_of_data (members_of rest)))) (element refl)
    ∙ ap (in_front name (Some (suc k)) b) again

content-fits : (c : Content) (place : Option ℕ) → MayBe (is_some place) c → (place ≡ None → bodies_of_data (content_data c) ≡ one (says c)) × (is_some place ≡ true → body_of_data (content_data c) ≡ says c)
content-fits c None h = (λ e. content-bodies c h, λ e. absurd (true≢false (sym e)))
content-fits c (Some k) h = (λ e. cc, λ e. content-body c h)

again-behind : (f : Forest) (o : Option SiblingPlace) → IsOrderedBehind o f → HasTexts f → resumed o (items_of f) (members_of f) ≡ f
again-behind end o h k = begins o json.no_members
again-behind (leaf i rest) o h k =
    let fits = content-fits i.content i.place k.0 in
    one-front o i.name i.place (says i.content) (content_data i.content) rest h.0 fits.0 fits.1 (again-behind rest (Some (i.name, i.place)) h.1 k.1)
again-behind (branch name place kids rest) o h k =
    let inner = ap holds (again-behind kids None h.1 k.0) in
    one-front o name place (holds kids) (json.object (members_of kids)) rest h.0 (λ e. ap one inner) (λ e. inner) (again-behind rest (Some (name, place)) h.2 k.1)

pub again : (f : Forest) → IsOrderedBehind None f → HasTexts f → forest_of_data (members_of f) ≡ f
again f h k = again-behind f None h k

-- ---- reading refuses none of it

pub class-clear : (o a : ℕ) (ms : json.Members) → o ≤ 32 → a ≤ 1 → AreClear (member_nodes (suc o) ms) → AreClear (nodes o a (json.object ms))
class-clear o a ms low few inner =
    let flat : is_refused (record { objects = o; arrays = a; value = json.object ms }) ≡ false =
    or_from _ _ (ap (λ b. b && true) (le-ltb 1 a few)) (or_from _ _ (le-ltb DEPTH_LIMIT o low) (and_right (nat_lt DEPTH_LIMIT a) false refl)) in
    or_from _ _ flat inner

placed-clear : (name : Bytes) (place : Option ℕ) (d : Data) (ds : json.Items) (ms : json.Members) (o : ℕ) → o ≤ 32 → ((a : ℕ) → a ≤ 1 → AreClear (nodes o a d)) → ((k : ℕ) → AreClear (item_nodes o 1 k ds)) → AreClear (member_nodes o ms) →
    AreClear (member_nodes o (placed_member name place d ds ms)) × ((k : ℕ) → AreClear (item_nodes o 1 k (placed_item place d ds)))
placed-clear name None d ds ms o low own items members = (clear-joined name (nodes o 0 d) (member_nodes o ms) (own 0 (omega arith)) members, λ k. refl)
placed-clear name (Some zero) d ds ms o low own items members =
    let all = json.item d ds in
    let shallow : is_refused (record { objects = o; arrays = 0; value = json.array all }) ≡ false = or_from _ _ (le-ltb DEPTH_LIMIT o low) refl in
    let inner : AreClear (item_nodes o 1 0 all) = clear-joined (decimal 0) (nodes o 1 d) (item_nodes o 1 1 ds) (own 1 (omega arith)) (items 1) in
    (clear-joined name (nodes o 0 (json.array all)) (member_nodes o ms) (or_from _ _ shallow inner) members, λ k. refl)
placed-clear name (Some (suc j)) d ds ms o low own items members =
    (members, λ k. clear-joined (decimal k) (nodes o 1 d) (item_nodes o 1 (suc k) ds) (own 1 (omega arith)) (items (suc k)))

pub clear-tree : (f : Forest) (o : ℕ) → HasTexts f → o + height f ≤ 33 → AreClear (member_nodes o (members_of f)) × ((k : ℕ) → AreClear (item_nodes o 1 k (items_of f)))
clear-tree end o t h = (refl, λ k. refl)
clear-tree (leaf i rest) o t h =
    let r = clear-tree rest o t.1 (omega (arith, h)) in
    let low : o ≤ 32 = omega (arith, h) in
    placed-clear i.name i.place (content_data i.content) (items_of rest) (members_of rest) o low (λ a few. content-clear (is_some i.place) i.content o a t.0 low few) r.1 r.0
clear-tree (branch name place kids rest) o t h =
    let inner = (clear-tree kids (suc o) t.0 (omega (arith, h))).0 in
    let r = clear-tree rest o t.1 (omega (arith, h)) in
    let low : o ≤ 32 = omega (arith, h) in
    placed-clear name place (json.object (members_of kids)) (items_of rest) (members_of rest) o low (λ a few. class-clear o a (members_of kids) low few inner) r.1 r.0
