-- The place of an attribute among members, by its name.
use Rattle.std.proofs.Common.{◌==◌, ne_eqb, ◌≡◌, if◌then◌else◌, ℕ, zero, suc, ◌<◌, ◌≤◌, true, false, List, [], ◌∷◌, ◌++◌, map, length, get_or, take, drop, refl}
use Rattle.std.proofs.Common.{◌∙◌, ap, arith, sym, Bool, Option, Some, None, option_map, is_some, IfSome, vec_len, eqb-true, subst, true≢false}
use Rattle.{std.specs.List.AllByRecursion, iodef_tree.proofs.{Filled.{has_elements, member-elements, members-filled}, Views.forest-members}}
use Rattle.iodef_tree.specs.{Filled.{IsFilled, IsMemberFilled}, Text.{Bytes, bytes_lt}, Tree.{Leaf, Forest, leaf, Body, holds, says, Bodies, one, many}}
use Rattle.iodef_tree.specs.{Tree.{in_front, elements, member_front}, View.{forest, bodies, named, members_forest, forest_of_members}}
use Rattle.{iodef_tree.specs.declared.object.{Member.Member, Object.Object}, redact.specs.inner.{Judged.{put_leaf, attribute_leaf, is_end}, Saying.saying}}

put-front : (x : Leaf) (n : Bytes) (p : Option ℕ) (b : Body) (rest : Forest) →
    put_leaf x (in_front n p b rest) ≡ (if bytes_lt x.name n then leaf x (in_front n p b rest) else in_front n p b (put_leaf x rest))
put-front x n p (holds kids) rest = refl
put-front x n p (says content) rest = refl

past_elements : (x : Leaf) (n : Bytes) (k : ℕ) (bs : List Body) (rest : Forest) → bytes_lt x.name n ≡ false → put_leaf x (elements n k bs rest) ≡ elements n k bs (put_leaf x rest)
past_elements x n k [] rest h = refl
past_elements x n k (b ∷ bs) rest h = put-front x n (Some k) b _ ∙ rw (h, past_elements x n (suc k) bs rest h)

past_member : (x : Leaf) (n : Bytes) (b : Bodies) (rest : Forest) → bytes_lt x.name n ≡ false → put_leaf x (member_front n b rest) ≡ member_front n b (put_leaf x rest)
past_member x n (one b) rest h = put-front x n None b rest ∙ rw h
past_member x n (many bs) rest h = past_elements x n 0 bs rest h

stops_member : (x : Leaf) (n : Bytes) (b : Bodies) (rest : Forest) → has_elements b ≡ true → bytes_lt x.name n ≡ true → put_leaf x (member_front n b rest) ≡ leaf x (member_front n b rest)
stops_member x n (one b) rest filled h = put-front x n None b rest ∙ rw h
stops_member x n (many []) rest filled h = absurd (true≢false (sym filled))
stops_member x n (many (b ∷ bs)) rest filled h = put-front x n (Some 0) b _ ∙ rw h

abbrev Pair : Type 0
Pair = Bytes × Member

-- the place is behind the last member whose name isn't later
pub put_split : (name text : Bytes) (ms : List Pair) (i : ℕ) → i ≤ length ms →
    ((k : ℕ) (d : Pair) → k < i → bytes_lt name (get_or ms k d).0 ≡ false) →
    ((d : Pair) → i < length ms → bytes_lt name (get_or ms i d).0 ≡ true × (has_elements (bodies (get_or ms i d).1) ≡ true)) →
    put_leaf (attribute_leaf (name, text)) (members_forest ms) ≡ forest_of_members (map named (take i ms) ++ (name, saying text) ∷ map named (drop i ms))
put_split name text [] zero le before here = refl
put_split name text [] (suc i) le before here = absurd (omega arith)
put_split name text (m ∷ ms) zero le before here =
    let now = here m (omega arith) in
    stops_member (attribute_leaf (name, text)) m.0 (bodies m.1) (members_forest ms) now.1 now.0
put_split name text (m ∷ ms) (suc i) le before here =
    past_member (attribute_leaf (name, text)) m.0 (bodies m.1) (members_forest ms) (before 0 m (omega arith))
    ∙ ap (member_front m.0 (bodies m.1)) (put_split name text ms i (omega arith) (λ k d h. before (suc k) d (omega (arith, h))) (λ d h. here d (omega (arith, h))))

front-end : (n : Bytes) (p : Option ℕ) (b : Body) (rest : Forest) → is_end (in_front n p b rest) ≡ false
front-end n p (holds kids) rest = refl
front-end n p (says content) rest = refl

member-end : (n : Bytes) (b : Bodies) (rest : Forest) → has_elements b ≡ true → is_end (member_front n b rest) ≡ false
member-end n (one b) rest h = front-end n None b rest
member-end n (many []) rest h = absurd (true≢false (sym h))
member-end n (many (b ∷ bs)) rest h = front-end n (Some 0) b _

-- members that have lines are at an end only if there are none
filled-end : (ms : List Pair) → AllByRecursion (λ m. IsMemberFilled m.1) ms → is_end (members_forest ms) ≡ (length ms == 0)
filled-end [] all = refl
filled-end (m ∷ ms) all = member-end m.0 (bodies m.1) (members_forest ms) (member-elements m.1 all.0) ∙ sym (ne_eqb (length (m ∷ ms)) 0 (omega arith))

-- filled members stay filled with one more
pub inserted-filled : (ms : List Pair) (i : ℕ) (e : Pair) → AllByRecursion (λ m. IsMemberFilled m.1) ms → IsMemberFilled e.1 → AllByRecursion (λ m. IsMemberFilled m.1) (take i ms ++ e ∷ drop i ms)
inserted-filled [] zero e all h = (h, tt)
inserted-filled [] (suc i) e all h = (h, tt)
inserted-filled (m ∷ ms) zero e all h = (h, all)
inserted-filled (m ∷ ms) (suc i) e all h = (all.0, inserted-filled ms i e all.1 h)

pub object-end : (o : Object) → IsFilled o → is_end (forest o) ≡ (vec_len o.members == 0)
object-end o filled = ap is_end (forest-members o) ∙ filled-end o.members.items (members-filled o filled) ∙ ap (λ n. n == 0) (sym o.members.ok.0)

pub object-empty : (o : Object) → IsFilled o → is_end (forest o) ≡ true → length o.members.items ≡ 0
object-empty o filled e = sym o.members.ok.0 ∙ eqb-true (vec_len o.members) 0 (sym (object-end o filled) ∙ e)

-- nothing is kept of a class that isn't visible if nothing is kept of its members
pub hidden-left : (o : Object) (r : Option Object) (left : Forest) → forest o ≡ left → r ≡ (if is_end (forest o) then None else Some o) → option_map forest r ≡ (if is_end left then None else Some left)
hidden-left o r left is made = ap (option_map forest) made ∙ by_end (is_end (forest o)) ∙ ap (λ f. if is_end f then None else Some f) is
  where
    by_end : (empty : Bool) → option_map forest (if empty then None else Some o) ≡ (if empty then None else Some (forest o))
    by_end true = refl
    by_end false = refl

pub hidden-filled : (o : Object) (r : Option Object) (empty : Bool) → IsFilled o → r ≡ (if empty then None else Some o) → IfSome r (λ x. IsFilled x)
hidden-filled o r true filled made = subst (λ x. IfSome x (λ y. IsFilled y)) (sym made) tt
hidden-filled o r false filled made = subst (λ x. IfSome x (λ y. IsFilled y)) (sym made) filled

pub hidden-none : (o : Object) (r : Option Object) (empty : Bool) → r ≡ (if empty then None else Some o) → r ≡ None → empty ≡ true
hidden-none o r true made none = refl
hidden-none o r false made none = absurd (true≢false (ap is_some (sym made ∙ none)))
