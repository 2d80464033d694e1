-- Members that are put behind others.
use Rattle.std.proofs.Common.{◌≡◌, ℕ, suc, ◌+◌, ◌-◌, Bool, true, false, not, ◌==◌, ◌&&◌, List, [], ◌∷◌, ◌++◌, map, length, refl, sym, ◌∙◌, ap, subst, arith}
use Rattle.std.proofs.{Common.{Vec, Global, Option, Some, None, bytes_eq}, lemmas.{Bool.eq-eqb, Grind.common_steps, List.map-append}}
use Rattle.{std.specs.List.AllByRecursion, json_pointer.specs.{Text.Bytes, declared.text.Text.Text}, iodef_tree.proofs.Filled.{filled-One, has_some-map}}
use Rattle.iodef_tree.proofs.{Filled.{many-filled, many-kept}, Fronts.{append, append-assoc, lines-append, member-append}, Order.bytes_eq-refl}
use Rattle.iodef_tree.{proofs.{Siblings.{all-append, all-split}, Views.{bodies-One, bodies-Many}}, specs.Built.{is_numbered, IsNumberedBehind, IsBodyNumbered}}
use Rattle.iodef_tree.specs.{Built.{last_place, IsGrown, Grows}, Filled.{has_some, IsMemberFilled, IsItemFilled}, Sound.SiblingPlace, Tree.{Forest, end, leaf}}
use Rattle.iodef_tree.specs.{Tree.{branch, Body, Bodies, many, in_front, elements, member_front, place_of, lines}, View.{forest_of_members, body, bodies}}
use Rattle.iodef_tree.specs.{View.{named, members_forest}, declared.object.{Item.Item, Member.{Member, TheVariants.{One, Many}}}}

-- ---- the last of members

last-append : (o : Option SiblingPlace) (f g : Forest) → last_place o (append f g) ≡ last_place (last_place o f) g
last-append o end g = refl
last-append o (leaf i rest) g = last-append (Some (i.name, i.place)) rest g
last-append o (branch n p kids rest) g = last-append (Some (n, p)) rest g

numbered-append : (o : Option SiblingPlace) (f g : Forest) → IsNumberedBehind o f → IsNumberedBehind (last_place o f) g → IsNumberedBehind o (append f g)
numbered-append o end g h k = k
numbered-append o (leaf i rest) g h k = (h.0, numbered-append (Some (i.name, i.place)) rest g h.1 k)
numbered-append o (branch n p kids rest) g h k = (h.0, h.1, numbered-append (Some (n, p)) rest g h.2 k)

-- ---- members, one after another

pub members-append : (xs ys : List (Bytes × Bodies)) → forest_of_members (xs ++ ys) ≡ append (forest_of_members xs) (forest_of_members ys)
members-append [] ys = refl
members-append (x ∷ xs) ys = grind (arith, append-assoc, member-append, (members-append xs ys))

pub members-push : (ms : List (Text × Member)) (m : Text × Member) → members_forest (ms ++ m ∷ []) ≡ append (members_forest ms) (member_front m.0 (bodies m.1) end)
members-push ms m = ap forest_of_members (map-append named ms (m ∷ [])) ∙ members-append (map named ms) (named m ∷ [])

elements-push : (n : Bytes) (k : ℕ) (bs : List Body) (b : Body) → elements n k (bs ++ b ∷ []) end ≡ append (elements n k bs end) (in_front n (Some (k + length bs)) b end)
elements-push n k [] b = ap (λ j. in_front n (Some j) b end) (omega arith)
elements-push n k (x ∷ bs) b = grind (arith, append-assoc, (elements-push n (suc k) bs b))

last-front : (o : Option SiblingPlace) (n : Bytes) (p : Option ℕ) (b : Body) (f : Forest) → last_place o (in_front n p b f) ≡ last_place (Some (n, p)) f
last-front o n p b f = grind arith

last-elements : (o : Option SiblingPlace) (n : Bytes) (k : ℕ) (b : Body) (bs : List Body) → last_place o (elements n k (b ∷ bs) end) ≡ Some (n, Some (k + length bs))
last-elements o n k b [] = last-front o n (Some k) b end ∙ ap (λ j. Some (n, Some j)) (omega arith)
last-elements o n k b (c ∷ bs) = grind (arith, (last-elements (Some (n, Some k)) n (suc k) c bs))

-- the lines don't say the number of an element
lines-front : (d : ℕ) (n : Bytes) (j k : ℕ) (b : Body) → lines d (in_front n (Some j) b end) ≡ lines d (in_front n (Some k) b end)
lines-front d n j k b = grind arith

-- ---- one thing more at the end

-- one thing more behind the members, whatever it is
grows : (old new : List (Text × Member)) (n : Bytes) (p : Option ℕ) (in_array : Bool) (b : Body) →
    members_forest new ≡ append (members_forest old) (in_front n p b end) → ((d : ℕ) → lines d (in_front n p b end) ≡ lines d (in_front n (place_of in_array 0) b end)) →
    IsGrown old → IsBodyNumbered b → is_numbered (last_place None (members_forest old)) n p ≡ true → AllByRecursion (λ m. IsMemberFilled m.1) new → Grows old n in_array b new
grows old new n p in_array b made same h k fits filled = grind (arith, lines-append, numbered-append)

-- a member that is no array
pub grows-one : (old : List (Text × Member)) (n : Text) (i : Item) → IsGrown old → IsBodyNumbered (body i) → IsItemFilled i → Grows old n false (body i) (old ++ (n, One i) ∷ [])
grows-one old n i h k full =
    grows old (old ++ (n, One i) ∷ []) n None false (body i)
    (members-push old (n, One i) ∙ ap (λ m. append (members_forest old) (member_front n m end)) (bodies-One i))
    (λ d. refl) h k refl
    (all-append (λ x. IsMemberFilled x.1) old ((n, One i) ∷ []) h.filled (filled-One i ∙ full, tt))

-- an array of one element
pub grows-array : (old : List (Text × Member)) (n : Text) (i : Item) (v : Vec Item Global) → v.items ≡ i ∷ [] → IsGrown old → IsBodyNumbered (body i) → IsItemFilled i →
    is_numbered (last_place None (members_forest old)) n (Some 0) ≡ true → Grows old n true (body i) (old ++ (n, Many v) ∷ [])
grows-array old n i v is h k full fits =
    let held : bodies (Many v) ≡ many (body i ∷ []) = bodies-Many v ∙ ap (λ xs. many (map body xs)) is in
    grows old (old ++ (n, Many v) ∷ []) n (Some 0) true (body i)
    (members-push old (n, Many v) ∙ ap (λ m. append (members_forest old) (member_front n m end)) held)
    (λ d. refl) h k fits
    (all-append (λ x. IsMemberFilled x.1) old ((n, Many v) ∷ []) h.filled (many-filled v (ap has_some is) (subst (AllByRecursion IsItemFilled) (sym is) (full, tt)), tt))

-- the place of the last member
last-push : (P : List (Text × Member)) (m : Text × Member) →
    last_place None (members_forest (P ++ m ∷ [])) ≡ last_place (last_place None (members_forest P)) (member_front m.0 (bodies m.1) end)
last-push P m = ap (last_place None) (members-push P m) ∙ last-append None (members_forest P) (member_front m.0 (bodies m.1) end)

-- an array may begin behind a member that is no array
pub first-behind_one : (P : List (Text × Member)) (n : Text) (i : Item) (name : Bytes) →
    is_numbered (last_place None (members_forest (P ++ (n, One i) ∷ []))) name (Some 0) ≡ true
first-behind_one P n i name = search (arith, bodies-One, last-front, last-push)

-- the place of the last element of an array that has one
last-array : (o : Option SiblingPlace) (n : Bytes) (bs : List Body) → has_some bs ≡ true → last_place o (elements n 0 bs end) ≡ Some (n, Some (length bs - 1))
last-array o n bs h = grind (arith, last-elements)

last-many : (P : List (Text × Member)) (n : Text) (v : Vec Item Global) → IsGrown (P ++ (n, Many v) ∷ []) →
    last_place None (members_forest (P ++ (n, Many v) ∷ [])) ≡ Some (n, Some (length (map body v.items) - 1))
last-many P n v h = grind (arith, all-split, bodies-Many, has_some-map, last-array, last-push, many-kept)

-- an array may begin behind one of another name
pub first-behind_many : (P : List (Text × Member)) (n : Text) (v : Vec Item Global) (name : Bytes) → IsGrown (P ++ (n, Many v) ∷ []) → bytes_eq n name ≡ false →
    is_numbered (last_place None (members_forest (P ++ (n, Many v) ∷ []))) name (Some 0) ≡ true
first-behind_many P n v name h differs = ap (λ o. is_numbered o name (Some 0)) (last-many P n v h) ∙ ap not differs

filled-length : (bs : List Body) → has_some bs ≡ true → length bs ≡ suc (length bs - 1)
filled-length bs h = grind arith

some-push : (xs : List Item) (x : Item) → has_some (xs ++ x ∷ []) ≡ true
some-push xs x = grind (arith, common_steps)

next-fits : (n : Bytes) (j k : ℕ) → k ≡ suc j → is_numbered (Some (n, Some j)) n (Some k) ≡ true
next-fits n j k e = ap (λ i. is_numbered (Some (n, Some j)) n (Some i)) e ∙ ap (λ b. b && (j == j)) (bytes_eq-refl n) ∙ eq-eqb j j refl

-- one more element of the last array
pub grows-element : (P : List (Text × Member)) (n : Text) (i : Item) (v w : Vec Item Global) → w.items ≡ v.items ++ i ∷ [] →
    IsGrown (P ++ (n, Many v) ∷ []) → IsBodyNumbered (body i) → IsItemFilled i → Grows (P ++ (n, Many v) ∷ []) n true (body i) (P ++ (n, Many w) ∷ [])
grows-element P n i v w is h k inside =
    let bs = map body v.items in
    let b = body i in
    let F = members_forest P in
    let k' = length bs in
    let all = all-split (λ x. IsMemberFilled x.1) P (n, Many v) h.filled in
    let kept = many-kept v all.1 in
    let full : has_some bs ≡ true = has_some-map body v.items ∙ kept.0 in
    let held : bodies (Many w) ≡ many (bs ++ b ∷ []) = bodies-Many w ∙ ap (λ xs. many (map body xs)) is ∙ ap many (map-append body v.items (i ∷ [])) in
    grows (P ++ (n, Many v) ∷ []) (P ++ (n, Many w) ∷ []) n (Some k') true b
    (members-push P (n, Many w)
    ∙ ap (λ m. append F (member_front n m end)) held
    ∙ ap (append F) (elements-push n 0 bs b ∙ ap (λ j. append (elements n 0 bs end) (in_front n (Some j) b end)) (omega arith))
    ∙ sym (append-assoc F (elements n 0 bs end) (in_front n (Some k') b end))
    ∙ ap (λ m. append (append F (member_front n m end)) (in_front n (Some k') b end)) (sym (bodies-Many v))
    ∙ ap (λ f. append f (in_front n (Some k') b end)) (sym (members-push P (n, Many v))))
    (λ d. lines-front d n k' 0 b) h k
    (ap (λ o. is_numbered o n (Some k')) (last-many P n v h) ∙ next-fits n (k' - 1) k' (filled-length bs full))
    (all-append (λ x. IsMemberFilled x.1) P ((n, Many w) ∷ []) all.0
    (many-filled w (ap has_some is ∙ some-push v.items i) (subst (AllByRecursion IsItemFilled) (sym is) (all-append IsItemFilled v.items (i ∷ []) kept.1 (inside, tt))), tt))
