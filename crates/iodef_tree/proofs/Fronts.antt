-- A member in front of others: its result is joined with theirs.
use Rattle.std.proofs.Common.{◌≡◌, ℕ, suc, ◌+◌, ◌<◌, max, List, [], ◌∷◌, ◌++◌, length, get_or, drop, refl, ◌∙◌, ap, append_assoc, arith}
use Rattle.{json_pointer.specs.{Text.Bytes, declared.text.Text.Text}, iodef_tree.{proofs.Members.members-next, specs.Tree.{Forest, end, leaf, branch, Body}}}
use Rattle.iodef_tree.specs.{Tree.{Bodies, elements, member_front, leaf_line, lines, height}, View.{bodies, members_forest}, declared.object.Member.Member}

-- ---- one forest behind another

abbrev pub append : Forest → Forest → Forest
append end g = g
append (leaf i rest) g = leaf i (append rest g)
append (branch n p kids rest) g = branch n p kids (append rest g)

pub append-assoc : (f g h : Forest) → append (append f g) h ≡ append f (append g h)
append-assoc end g h = refl
append-assoc (leaf i rest) g h = ap (leaf i) (append-assoc rest g h)
append-assoc (branch n p kids rest) g h = ap (branch n p kids) (append-assoc rest g h)

pub lines-append : (d : ℕ) (f g : Forest) → lines d (append f g) ≡ lines d f ++ lines d g
lines-append d end g = refl
lines-append d (leaf i rest) g = ap (λ ls. leaf_line d i ∷ ls) (lines-append d rest g)
lines-append d (branch n p kids rest) g = grind (arith, append_assoc, (lines-append d rest g))

height-append : (f g : Forest) → height (append f g) ≡ max (height f) (height g)
height-append end g = omega arith
height-append (leaf i rest) g = let later = height-append rest g in omega (arith, later)
height-append (branch n p kids rest) g = let later = height-append rest g in omega (arith, later)

-- ---- a member in front is appended to

elements-append : (n : Bytes) (k : ℕ) (bs : List Body) (f : Forest) → elements n k bs f ≡ append (elements n k bs end) f
elements-append n k [] f = refl
elements-append n k (b ∷ bs) f = grind (arith, append-assoc, (elements-append n (suc k) bs f))

pub member-append : (n : Bytes) (m : Bodies) (f : Forest) → member_front n m f ≡ append (member_front n m end) f
member-append n m f = grind (arith, elements-append)

-- ---- a loop's step: one more member is in front

front-next : (ms : List (Text × Member)) (i : ℕ) (m : Text × Member) → i < length ms → m ≡ get_or ms i m →
    members_forest (drop i ms) ≡ append (member_front m.0 (bodies m.1) end) (members_forest (drop (i + 1) ms))
front-next ms i m h is = members-next ms i m h is ∙ member-append m.0 (bodies m.1) (members_forest (drop (i + 1) ms))

-- a list that is made of a forest, if it is joined as forests are
pub list-next : {A : Type 0} (F : Forest → List A) → ((f g : Forest) → F (append f g) ≡ F f ++ F g) → (ms : List (Text × Member)) (i : ℕ) (m : Text × Member) (made before : List A) → i < length ms → m ≡ get_or ms i m →
    made ≡ before ++ F (member_front m.0 (bodies m.1) end) → made ++ F (members_forest (drop (i + 1) ms)) ≡ before ++ F (members_forest (drop i ms))
list-next F joins ms i m made before h is pushed = grind (arith, append_assoc, front-next)

pub height-next : (ms : List (Text × Member)) (i : ℕ) (m : Text × Member) → i < length ms → m ≡ get_or ms i m →
    height (members_forest (drop i ms)) ≡ max (height (member_front m.0 (bodies m.1) end)) (height (members_forest (drop (i + 1) ms)))
height-next ms i m h is = ap height (front-next ms i m h is) ∙ height-append (member_front m.0 (bodies m.1) end) (members_forest (drop (i + 1) ms))
