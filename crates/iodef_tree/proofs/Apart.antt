-- Siblings are apart, since their names ascend and the elements of an array are numbered.
use Rattle.std.proofs.Common.{◌≡◌, ℕ, suc, ◌+◌, ◌^◌, ◌<◌, ◌≤◌, List, ◌∷◌, ◌++◌, true, false, not, cond, ◌&&◌, decimal, refl, ◌∙◌, ap, arith, ◌⊎◌, inl, inr}
use Rattle.std.proofs.{Common.{Option, Some, None, is_some, bytes_eq}, lemmas.{Bool.{and_parts, and_left, and_right, false≢true, eqb-true}, Grind.common_steps}}
use Rattle.{std.proofs.lemmas.List.Sums.{sum_by-cons, sum_by-append}, json_pointer.specs.Text.{Bytes, Tokens, bytes_lt, is_prefix}}
use Rattle.iodef_tree.proofs.{Order.{bytes_eq-true, bytes_lt-trans, bytes_lt-ne, bytes_lt-ne_back, decimals_differ}, Siblings.siblings-map}
use Rattle.iodef_tree.specs.{Laws.{AllSiblings, AreApart, HasApart}, Sound.{SiblingPlace, may_stand, may_stand_behind, IsOrderedBehind, is_label_line, counted}}
use Rattle.iodef_tree.specs.{Sound.IsSound, Tree.{Leaf, Forest, end, leaf, branch, steps, lines, leaf_line, class_line}, declared.line.Line.Line}

-- ---- places are small

abbrev IsSmall : ℕ → Option ℕ → Type 0
IsSmall n None = Unit {0}
IsSmall n (Some k) = k < n

-- each place in the tree is below n
abbrev AreSmall : ℕ → Forest → Type 0
AreSmall n end = Unit {0}
AreSmall n (leaf i rest) = IsSmall n i.place × AreSmall n rest
AreSmall n (branch name place kids rest) = IsSmall n place × AreSmall n kids × AreSmall n rest

-- the place of the next element of the same array
abbrev next_place : Option SiblingPlace → ℕ
next_place None = 0
next_place (Some (name, None)) = 0
next_place (Some (name, Some j)) = suc j

place-next : (s : Option SiblingPlace) (name : Bytes) (k : ℕ) → may_stand s name (Some k) ≡ true → k ≤ next_place s
place-next s name k h = grind (arith, and_parts, eqb-true, false≢true)

counted-le : (l : Line) (ls : List Line) → counted ls ≤ counted (l ∷ ls)
counted-le l ls = let e = sum_by-cons (λ (x : Line). cond (not (is_label_line x)) 1 0) l ls in omega arith

counted-one : (l : Line) (ls : List Line) → is_label_line l ≡ false → counted (l ∷ ls) ≡ suc (counted ls)
counted-one l ls h = sum_by-cons (λ (x : Line). cond (not (is_label_line x)) 1 0) l ls ∙ ap (λ b. cond (not b) 1 0 + counted ls) h ∙ omega arith

step_room : (s : Option SiblingPlace) (name : Bytes) (o : Option ℕ) (l : Line) (ls : List Line) (n : ℕ) → may_stand s name o ≡ true → (is_some o ≡ true → is_label_line l ≡ false) →
    next_place s + counted (l ∷ ls) ≤ n → IsSmall n o × (next_place (Some (name, o)) + counted ls ≤ n)
step_room s name o l ls n h counts room = grind (arith, common_steps, counted-le, counted-one, place-next)

leaf-counts : (d : ℕ) (i : Leaf) → is_some i.place ≡ true → is_label_line (leaf_line d i) ≡ false
leaf-counts d i h = grind arith

class-counts : (d : ℕ) (name : Bytes) (place : Option ℕ) → is_label_line (class_line d name place) ≡ false
class-counts d name place = and_left (not (is_some place) && false) _ (and_right (not (is_some place)) false refl)

small : (f : Forest) (d : ℕ) (s : Option SiblingPlace) (n : ℕ) → IsOrderedBehind s f → next_place s + counted (lines d f) ≤ n → AreSmall n f
small end d s n ordered room = tt
small (leaf i rest) d s n ordered room =
    let r = step_room s i.name i.place (leaf_line d i) (lines d rest) n ordered.0 (leaf-counts d i) room in
    (r.0, small rest d (Some (i.name, i.place)) n ordered.1 r.1)
small (branch name place kids rest) d s n ordered room =
    let r = step_room s name place (class_line d name place) (lines (suc d) kids ++ lines d rest) n ordered.0 (λ h. class-counts d name place) room in
    let both = sum_by-append (λ (x : Line). cond (not (is_label_line x)) 1 0) (lines (suc d) kids) (lines d rest) in
    (r.0, small kids (suc d) None n ordered.1 (omega arith), small rest d (Some (name, place)) n ordered.2 (omega arith))

-- ---- siblings are apart from those behind them

abbrev IsPlaceLater : Option ℕ → Option ℕ → Type 0
IsPlaceLater None o = ⊥
IsPlaceLater (Some j) None = ⊥
IsPlaceLater (Some j) (Some k) = j < k

-- a later name, or a later element of the same array
abbrev IsLater : Bytes → Option ℕ → Bytes → Option ℕ → Type 0
IsLater n o n' o' = (bytes_lt n n' ≡ true) ⊎ ((n ≡ n') × IsPlaceLater o o')

later-next : (n : Bytes) (o : Option ℕ) (n' : Bytes) (o' : Option ℕ) → may_stand_behind (n, o) n' o' ≡ true → IsLater n o n' o'
later-next n o n' o' h = grind (arith, and_parts, bytes_eq-true, eqb-true, false≢true)

later-trans : (n : Bytes) (o : Option ℕ) (n' : Bytes) (o' : Option ℕ) (n'' : Bytes) (o'' : Option ℕ) → IsLater n o n' o' → IsLater n' o' n'' o'' → IsLater n o n'' o''
later-trans n o n' o' n'' o'' h h' = grind (arith, bytes_lt-trans)

later-behind : (f : Forest) (n : Bytes) (o : Option ℕ) → IsOrderedBehind (Some (n, o)) f → AllSiblings (IsLater n o) f
later-behind end n o ordered = tt
later-behind (leaf i rest) n o ordered =
    let here = later-next n o i.name i.place ordered.0 in
    (here, siblings-map (IsLater i.name i.place) (IsLater n o) rest (λ m p. later-trans n o i.name i.place m p here) (later-behind rest i.name i.place ordered.1))
later-behind (branch m p kids rest) n o ordered =
    let here = later-next n o m p ordered.0 in
    (here, siblings-map (IsLater m p) (IsLater n o) rest (λ n' o'. later-trans n o m p n' o' here) (later-behind rest m p ordered.2))

names_apart : (n : Bytes) (o : Option ℕ) (n' : Bytes) (o' : Option ℕ) (z : Tokens) → bytes_eq n n' ≡ false → is_prefix (steps n o) (steps n' o' ++ z) ≡ false
names_apart n o n' o' z h = grind (arith, and_left)

later-apart : (n : Bytes) (o : Option ℕ) (n' : Bytes) (o' : Option ℕ) → IsLater n o n' o' → IsSmall (2 ^ 64) o' → AreApart n o n' o'
later-apart n o n' o' (inl h) small = record {
  left = λ z. names_apart n o n' o' z (bytes_lt-ne n n' h);
  right = λ z. names_apart n' o' n o z (bytes_lt-ne_back n n' h);
}
later-apart n None n' o' (inr h) small = absurd h.1
later-apart n (Some j) n' None (inr h) small = absurd h.1
later-apart n (Some j) n' (Some k) (inr h) small =
    let d = decimals_differ j k h.1 small in
    record {
      left = λ z. and_right (bytes_eq n n') _ (and_left (bytes_eq (decimal j) (decimal k)) _ d.0);
      right = λ z. and_right (bytes_eq n' n) _ (and_left (bytes_eq (decimal k) (decimal j)) _ d.1);
    }

apart-behind : (f : Forest) (n : Bytes) (o : Option ℕ) → AllSiblings (IsLater n o) f → AreSmall (2 ^ 64) f → AllSiblings (AreApart n o) f
apart-behind end n o later small = tt
apart-behind (leaf i rest) n o later small = (later-apart n o i.name i.place later.0 small.0, apart-behind rest n o later.1 small.1)
apart-behind (branch m p kids rest) n o later small = (later-apart n o m p later.0 small.0, apart-behind rest n o later.1 small.2)

apart-ordered : (f : Forest) (s : Option SiblingPlace) → IsOrderedBehind s f → AreSmall (2 ^ 64) f → HasApart f
apart-ordered end s ordered small = tt
apart-ordered (leaf i rest) s ordered small = grind (arith, apart-behind, later-behind, small, (apart-ordered rest (Some (i.name, i.place)) ordered.1 small.1))
apart-ordered (branch n p kids rest) s ordered small = grind (arith, apart-behind, later-behind, small, (apart-ordered kids None ordered.1 small.1), (apart-ordered rest (Some (n, p)) ordered.2 small.2))

pub sound-apart : (f : Forest) → IsSound f → HasApart f
sound-apart f sound = let short = sound.short in apart-ordered f None sound.ordered (small f 1 None (2 ^ 64) sound.ordered (omega arith))
