-- Members whose names ascend make an ordered tree.
use Rattle.std.proofs.Common.{◌≡◌, ℕ, suc, List, [], ◌∷◌, true, Option, Some, None, String, Global, string_bytes, string_cmp, Less, ap, arith, is_lt}
use Rattle.{std.{proofs.lemmas.Bool.Decides.nat_tests, specs.{List.{AllByRecursion, Sorted.IsStrictlySortedBy}, Map.keys_of}}, json_pointer.specs.Text.Bytes}
use Rattle.{json_pointer.specs.Text.bytes_lt, iodef_tree.{proofs.{FromValues.{MapEntry, given_members}, Order.bytes_eq-refl}, specs.Sound.SiblingPlace}}
use Rattle.iodef_tree.specs.{Sound.{may_stand, IsOrderedBehind}, Tree.{Forest, Body, holds, says, Bodies, one, many, in_front, elements}}
use Rattle.iodef_tree.specs.{View.forest_of_members, inner.FitValues.{IsBodyOrdered, AreBodiesOrdered}}

abbrev pub AreAbove : Bytes → List (Bytes × Bodies) → Type 0
AreAbove name ms = AllByRecursion (λ m. bytes_lt name m.0 ≡ true) ms

abbrev pub Ascend : List (Bytes × Bodies) → Type 0
Ascend [] = Unit {0}
Ascend (m ∷ ms) = AreAbove m.0 ms × Ascend ms

abbrev pub AreAboveAll : Option SiblingPlace → List (Bytes × Bodies) → Type 0
AreAboveAll None ms = Unit {0}
AreAboveAll (Some s) ms = AreAbove s.0 ms

above_given : (k : String Global) (es : List MapEntry) → AllByRecursion (λ y. string_cmp k y ≡ Less) (keys_of es) → AreAbove (string_bytes k) (given_members es)
above_given k [] h = tt
above_given k (e ∷ es) h = (ap is_lt h.0, above_given k es h.1)

-- the names of a map ascend
pub ascend_given : (es : List MapEntry) → IsStrictlySortedBy string_cmp (keys_of es) → Ascend (given_members es)
unfolding IsStrictlySortedBy
ascend_given [] h = tt
ascend_given (e ∷ es) h = (above_given e.0 es h.0, ascend_given es h.1)

in_front_ordered : (before : Option SiblingPlace) (name : Bytes) (place : Option ℕ) (b : Body) (rest : Forest)
    → may_stand before name place ≡ true → IsBodyOrdered b → IsOrderedBehind (Some (name, place)) rest → IsOrderedBehind before (in_front name place b rest)
in_front_ordered before name place (holds kids) rest h k r = (h, k, r)
in_front_ordered before name place (says content) rest h k r = (h, r)

next_stands : (name : Bytes) (k : ℕ) → may_stand (Some (name, Some k)) name (Some (suc k)) ≡ true
next_stands name k = rw (bytes_eq-refl name) (grind (arith, nat_tests))

elements_ordered : (name : Bytes) (bs : List Body) (k : ℕ) (before : Option SiblingPlace) (rest : Forest)
    → may_stand before name (Some k) ≡ true → AllByRecursion IsBodyOrdered bs → ((j : ℕ) → IsOrderedBehind (Some (name, Some j)) rest) → IsOrderedBehind before rest
    → IsOrderedBehind before (elements name k bs rest)
elements_ordered name [] k before rest h all each r = r
elements_ordered name (b ∷ bs) k before rest h all each r = grind (arith, next_stands, (elements_ordered name bs (suc k) (Some (name, Some k)) rest (next_stands name k) all.1 each (each k)))

stands : (before : Option SiblingPlace) (name : Bytes) (m : Bodies) (ms : List (Bytes × Bodies)) → AreAboveAll before ((name, m) ∷ ms) → may_stand before name None ≡ true
stands before name m ms h = grind arith

stands_first : (before : Option SiblingPlace) (name : Bytes) (m : Bodies) (ms : List (Bytes × Bodies)) → AreAboveAll before ((name, m) ∷ ms) → may_stand before name (Some 0) ≡ true
stands_first before name m ms h = grind arith

above_later : (before : Option SiblingPlace) (m : Bytes × Bodies) (ms : List (Bytes × Bodies)) → AreAboveAll before (m ∷ ms) → AreAboveAll before ms
above_later before m ms h = grind arith

pub ordered_members : (ms : List (Bytes × Bodies)) (before : Option SiblingPlace) → AreAboveAll before ms → Ascend ms → AllByRecursion (λ m. AreBodiesOrdered m.1) ms → IsOrderedBehind before (forest_of_members ms)
ordered_members [] before h up all = tt
ordered_members ((name, one b) ∷ ms) before h up all =
    in_front_ordered before name None b (forest_of_members ms) (stands before name (one b) ms h) all.0 (ordered_members ms (Some (name, None)) up.0 up.1 all.1)
ordered_members ((name, many bs) ∷ ms) before h up all =
    elements_ordered name bs 0 before (forest_of_members ms) (stands_first before name (many bs) ms h) all.0 (λ j. ordered_members ms (Some (name, Some j)) up.0 up.1 all.1) (ordered_members ms before (above_later before (name, many bs) ms h) up.1 all.1)
