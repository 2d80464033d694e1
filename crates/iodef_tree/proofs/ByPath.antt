-- The look-up by a path finds the class whose lines are below the path.
use Rattle.std.proofs.Common.{◌≡◌, ℕ, suc, ◌+◌, ◌^◌, ◌<◌, ◌≤◌, List, [], ◌∷◌, ◌++◌, Bool, true, false, cond, ◌&&◌, ◌||◌, length, decimal, refl, sym, ◌∙◌, ap}
use Rattle.std.proofs.{Common.{arith, append-nil, append_assoc, true≢false, Option, Some, None, is_some, option_map, bytes_eq}, Math.Bool.or-false}
use Rattle.std.{proofs.lemmas.{Bool.{and_left, and_right, cond-true, cond-false, cond_both}, List.Folds.list_any-append}, specs.List.AllByRecursion}
use Rattle.{std.specs.{List.slice_get, Option.option_map_or}, json_pointer.specs.Text.{Bytes, Tokens, same_path, is_root, is_prefix}}
use Rattle.iodef_tree.proofs.{Distinct.apart-differ, Order.{is_false, bytes_eq-refl, bytes_eq-true, decimals_differ, same_path-refl, same_path-true}}
use Rattle.iodef_tree.proofs.{Order.{same_path-common, same_path-is_prefix, same_path-longer, is_prefix-append}, Siblings.{siblings-all, siblings-map}}
use Rattle.iodef_tree.{proofs.Siblings.walk-all, specs.{Laws.{AllSiblings, AreApart, HasApart}, Paths.{LocatedLine, is_class_kind, is_class, placed}}}
use Rattle.iodef_tree.specs.{Paths.{located_after, located, has_class}, Tree.{Content, Forest, end, leaf, branch, Body, Bodies, elements, member_front, steps}}
use Rattle.iodef_tree.specs.{Tree.kind_of, Walk.walk, declared.line.Line.Line, inner.Lookup.{past, class_at, object_in, element_at, part_at}}

-- ---- what is left of a path

pub past-some : (q p r : Tokens) → past q p ≡ Some r → p ≡ q ++ r
past-some (x ∷ q) (y ∷ p) r e = step (bytes_eq x y) refl e (past-some q p r)
  where
    step : (b : Bool) → bytes_eq x y ≡ b → cond b (past q p) None ≡ Some r → (past q p ≡ Some r → p ≡ q ++ r) → y ∷ p ≡ x ∷ (q ++ r)
    step true is h later = let same : x ≡ y = bytes_eq-true x y is in let rest : p ≡ q ++ r = later h in cc
    step false is h later = cc
past-some q p r e = grind arith

past-none : (q p : Tokens) → past q p ≡ None → is_prefix q p ≡ false
past-none (x ∷ q) (y ∷ p) e = grind (arith, (past-none q p))
past-none q p e = grind arith

-- ---- whether there is a class

none-any : (p : Tokens) (es : List LocatedLine) → AllByRecursion (λ (e : LocatedLine). same_path e.path p ≡ false) es → has_class es p ≡ false
none-any p [] h = refl
none-any p (e ∷ es) h = ap (λ b. b || has_class es p) (and_right (is_class e) (same_path e.path p) h.0) ∙ none-any p es h.1

-- no class behind a sibling has a path that goes on from the sibling's
none-behind : (f : Forest) (d : ℕ) (q : Tokens) (n : Bytes) (o : Option ℕ) (r : Tokens) → AllSiblings (AreApart n o) f → has_class (walk d q f) (q ++ (steps n o ++ r)) ≡ false
none-behind f d q n o r apart =
    let p = q ++ (steps n o ++ r) in
    none-any p (walk d q f) (walk-all (λ x. same_path x p ≡ false) f d q
    (siblings-map (AreApart n o) (λ n' o'. (z : Tokens) → same_path (q ++ (steps n' o' ++ z)) p ≡ false) f
    (λ n' o' h z. apart-differ q n' o' n o (record { left = h.right; right = h.left }) z r) apart))

-- each class below a class has a path that goes on from the class's
none-inside : (f : Forest) (d : ℕ) (q st p : Tokens) → is_prefix st p ≡ false → has_class (walk d (q ++ st) f) (q ++ p) ≡ false
none-inside f d q st p apart =
    none-any (q ++ p) (walk d (q ++ st) f) (walk-all (λ x. same_path x (q ++ p) ≡ false) f d (q ++ st)
    (siblings-all (λ n o. (z : Tokens) → same_path ((q ++ st) ++ (steps n o ++ z)) (q ++ p) ≡ false) f (λ n o z. differs (steps n o ++ z))))
  where
    differs : (z : Tokens) → same_path ((q ++ st) ++ z) (q ++ p) ≡ false
    differs z =
        ap (λ x. same_path x (q ++ p)) (append_assoc q st z) ∙ same_path-common q (st ++ z) p
        ∙ is_false (same_path (st ++ z) p) (λ same. true≢false (sym (is_prefix-append st z) ∙ ap (is_prefix st) (same_path-true (st ++ z) p same) ∙ apart))

leaf_plain : (c : Content) → is_class_kind (kind_of c) ≡ false
leaf_plain c = grind arith

pub has_class-walk : (f : Forest) (d : ℕ) (q p : Tokens) → HasApart f → has_class (walk d q f) (q ++ p) ≡ is_some (class_at f p)
has_class-walk end d q p apart = refl
has_class-walk (leaf i rest) d q p apart =
    let st = steps i.name i.place in
    ap (λ b. b || has_class (walk d q rest) (q ++ p)) (and_left (is_class_kind (kind_of i.content)) (same_path (q ++ st) (q ++ p)) (leaf_plain i.content))
    ∙ step (past st p) refl (has_class-walk rest d q p apart.1)
  where
    step : (o : Option Tokens) → past (steps i.name i.place) p ≡ o → has_class (walk d q rest) (q ++ p) ≡ is_some (class_at rest p) →
        has_class (walk d q rest) (q ++ p) ≡ is_some (option_map_or {T = Tokens} {U = Option Forest} (λ r. None) o (class_at rest p))
    step None is later = later
    step (Some r) is later = ap (λ z. has_class (walk d q rest) (q ++ z)) (past-some (steps i.name i.place) p r is) ∙ none-behind rest d q i.name i.place r apart.0
has_class-walk (branch n o kids rest) d q p apart =
    let st = steps n o in
    ap (λ b. same_path (q ++ st) (q ++ p) || b) (list_any-append (λ (e : LocatedLine). is_class e && same_path e.path (q ++ p)) (walk (suc d) (q ++ st) kids) (walk d q rest))
    ∙ step (past st p) refl (λ r. has_class-walk kids (suc d) (q ++ st) r apart.1) (has_class-walk rest d q p apart.2)
  where
    step : (o' : Option Tokens) → past (steps n o) p ≡ o' → ((r : Tokens) → has_class (walk (suc d) (q ++ steps n o) kids) ((q ++ steps n o) ++ r) ≡ is_some (class_at kids r)) →
        has_class (walk d q rest) (q ++ p) ≡ is_some (class_at rest p) →
        (same_path (q ++ steps n o) (q ++ p) || (has_class (walk (suc d) (q ++ steps n o) kids) (q ++ p) || has_class (walk d q rest) (q ++ p)))
        ≡ is_some (option_map_or (λ r. cond (is_root r) (Some kids) (class_at kids r)) o' (class_at rest p))
    step None is inner later =
        let out = past-none (steps n o) p is in
        ap (λ b. b || (has_class (walk (suc d) (q ++ steps n o) kids) (q ++ p) || has_class (walk d q rest) (q ++ p))) (same_path-common q (steps n o) p ∙ same_path-is_prefix (steps n o) p out)
        ∙ ap (λ b. b || has_class (walk d q rest) (q ++ p)) (none-inside kids (suc d) q (steps n o) p out)
        ∙ later
    step (Some []) is inner later =
        let at : steps n o ≡ p = sym (past-some (steps n o) p [] is ∙ append-nil (steps n o)) in
        ap (λ b. b || (has_class (walk (suc d) (q ++ steps n o) kids) (q ++ p) || has_class (walk d q rest) (q ++ p))) (same_path-common q (steps n o) p ∙ ap (same_path (steps n o)) (sym at) ∙ same_path-refl (steps n o))
    step (Some (x ∷ r)) is inner later =
        let at : p ≡ steps n o ++ (x ∷ r) = past-some (steps n o) p (x ∷ r) is in
        ap (λ b. b || (has_class (walk (suc d) (q ++ steps n o) kids) (q ++ p) || has_class (walk d q rest) (q ++ p))) (same_path-common q (steps n o) p ∙ ap (same_path (steps n o)) at ∙ same_path-longer (steps n o) x None r)
        ∙ ap (λ z. has_class (walk (suc d) (q ++ steps n o) kids) z || has_class (walk d q rest) (q ++ p)) (ap (λ z. q ++ z) at ∙ sym (append_assoc q (steps n o) (x ∷ r)))
        ∙ ap (λ b. b || has_class (walk d q rest) (q ++ p)) (inner (x ∷ r))
        ∙ ap (λ b. is_some (class_at kids (x ∷ r)) || b) (ap (λ z. has_class (walk d q rest) (q ++ z)) at ∙ none-behind rest d q n o (x ∷ r) apart.0)
        ∙ or-false (is_some (class_at kids (x ∷ r)))

-- ---- whole documents

-- the root is no class
root-none : (before : List LocatedLine) (ls : List Line) → has_class (located_after before ls) [] ≡ false
root-none before [] = refl
root-none before (l ∷ ls) =
    let e = placed before l in
    ap (λ b. b || has_class (located_after (e ∷ before) ls) []) (and_right (is_class e) (same_path e.path []) (not_root e.parent l.name _))
    ∙ root-none (e ∷ before) ls
  where
    not_root : (p : Tokens) (n : Bytes) (o : Option ℕ) → same_path (p ++ steps n o) [] ≡ false
    not_root [] n None = refl
    not_root _ n o = refl

pub has_class-root : (ls : List Line) → has_class (located ls) [] ≡ false
has_class-root ls = root-none [] ls

-- ---- one member in front of the others

-- the class that a member gives, or else the one that the members behind it give
abbrev pub part_or : Bodies → Tokens → Option Forest → Option Forest
part_or m p rest = option_map_or (λ (r : Body × Tokens). object_in r.0 r.1) (part_at m p) rest

elements-short : (bs : List Body) (n : Bytes) (k : ℕ) (rest : Forest) (x : Bytes) → class_at (elements n k bs rest) (x ∷ []) ≡ class_at rest (x ∷ [])
elements-short [] n k rest x = refl
elements-short (b ∷ bs) n k rest x = grind (arith, cond_both, (elements-short bs n (suc k) rest x))

elements-other : (bs : List Body) (n : Bytes) (k : ℕ) (rest : Forest) (x : Bytes) (p : Tokens) → bytes_eq n x ≡ false → class_at (elements n k bs rest) (x ∷ p) ≡ class_at rest (x ∷ p)
elements-other [] n k rest x p h = refl
elements-other (b ∷ bs) n k rest x p h = grind (arith, (elements-other bs n (suc k) rest x p h))

elements-here : (bs : List Body) (n : Bytes) (k : ℕ) (rest : Forest) (x y : Bytes) (p : Tokens) → bytes_eq n x ≡ true →
    class_at (elements n k bs rest) (x ∷ y ∷ p) ≡ option_map_or (λ (r : Body × Tokens). object_in r.0 r.1) (option_map (λ b. (b, p)) (element_at y k bs)) (class_at rest (x ∷ y ∷ p))
elements-here [] n k rest x y p h = refl
elements-here (b ∷ bs) n k rest x y p h = grind (arith, (elements-here bs n (suc k) rest x y p h))

pub class_at-here : (m : Bodies) (n : Bytes) (rest : Forest) (x : Bytes) (p : Tokens) → bytes_eq n x ≡ true → class_at (member_front n m rest) (x ∷ p) ≡ part_or m p (class_at rest (x ∷ p))
class_at-here m n rest x p h = grind (arith, cond-true, elements-here, elements-short)

pub class_at-other : (m : Bodies) (n : Bytes) (rest : Forest) (x : Bytes) (p : Tokens) → bytes_eq n x ≡ false → class_at (member_front n m rest) (x ∷ p) ≡ class_at rest (x ∷ p)
class_at-other m n rest x p h = grind (arith, cond-false, elements-other)

-- ---- the elements of an array

pub element-spelled : (bs : List Body) (token : Bytes) (j k : ℕ) → token ≡ decimal (j + k) → j + k < 2 ^ 64 → element_at token j bs ≡ slice_get bs k
element-spelled (b ∷ bs) token j (suc k) is small =
    cond-false (bytes_eq (decimal j) token) _ _ (ap (bytes_eq (decimal j)) is ∙ (decimals_differ j (j + suc k) (omega arith) small).0)
    ∙ element-spelled bs token (suc j) k (is ∙ ap decimal (let e : j + suc k ≡ suc j + k = omega arith in e)) (omega arith)
element-spelled bs token j k is small = grind (arith, bytes_eq-refl, cond-true)

pub element-none : (bs : List Body) (token : Bytes) (j : ℕ) → j + length bs ≤ 2 ^ 64 → ((k : ℕ) → k < 2 ^ 64 → token ≡ decimal k → ⊥) → element_at token j bs ≡ None
element-none [] token j small none = refl
element-none (b ∷ bs) token j small none =
    cond-false (bytes_eq (decimal j) token) _ _ (is_false (bytes_eq (decimal j) token) (λ same. none j (omega arith) (sym (bytes_eq-true (decimal j) token same))))
    ∙ element-none bs token (suc j) (omega arith) none
