-- Where the classes of a document are: there is one at each class's path, and none at the path of an array that holds
-- one.
use Rattle.std.proofs.Common.{◌≡◌, ℕ, suc, List, [], ◌∷◌, ◌++◌, Bool, true, false, cond, ◌&&◌, ◌||◌, refl, sym, ◌∙◌, ap, subst, ◌⊎◌, inl, inr}
use Rattle.std.proofs.lemmas.{Bool.{cond-true, cond-false, and_left, and_right, or_left, or_right, or_from, false≢true, true≢false}, List.Folds.list_any-append}
use Rattle.{std.specs.{List.{AllByRecursion, list_any}, Prelude.{Option, Some, None, is_some, is_none}, Str.bytes_eq}, iodef_tree.proofs.Apart.sound-apart}
use Rattle.iodef_tree.proofs.{Blocks.{blocks-located, all-below}, Located.located-lines, Order.{same_path-refl, same_path-true, same_path-common}}
use Rattle.iodef_tree.{proofs.{Order.{is_under-steps, is_false}, Siblings.{siblings-map, walk-all}}, specs.Laws.{AllSiblings, AreApart, HasApart}}
use Rattle.iodef_tree.specs.{Paths.{LocatedLine, is_class, has_class, below, located}, Sound.IsSound, Text.{Bytes, Tokens, same_path, is_under}, Tree.Forest}
use Rattle.iodef_tree.specs.{Tree.{end, leaf, branch, steps, lines}, Walk.{walk, leaf_entry, class_entry, AreBlocks}}

-- the classes of a tree whose members are those of the class at p
abbrev pub ArePlaced : List LocatedLine → Tokens → Forest → Type 0
ArePlaced es p end = Unit {0}
ArePlaced es p (leaf i rest) = ArePlaced es p rest
ArePlaced es p (branch n o kids rest) =
    (has_class es (p ++ steps n o) ≡ true) × (is_some o ≡ true → has_class es (p ++ n ∷ []) ≡ false) × ArePlaced es (p ++ steps n o) kids × ArePlaced es p rest

-- ---- no member outside an array has the name of an array

abbrev IsArrayName : Bytes → Bytes → Option ℕ → Type 0
IsArrayName n m o = is_none o ≡ true → bytes_eq m n ≡ false

-- a class in an array of this name is among the siblings
abbrev IsElement : Bytes → Forest → Type 0
IsElement n end = ⊥
IsElement n (leaf i rest) = IsElement n rest
IsElement n (branch m o kids rest) = ((m ≡ n) × (is_some o ≡ true)) ⊎ IsElement n rest

strip : (b : Bool) → (b && true) ≡ false → b ≡ false
strip true h = h
strip false h = refl

never-both : {X : Type 0} (o : Option X) → is_some o ≡ true → is_none o ≡ true → ⊥
never-both None s n = false≢true s
never-both (Some x) s n = false≢true n

plain-name : (m n : Bytes) (o o' : Option ℕ) → AreApart m o n o' → is_some o' ≡ true → is_none o ≡ true → bytes_eq m n ≡ false
plain-name m n None None h s e = absurd (false≢true s)
plain-name m n None (Some k) h s e = strip (bytes_eq m n) (h.left [])
plain-name m n (Some j) o' h s e = absurd (false≢true e)

apart-flip : {n : Bytes} {o : Option ℕ} {m : Bytes} {o' : Option ℕ} → AreApart n o m o' → AreApart m o' n o
apart-flip h = record { left = h.right; right = h.left }

element-name : (f : Forest) (m n : Bytes) (o : Option ℕ) → AllSiblings (AreApart m o) f → IsElement n f → is_none o ≡ true → bytes_eq m n ≡ false
element-name end m n o h i e = absurd i
element-name (leaf x rest) m n o h i e = element-name rest m n o h.1 i e
element-name (branch x px kids rest) m n o h (inl s) e = subst (λ y. bytes_eq m y ≡ false) s.0 (plain-name m x o px h.0 s.1 e)
element-name (branch x px kids rest) m n o h (inr i) e = element-name rest m n o h.1 i e

array-name : (f : Forest) (n : Bytes) → HasApart f → IsElement n f → AllSiblings (IsArrayName n) f
array-name end n a i = absurd i
array-name (leaf x rest) n a i = ((λ e. element-name rest x.name n x.place a.0 i e), array-name rest n a.1 i)
array-name (branch m o kids rest) n a (inl s) = (
  (λ e. absurd (never-both o s.1 e)),
  siblings-map (AreApart m o) (IsArrayName n) rest (λ m' o' h e. subst (λ y. bytes_eq m' y ≡ false) s.0 (plain-name m' m o' o (apart-flip h) s.1 e)) a.0,
)
array-name (branch m o kids rest) n a (inr i) = ((λ e. element-name rest m n o a.0 i e), array-name rest n a.2 i)

-- ---- there is no class at the path of an array

pub no_class : (es : List LocatedLine) (r : Tokens) → AllByRecursion (λ (e : LocatedLine). same_path e.path r ≡ false) es → has_class es r ≡ false
no_class [] r h = refl
no_class (e ∷ es) r h =
    or_from (is_class e && same_path e.path r) (has_class es r) (and_right (is_class e) (same_path e.path r) h.0) (no_class es r h.1)

has_class-below : (es : List LocatedLine) (p r : Tokens) → is_under p r ≡ true → has_class es r ≡ has_class (below p es) r
has_class-below [] p r h = refl
has_class-below (e ∷ es) p r h = by_cases (is_under p e.path) refl (has_class-below es p r h)
  where
    by_cases : (b : Bool) → is_under p e.path ≡ b → has_class es r ≡ has_class (below p es) r →
        ((is_class e && same_path e.path r) || has_class es r) ≡ has_class (cond (is_under p e.path) (e ∷ below p es) (below p es)) r
    by_cases true u ih =
        ap (λ b. (is_class e && same_path e.path r) || b) ih ∙ ap (λ xs. has_class xs r) (sym (cond-true (is_under p e.path) (e ∷ below p es) (below p es) u))
    by_cases false u ih =
        let elsewhere : same_path e.path r ≡ false =
        is_false (same_path e.path r) (λ same. true≢false (sym h ∙ ap (is_under p) (sym (same_path-true e.path r same)) ∙ u)) in
        ap (λ b. b || has_class es r) (and_right (is_class e) (same_path e.path r) elsewhere)
        ∙ ih ∙ ap (λ xs. has_class xs r) (sym (cond-false (is_under p e.path) (e ∷ below p es) (below p es) u))

not_alone : (m n : Bytes) (o : Option ℕ) (z : Tokens) → IsArrayName n m o → same_path (steps m o ++ z) (n ∷ []) ≡ false
not_alone m n None z h = and_left (bytes_eq m n) _ (h refl)
not_alone m n (Some k) z h = and_right (bytes_eq m n) _ refl

array-path : (es : List LocatedLine) (d : ℕ) (p : Tokens) (F : Forest) (n : Bytes) → below p es ≡ walk d p F → AllSiblings (IsArrayName n) F → has_class es (p ++ n ∷ []) ≡ false
array-path es d p F n block names =
    let r = p ++ n ∷ [] in
    has_class-below es p r (is_under-steps p n None [])
    ∙ ap (λ xs. has_class xs r) block
    ∙ no_class (walk d p F) r
    (walk-all (λ x. same_path x r ≡ false) F d p
    (siblings-map (IsArrayName n) (λ m o. (z : Tokens) → same_path (p ++ (steps m o ++ z)) r ≡ false) F
    (λ m o h z. same_path-common p (steps m o ++ z) (n ∷ []) ∙ not_alone m n o z h) names))

-- ---- all of this, down the tree

module _ (es : List LocatedLine) where
  placed-in : (f : Forest) (d : ℕ) (p : Tokens) (F : Forest) → ((t : LocatedLine → Bool) → list_any t (walk d p f) ≡ true → list_any t es ≡ true) → HasApart f → AreBlocks es d p f →
      below p es ≡ walk d p F → ((n : Bytes) → IsElement n f → AllSiblings (IsArrayName n) F) → ArePlaced es p f
  placed-in end d p F part apart b block arrays = tt
  placed-in (leaf i rest) d p F part apart b block arrays =
      placed-in rest d p F (λ t h. part t (or_right (t (leaf_entry d p i)) (list_any t (walk d p rest)) h)) apart.1 b block arrays
  placed-in (branch n o kids rest) d p F part apart b block arrays =
      let q = p ++ steps n o in
      let e = class_entry d p n o in
      let K = walk (suc d) q kids in
      let R = walk d p rest in
      let inner = λ (t : LocatedLine → Bool) (h : (list_any t K || list_any t R) ≡ true). part t (or_right (t e) (list_any t (K ++ R)) (list_any-append t K R ∙ h)) in (
        part (λ x. is_class x && same_path x.path q) (or_left (same_path q q) _ (same_path-refl q)),
        (λ s. array-path es d p F n block (arrays n (inl (refl, s)))),
        placed-in kids (suc d) q kids (λ t h. inner t (or_left (list_any t K) (list_any t R) h)) apart.1 b.1 b.0 (λ m i. array-name kids m apart.1 i),
        placed-in rest d p F (λ t h. inner t (or_right (list_any t K) (list_any t R) h)) apart.2 b.2 block (λ m i. arrays m (inr i)),
      )

pub placed : (f : Forest) → IsSound f → ArePlaced (located (lines 1 f)) [] f
placed f sound =
    let es = located (lines 1 f) in
    let apart = sound-apart f sound in
    let walked = located-lines f sound in
    placed-in es f 1 [] f (λ t h. ap (list_any t) walked ∙ h) apart (blocks-located f sound) (ap (below []) walked ∙ all-below f 1 []) (λ n i. array-name f n apart i)
