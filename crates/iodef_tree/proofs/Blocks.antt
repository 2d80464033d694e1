-- The lines below the path of each class are those of its members.
use Rattle.std.proofs.Common.{◌≡◌, ℕ, suc, List, [], ◌∷◌, ◌++◌, Bool, true, false, filter, refl, sym, ◌∙◌, ap, subst, append-nil, append_assoc, ◌⊎◌, inl, inr}
use Rattle.std.{proofs.{Common.{Option, arith}, lemmas.{Bool.{cond-true, cond-false}, List.Elements.filter-append}}, specs.List.AllByRecursion}
use Rattle.{json_pointer.specs.Text.{Bytes, Tokens, is_under}, iodef_tree.proofs.{Apart.sound-apart, Located.located-lines, Order.is_under-common}}
use Rattle.iodef_tree.proofs.{Order.{is_under-self, is_under-is_prefix, is_under-weaker, is_under-steps}, Siblings.{filter-none, filter-all, siblings-all}}
use Rattle.iodef_tree.{proofs.Siblings.{siblings-map, walk-all}, specs.{Laws.{AllSiblings, AreApart, HasApart}, Paths.{LocatedLine, placed, located_after}}}
use Rattle.iodef_tree.specs.{Paths.{located, below}, Sound.IsSound, Tree.{Forest, end, leaf, branch, steps, lines}, Walk.{walk, IsBlock, AreBlocks}}
use Rattle.iodef_tree.specs.declared.line.Line.{Line}

-- ---- filters of filters

-- a stronger test after a weaker one is the stronger test
pub filter-twice : {X : Type 0} (Q P : X → Bool) (es : List X) → ((e : X) → Q e ≡ true → P e ≡ true) → filter Q es ≡ filter Q (filter P es)
filter-twice Q P [] h = refl
filter-twice {X} Q P (e ∷ es) h = grind (arith, cond-false, cond-true, (filter-twice Q P es h))

-- the lines below a path are among those below its prefixes
pub below-weaker : (p z : Tokens) (es : List LocatedLine) → below (p ++ z) es ≡ below (p ++ z) (below p es)
below-weaker p z es = filter-twice (λ e. is_under (p ++ z) e.path) (λ e. is_under p e.path) es (λ e k. is_under-weaker p z e.path k)

-- ---- siblings

-- of two siblings that are apart, neither is the other or below it
apart-under : (p : Tokens) (n : Bytes) (o : Option ℕ) (n' : Bytes) (o' : Option ℕ) → AreApart n o n' o' → (z : Tokens) → is_under (p ++ steps n o) (p ++ (steps n' o' ++ z)) ≡ false
apart-under p n o n' o' h z = is_under-common p (steps n o) (steps n' o' ++ z) ∙ is_under-is_prefix (steps n o) (steps n' o' ++ z) (h.left z)

apart-flip : {n : Bytes} {o : Option ℕ} {n' : Bytes} {o' : Option ℕ} → AreApart n o n' o' → AreApart n' o' n o
apart-flip h = record { left = h.right; right = h.left }

pub none-below : (f : Forest) (d : ℕ) (p : Tokens) (n : Bytes) (o : Option ℕ) → AllSiblings (AreApart n o) f → below (p ++ steps n o) (walk d p f) ≡ []
none-below f d p n o apart =
    filter-none (λ (e : LocatedLine). is_under (p ++ steps n o) e.path) (walk d p f)
    (walk-all (λ x. is_under (p ++ steps n o) x ≡ false) f d p
    (siblings-map (AreApart n o) (λ n' o'. (z : Tokens) → is_under (p ++ steps n o) (p ++ (steps n' o' ++ z)) ≡ false) f (λ n' o' h. apart-under p n o n' o' h) apart))

pub all-below : (f : Forest) (d : ℕ) (p : Tokens) → below p (walk d p f) ≡ walk d p f
all-below f d p =
    filter-all (λ (e : LocatedLine). is_under p e.path) (walk d p f)
    (walk-all (λ x. is_under p x ≡ true) f d p (siblings-all (λ n o. (z : Tokens) → is_under p (p ++ (steps n o ++ z)) ≡ true) f (λ n o z. is_under-steps p n o z)))

-- nothing of another class is below a sibling
other-block : (d : ℕ) (p : Tokens) (n : Bytes) (o : Option ℕ) (n' : Bytes) (o' : Option ℕ) (kids : Forest) → AreApart n o n' o' →
    (is_under (p ++ steps n o) (p ++ steps n' o') ≡ false) × (below (p ++ steps n o) (walk d (p ++ steps n' o') kids) ≡ [])
other-block d p n o n' o' kids h =
    let q = p ++ steps n' o' in (
      ap (λ z. is_under (p ++ steps n o) (p ++ z)) (sym (append-nil (steps n' o'))) ∙ apart-under p n o n' o' h [],
      filter-none (λ (e : LocatedLine). is_under (p ++ steps n o) e.path) (walk d q kids)
          (walk-all (λ x. is_under (p ++ steps n o) x ≡ false) kids d q
          (siblings-all (λ m r. (z : Tokens) → is_under (p ++ steps n o) (q ++ (steps m r ++ z)) ≡ false) kids
          (λ m r z. ap (is_under (p ++ steps n o)) (append_assoc p (steps n' o') (steps m r ++ z)) ∙ apart-under p n o n' o' h (steps m r ++ z)))),
    )

-- a class of this name and place is among the siblings
abbrev pub IsIn : Bytes → Option ℕ → Forest → Type 0
IsIn n o end = ⊥
IsIn n o (leaf i rest) = IsIn n o rest
IsIn n o (branch n' o' kids rest) = ((n' ≡ n) × (o' ≡ o)) ⊎ IsIn n o rest

apart-in : (f : Forest) (n : Bytes) (o : Option ℕ) (n' : Bytes) (o' : Option ℕ) → AllSiblings (AreApart n o) f → IsIn n' o' f → AreApart n o n' o'
apart-in end n o n' o' h i = absurd i
apart-in (leaf x rest) n o n' o' h i = apart-in rest n o n' o' h.1 i
apart-in (branch x px kids rest) n o n' o' h (inl e) = subst (λ r. AreApart n o n' r) e.1 (subst (λ y. AreApart n o y px) e.0 h.0)
apart-in (branch x px kids rest) n o n' o' h (inr i) = apart-in rest n o n' o' h.1 i

-- ---- the blocks

pub blocks-in : (f : Forest) (d : ℕ) (p : Tokens) (es : List LocatedLine) → HasApart f →
    ((n : Bytes) (o : Option ℕ) → IsIn n o f → below (p ++ steps n o) es ≡ below (p ++ steps n o) (walk d p f)) → AreBlocks es d p f
blocks-in end d p es apart h = tt
blocks-in (leaf i rest) d p es apart h =
    blocks-in rest d p es apart.1 (λ n o is.
    h n o is
    ∙ cond-false (is_under (p ++ steps n o) (p ++ steps i.name i.place)) _ _ (other-block d p n o i.name i.place end (apart-flip (apart-in rest i.name i.place n o apart.0 is))).0)
blocks-in (branch n o kids rest) d p es apart h =
    let q = p ++ steps n o in
    let K = walk (suc d) q kids in
    let R = walk d p rest in
    let own : below q es ≡ K =
    h n o (inl (refl, refl))
    ∙ cond-false (is_under q q) _ _ (is_under-self q)
    ∙ filter-append (λ (e : LocatedLine). is_under q e.path) K R
    ∙ ap (λ xs. xs ++ below q R) (all-below kids (suc d) q)
    ∙ ap (λ xs. K ++ xs) (none-below rest d p n o apart.0)
    ∙ append-nil K in (
      own,
      blocks-in kids (suc d) q es apart.1 (λ n' o' is. below-weaker q (steps n' o') es ∙ ap (below (q ++ steps n' o')) own),
      blocks-in rest d p es apart.2 (λ n' o' is.
          let two = other-block (suc d) p n' o' n o kids (apart-flip (apart-in rest n o n' o' apart.0 is)) in
          h n' o' (inr is)
          ∙ cond-false (is_under (p ++ steps n' o') q) _ _ two.0
          ∙ filter-append (λ (e : LocatedLine). is_under (p ++ steps n' o') e.path) K R
          ∙ ap (λ xs. xs ++ below (p ++ steps n' o') R) two.1),
    )

pub blocks : (f : Forest) → IsSound f → AreBlocks (walk 1 [] f) 1 [] f
blocks f sound = blocks-in f 1 [] (walk 1 [] f) (sound-apart f sound) (λ n o is. refl)

pub blocks-located : (f : Forest) → IsSound f → AreBlocks (located (lines 1 f)) 1 [] f
blocks-located f sound = subst (λ es. AreBlocks es 1 [] f) (sym (located-lines f sound)) (blocks f sound)

-- all lines are below the root
pub root-block : (f : Forest) → IsSound f → IsBlock [] (located (lines 1 f)) f
root-block f sound = (1, ap (below []) (located-lines f sound) ∙ all-below f 1 [])

-- ---- each entry is below its parent

parents-after : (before : List LocatedLine) (ls : List Line) → AllByRecursion (λ (e : LocatedLine). is_under e.parent e.path ≡ true) (located_after before ls)
parents-after before [] = tt
parents-after before (l ∷ ls) =
    let e = placed before l in
    (below_it e.parent l.name _, parents-after (e ∷ before) ls)
  where
    below_it : (p : Tokens) (n : Bytes) (o : Option ℕ) → is_under p (p ++ steps n o) ≡ true
    below_it p n o = ap (λ z. is_under p (p ++ z)) (sym (append-nil (steps n o))) ∙ is_under-steps p n o []

pub below-parents : (ls : List Line) → AllByRecursion (λ (e : LocatedLine). is_under e.parent e.path ≡ true) (located ls)
below-parents ls = parents-after [] ls
