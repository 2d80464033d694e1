-- A pass down the tree finds the first class of a document that breaks the marking rule.
use Rattle.std.proofs.Common.{◌≡◌, ℕ, suc, List, [], ◌∷◌, ◌++◌, Bool, true, false, cond, not, map, filter, refl, sym, ◌∙◌, ap, append-nil, append_assoc}
use Rattle.std.{proofs.lemmas.{Bool.cond-false, List.{map-append, Elements.filter-append, Folds.find-append}}, specs.{Option.option_or, Prelude.{Option, Some}}}
use Rattle.{std.specs.Prelude.{None, find, option_map}, iodef_tree.proofs.{Blocks.{blocks-located, below-parents}, Located.located-lines}}
use Rattle.iodef_tree.specs.{Paths.{LocatedLine, is_class_kind, is_class, class_paths, located}, Sound.IsSound, Text.Tokens, Tree.{Content, text, value}}
use Rattle.iodef_tree.specs.{Tree.{Forest, end, leaf, branch, steps, lines, kind_of}, Walk.{walk, leaf_entry, AreBlocks}}
use Rattle.marking.{proofs.Written.{AreUnderParents, well_marked-block}, specs.{Marks.{is_well_marked, first_bad_marking}, Members.is_rule_kept_in}}
use Rattle.marking.specs.inner.Pass.{bad_below}

pub no_class-kind : (c : Content) → is_class_kind (kind_of c) ≡ false
no_class-kind (text s) = refl
no_class-kind (value s) = refl

pub class_paths-leaf : (qs : List LocatedLine) (e : LocatedLine) → is_class e ≡ false → class_paths (e ∷ qs) ≡ class_paths qs
class_paths-leaf qs e h = ap (map (λ (x : LocatedLine). x.path)) (cond-false (is_class e) (e ∷ filter is_class qs) (filter is_class qs) h)

pub class_paths-append : (xs ys : List LocatedLine) → class_paths (xs ++ ys) ≡ class_paths xs ++ class_paths ys
class_paths-append xs ys =
    ap (map (λ (x : LocatedLine). x.path)) (filter-append is_class xs ys) ∙ map-append (λ (x : LocatedLine). x.path) (filter is_class xs) (filter is_class ys)

join : (p s : Tokens) (b : Bool) (kids rest : Option Tokens) →
    cond (not b) (Some (p ++ s)) (option_or (option_map (λ t. (p ++ s) ++ t) kids) (option_map (λ t. p ++ t) rest))
    ≡ option_map (λ t. p ++ t) (option_or (option_map (λ t. s ++ t) (cond b kids (Some []))) rest)
join p s true None rest = refl
join p s true (Some t) rest = ap Some (append_assoc p s t)
join p s false kids rest = ap (λ z. Some (p ++ z)) (sym (append-nil s))

module _ (es : List LocatedLine) (under : AreUnderParents es) where
  bad-walk : (f : Forest) (d : ℕ) (p : Tokens) → AreBlocks es d p f →
      find (λ q. not (is_well_marked es q)) (class_paths (walk d p f)) ≡ option_map (λ t. p ++ t) (bad_below f)
  bad-walk end d p b = refl
  bad-walk (leaf i rest) d p b =
      ap (find (λ q. not (is_well_marked es q))) (class_paths-leaf (walk d p rest) (leaf_entry d p i) (no_class-kind i.content)) ∙ bad-walk rest d p b
  bad-walk (branch n o kids rest) d p b =
      let q = p ++ steps n o in
      let K = walk (suc d) q kids in
      let R = walk d p rest in
      let test = λ (x : Tokens). not (is_well_marked es x) in
      ap (λ qs. find test (q ∷ qs)) (class_paths-append K R)
      ∙ ap (λ o. cond (test q) (Some q) o) (find-append test (class_paths K) (class_paths R))
      ∙ ap (λ o. cond (test q) (Some q) (option_or o (find test (class_paths R)))) (bad-walk kids (suc d) q b.1)
      ∙ ap (λ o. cond (test q) (Some q) (option_or (option_map (λ t. q ++ t) (bad_below kids)) o)) (bad-walk rest d p b.2)
      ∙ ap (λ k. cond (not k) (Some q) (option_or (option_map (λ t. q ++ t) (bad_below kids)) (option_map (λ t. p ++ t) (bad_below rest))))
      (well_marked-block es (suc d) q kids under b.0)
      ∙ join p (steps n o) (is_rule_kept_in kids) (bad_below kids) (bad_below rest)

same : (o : Option Tokens) → option_map (λ t. [] ++ t) o ≡ o
same None = refl
same (Some t) = refl

pub first_bad : (f : Forest) → IsSound f → first_bad_marking (located (lines 1 f)) ≡ bad_below f
first_bad f sound =
    let es = located (lines 1 f) in
    ap (λ xs. find (λ q. not (is_well_marked es q)) (class_paths xs)) (located-lines f sound)
    ∙ bad-walk es (below-parents (lines 1 f)) f 1 [] (blocks-located f sound)
    ∙ same (bad_below f)
