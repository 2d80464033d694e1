-- The paths of the classes, member by member.
use Rattle.std.proofs.{Common.{◌≡◌, ℕ, suc, List, [], ◌∷◌, ◌++◌, map, filter, refl, ◌∙◌, ap, append_assoc, cond, arith}, lemmas.List.map-append}
use Rattle.{std.proofs.lemmas.List.Elements.filter-append, json_pointer.specs.Text.Tokens, iodef_tree.proofs.{Fronts.append, Located.located-lines}}
use Rattle.iodef_tree.specs.{Paths.{LocatedLine, is_class_kind, is_class, class_paths, classes_of}, Sound.IsSound, Tree.{Content, text, value, Forest, end}}
use Rattle.iodef_tree.specs.{Tree.{leaf, branch, steps, kind_of, lines}, Walk.{leaf_entry, walk, classes_below}}

-- ---- the lines and the walk

class_paths-append : (xs ys : List LocatedLine) → class_paths (xs ++ ys) ≡ class_paths xs ++ class_paths ys
class_paths-append xs ys = ap (map (λ (e : LocatedLine). e.path)) (filter-append is_class xs ys) ∙ map-append (λ (e : LocatedLine). e.path) (filter is_class xs) (filter is_class ys)

classes-walk : (f : Forest) (d : ℕ) (p : Tokens) → class_paths (walk d p f) ≡ classes_below p f
classes-walk end d p = refl
classes-walk (leaf i rest) d p = step i.content (classes-walk rest d p)
  where
    step : (c : Content) → class_paths (walk d p rest) ≡ classes_below p rest →
        map (λ (e : LocatedLine). e.path) (cond (is_class_kind (kind_of c)) (leaf_entry d p i ∷ filter is_class (walk d p rest)) (filter is_class (walk d p rest))) ≡ classes_below p rest
    step (text s) later = later
    step (value s) later = later
classes-walk (branch n o kids rest) d p =
    let q = p ++ steps n o in
    ap (λ ps. q ∷ ps) (
    class_paths-append (walk (suc d) q kids) (walk d p rest)
    ∙ ap (λ ps. ps ++ class_paths (walk d p rest)) (classes-walk kids (suc d) q)
    ∙ ap (λ ps. classes_below q kids ++ ps) (classes-walk rest d p))

pub classes-lines : (f : Forest) → IsSound f → classes_of (lines 1 f) ≡ classes_below [] f
classes-lines f sound = ap class_paths (located-lines f sound) ∙ classes-walk f 1 []

-- ---- one forest behind another

pub classes-append : (p : Tokens) (f g : Forest) → classes_below p (append f g) ≡ classes_below p f ++ classes_below p g
classes-append p end g = refl
classes-append p (leaf i rest) g = classes-append p rest g
classes-append p (branch n o kids rest) g = grind (arith, append_assoc, (classes-append p rest g))
