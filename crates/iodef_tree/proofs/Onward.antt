-- The look-up from a class, or from the root, finds the class whose lines are below the whole path.
use Rattle.std.proofs.Common.{◌≡◌, List, [], ◌∷◌, ◌++◌, Bool, true, false, cond, ◌&&◌, ◌||◌, refl, sym, ◌∙◌, ap, subst, append-nil, true≢false, Bor, ℕ, suc}
use Rattle.std.proofs.{Common.{append_assoc, Option, Some, None, is_some, option_map, IfSome, arith}, lemmas.Bool.{and_right, cond-true, cond-false}}
use Rattle.{std.specs.Option.option_map_or, json_pointer.specs.Text.{Bytes, Tokens, same_path, is_root, is_under}, iodef_tree.proofs.Apart.sound-apart}
use Rattle.iodef_tree.proofs.{Blocks.{below-weaker, blocks-in, root-block}, ByPath.{has_class-walk, past-some}, Order.{is_false, is_under-steps}}
use Rattle.iodef_tree.{proofs.Order.same_path-true, specs.{Laws.{HasApart, StandsAt}, Paths.{LocatedLine, is_class, located, has_class, below}, Sound.IsSound}}
use Rattle.iodef_tree.specs.{Tree.{Forest, end, leaf, branch, steps, lines}, View.forest, Walk.AreBlocks, declared.object.Object.Object, inner.Lookup.past}
use Rattle.iodef_tree.specs.inner.Lookup.{class_at, object_at}

-- the class at a longer path is among the lines below the shorter one
pub has_class-below : (es : List LocatedLine) (p : Tokens) (x : Bytes) (z : Tokens) → has_class es (p ++ x ∷ z) ≡ has_class (below p es) (p ++ x ∷ z)
has_class-below [] p x z = refl
has_class-below (e ∷ es) p x z = by_cases (is_under p e.path) refl (has_class-below es p x z)
  where
    by_cases : (b : Bool) → is_under p e.path ≡ b → has_class es (p ++ x ∷ z) ≡ has_class (below p es) (p ++ x ∷ z) →
        ((is_class e && same_path e.path (p ++ x ∷ z)) || has_class es (p ++ x ∷ z)) ≡ has_class (cond (is_under p e.path) (e ∷ below p es) (below p es)) (p ++ x ∷ z)
    by_cases true u ih =
        ap (λ b. (is_class e && same_path e.path (p ++ x ∷ z)) || b) ih
        ∙ ap (λ l. has_class l (p ++ x ∷ z)) (sym (cond-true (is_under p e.path) (e ∷ below p es) (below p es) u))
    by_cases false u ih =
        let elsewhere : same_path e.path (p ++ x ∷ z) ≡ false =
        is_false (same_path e.path (p ++ x ∷ z)) (λ same. true≢false (sym (is_under-steps p x None z) ∙ ap (is_under p) (sym (same_path-true e.path (p ++ x ∷ z) same)) ∙ u)) in
        ap (λ b. b || has_class es (p ++ x ∷ z)) (and_right (is_class e) (same_path e.path (p ++ x ∷ z)) elsewhere)
        ∙ ih
        ∙ ap (λ l. has_class l (p ++ x ∷ z)) (sym (cond-false (is_under p e.path) (e ∷ below p es) (below p es) u))

found-at : (es : List LocatedLine) (p : Tokens) (f : Forest) (z : Tokens) → StandsAt es p f → is_some (object_at f z) ≡ (is_root z || has_class es (p ++ z))
found-at es p f z at = grind (arith, has_class-below, has_class-walk)

-- the siblings in the class that is found are apart too
class-stands : (f : Forest) (es : List LocatedLine) (d : ℕ) (q p : Tokens) (g : Forest) → AreBlocks es d q f → HasApart f → class_at f p ≡ Some g → StandsAt es (q ++ p) g
class-stands end es d q p g blocks apart e = absurd (cc)
class-stands (leaf i rest) es d q p g blocks apart e = step (past (steps i.name i.place) p) e (class-stands rest es d q p g blocks apart.1)
  where
    step : (o : Option Tokens) → option_map_or (λ r. None) o (class_at rest p) ≡ Some g → (class_at rest p ≡ Some g → StandsAt es (q ++ p) g) → StandsAt es (q ++ p) g
    step None h later = later h
    step (Some r) h later = absurd (cc)
class-stands (branch n o kids rest) es d q p g blocks apart e =
    step (past (steps n o) p) refl e (λ r h. class-stands kids es (suc d) (q ++ steps n o) r g blocks.1 apart.1 h) (class-stands rest es d q p g blocks.2 apart.2)
  where
    step : (o' : Option Tokens) → past (steps n o) p ≡ o' → option_map_or (λ r. cond (is_root r) (Some kids) (class_at kids r)) o' (class_at rest p) ≡ Some g →
        ((r : Tokens) → class_at kids r ≡ Some g → StandsAt es ((q ++ steps n o) ++ r) g) → (class_at rest p ≡ Some g → StandsAt es (q ++ p) g) → StandsAt es (q ++ p) g
    step None is h inner later = later h
    step (Some []) is h inner later =
        let same : kids ≡ g = cc in
        let at : q ++ steps n o ≡ q ++ p = ap (λ z. q ++ z) (sym (past-some (steps n o) p [] is ∙ append-nil (steps n o))) in
        subst (λ r. StandsAt es r g) at (subst (StandsAt es (q ++ steps n o)) same (record { block = (suc d, blocks.0); apart = apart.1 }))
    step (Some (x ∷ r)) is h inner later =
        let at : (q ++ steps n o) ++ (x ∷ r) ≡ q ++ p = append_assoc q (steps n o) (x ∷ r) ∙ ap (λ z. q ++ z) (sym (past-some (steps n o) p (x ∷ r) is)) in
        subst (λ z. StandsAt es z g) at (inner (x ∷ r) h)

stands-at : (es : List LocatedLine) (p : Tokens) (f : Forest) (z : Tokens) (g : Forest) → StandsAt es p f → object_at f z ≡ Some g → StandsAt es (p ++ z) g
stands-at es p f [] g at e =
    let same : f ≡ g = cc in
    subst (λ q. StandsAt es q g) (sym (append-nil p)) (subst (StandsAt es p) same at)
stands-at es p f (x ∷ z) g at e =
    let d = at.block.0 in
    let blocks : AreBlocks es d p f = blocks-in f d p es at.apart (λ n o is. below-weaker p (steps n o) es ∙ ap (below (p ++ steps n o)) at.block.1) in
    class-stands f es d p (x ∷ z) g blocks at.apart e

-- ---- as it is found

is_some-map : (r : Option (Bor Object)) → is_some r ≡ is_some (option_map (λ o. forest o.now) r)
is_some-map r = grind arith

pub found-onward : (f : Forest) (z : Tokens) (r : Option (Bor Object)) → option_map (λ o. forest o.now) r ≡ object_at f z →
    (es : List LocatedLine) (p : Tokens) → StandsAt es p f → is_some r ≡ (is_root z || has_class es (p ++ z))
found-onward f z r is es p at = is_some-map r ∙ ap is_some is ∙ found-at es p f z at

pub stands-onward : (f : Forest) (z : Tokens) (r : Option (Bor Object)) → option_map (λ o. forest o.now) r ≡ object_at f z →
    (es : List LocatedLine) (p : Tokens) → StandsAt es p f → IfSome r (λ o. StandsAt es (p ++ z) (forest o.now))
stands-onward f z None is es p at = tt
stands-onward f z (Some o) is es p at = stands-at es p f z (forest o.now) at (sym is)

-- the root of a document
pub root-stands : (f : Forest) → IsSound f → StandsAt (located (lines 1 f)) [] f
root-stands f sound = record { block = root-block f sound; apart = sound-apart f sound }
