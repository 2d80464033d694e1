-- What is kept of a document says what its lines say.
use Rattle.std.proofs.Common.{arith, ◌≡◌, ℕ, List, [], ◌∷◌, Bool, true, false, cond, not, ◌||◌, ◌==◌, length, map, replicate, filter, refl, sym, ◌∙◌, subst}
use Rattle.{std.specs.List.list_any, iodef_tree.specs.{Paths.{LocatedLine, is_class, class_paths, located}, declared.line.Line.Line}}
use Rattle.{marking.specs.Marks.label_at, sketch.{proofs.Sets.bits-put, specs.{Bits.AreBitsOf, Labels.{fixed_handling, handlings, has_some_class}}}}
use Rattle.sketch.specs.inner.Puts.{put_all}

-- whether a list has an element
abbrev pub has_some : {X : Type 0} → List X → Bool
has_some [] = false
has_some (x ∷ xs) = true

some-map : {X Y : Type 0} (f : X → Y) (xs : List X) → has_some (map f xs) ≡ has_some xs
some-map f [] = refl
some-map f (x ∷ xs) = refl

some-filter : {X : Type 0} (T : X → Bool) (xs : List X) → has_some (filter T xs) ≡ list_any T xs
some-filter T [] = refl
some-filter {X} T (x ∷ xs) = step (T x) (some-filter T xs)
  where
    step : (b : Bool) → has_some (filter T xs) ≡ list_any T xs → has_some (cond b (x ∷ filter T xs) (filter T xs)) ≡ (b || list_any T xs)
    step true later = refl
    step false later = later

-- there is a handling exactly if there is a class
pub some-handling : (ls : List Line) → has_some (handlings ls) ≡ has_some_class ls
some-handling ls =
    let es = located ls in
    some-map (λ p. fixed_handling (label_at es p)) (class_paths es) ∙ some-map (λ (e : LocatedLine). e.path) (filter is_class es) ∙ some-filter is_class es

pub bits-of : (bits ns : List ℕ) (size : ℕ) {ms : List ℕ} → bits ≡ put_all (replicate size 0) ns → ns ≡ ms → AreBitsOf bits ms
bits-of bits ns size is same = subst (AreBitsOf bits) same (subst (λ bs. AreBitsOf bs ns) (sym is) (bits-put size ns))

pub not-empty : {X : Type 0} (xs : List X) → not (length xs == 0) ≡ has_some xs
not-empty [] = refl
not-empty (x ∷ xs) = grind arith
