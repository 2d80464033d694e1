-- Outlines that grow by one line at a time.
use Rattle.std.proofs.Common.{◌≡◌, ℕ, suc, ◌+◌, ◌-◌, ◌<◌, ◌≤◌, Bool, true, false, ◌&&◌, List, [], ◌∷◌, ◌++◌, length, take, drop, drop-cons, get_or, refl, sym}
use Rattle.std.proofs.{Common.{◌∙◌, ap, arith, if◌then◌else◌, ◌==◌, Some, None, nat_lt, nat_le, slice_get}, Math.Bool.{and-true, and_assoc, and_comm}}
use Rattle.std.proofs.lemmas.Bool.{cond-true, cond-false, ne_eqb, eq-eqb, lt-ltb, le-ltb, cases_lt, and_parts, and_right, leb-true, ltb-true}
use Rattle.std.proofs.lemmas.{Grind.common_steps, List.{take_more, take-append-drop, Sums.sum_by-cons}, Option.{cond_some, slice_get_past}}
use Rattle.iodef_tree.specs.Outline.{sibling, deepest, last_sibling, may_follow, is_sound_line, is_short, may_come, is_outline_after, is_outline}
use Rattle.iodef_tree.specs.{Outline.{is_outline_back, edge, back_onto, back}, Shown.{counted_with, if_short, fits_edge, Shows}, Sound.counted}
use Rattle.iodef_tree.specs.declared.{TheConstants.LINE_LIMIT, line.Line.Line, shape.Shape.Shape}

-- ---- lists of lines, appended and reversed

pub outline_after-append : (xs ys before : List Line) →
    is_outline_after before (xs ++ ys) ≡ (is_outline_after before xs && is_outline_after (back_onto xs before) ys)
outline_after-append [] ys before = refl
outline_after-append (x ∷ xs) ys before = ap (λ b. may_come before x && b) (outline_after-append xs ys (x ∷ before)) ∙ sym (and_assoc (may_come before x) _ _)

pub back_onto-append : (xs ys zs : List Line) → back_onto (xs ++ ys) zs ≡ back_onto ys (back_onto xs zs)
back_onto-append [] ys zs = refl
back_onto-append (x ∷ xs) ys zs = back_onto-append xs ys (x ∷ zs)

-- the newest line is the last
pub back-push : (ls : List Line) (l : Line) → back (ls ++ l ∷ []) ≡ l ∷ back ls
back-push ls l = back_onto-append ls (l ∷ []) []

back_is : (ls before : List Line) → is_outline_back (back_onto ls before) ≡ (is_outline_after before ls && is_outline_back before)
back_is [] before = refl
back_is (x ∷ ls) before = grind (arith, and_assoc, and_comm, (back_is ls (x ∷ before)))

-- the same lists are outlines from the newest line back
pub outline-back : (ls : List Line) → is_outline_back (back ls) ≡ is_outline ls
outline-back ls = back_is ls [] ∙ and-true (is_outline ls)

-- the lines up to one
pub upto : (ls : List Line) (i : ℕ) (x : Line) → i < length ls → x ≡ get_or ls i x → take (i + 1) ls ≡ take i ls ++ x ∷ []
upto ls i x h e = take_more ls i x h ∙ ap (λ y. take i ls ++ y ∷ []) (sym e)

pub back-upto : (ls : List Line) (i : ℕ) (x : Line) → i < length ls → x ≡ get_or ls i x → back (take (i + 1) ls) ≡ x ∷ back (take i ls)
back-upto ls i x h e = ap back (upto ls i x h e) ∙ back-push (take i ls) x

-- no lines behind one that may not come make an outline
pub no-outline : (ls : List Line) (i : ℕ) (x : Line) → i < length ls → x ≡ get_or ls i x → may_come (back (take i ls)) x ≡ false → is_outline ls ≡ false
no-outline ls i x h e bad =
    let A = take i ls in
    let D = drop (suc i) ls in
    let whole : ls ≡ A ++ x ∷ D = sym (take-append-drop i ls) ∙ ap (λ zs. A ++ zs) (drop-cons ls i x h ∙ ap (λ y. y ∷ D) (sym e)) in
    ap is_outline whole
    ∙ outline_after-append A (x ∷ D) []
    ∙ ap (λ b. is_outline A && (b && is_outline_after (x ∷ back A) D)) bad
    ∙ and_right (is_outline A) false refl

-- ---- lines and a depth

-- the two tests of a line: whether it is less deep, and whether it is as deep
pub above-line : {A : Type 0} (n d : ℕ) (x y z : A) → n < d → (if nat_lt n d then x else (if n == d then y else z)) ≡ x
above-line n d x y z h = cond-true (nat_lt n d) _ _ (lt-ltb n d h)

pub at-line : {A : Type 0} (n d : ℕ) (x y z : A) → n ≡ d → (if nat_lt n d then x else (if n == d then y else z)) ≡ y
at-line n d x y z e = cond-false (nat_lt n d) _ _ (le-ltb n d (omega (arith, e))) ∙ cond-true (n == d) _ _ (eq-eqb n d e)

pub past-line : {A : Type 0} (n d : ℕ) (x y z : A) → d < n → (if nat_lt n d then x else (if n == d then y else z)) ≡ z
past-line n d x y z h = cond-false (nat_lt n d) _ _ (le-ltb n d (omega (arith, h))) ∙ cond-false (n == d) _ _ (ne_eqb n d (λ e. omega (arith, h, e)))

-- ---- the newest line of each open depth

get_kept : {A : Type 0} (e : ℕ) (E : List A) (n : A) (d : ℕ) → e ≤ length E → d < e → slice_get (take e E ++ n ∷ []) d ≡ slice_get E d
get_kept (suc e) (x ∷ E) n (suc d) h l = get_kept e E n d (omega (arith, h)) (omega (arith, l))
get_kept e E n d h l = grind arith

get_new : {A : Type 0} (e : ℕ) (E : List A) (n : A) → e ≤ length E → slice_get (take e E ++ n ∷ []) e ≡ Some n
get_new (suc e) (x ∷ E) n h = get_new e E n (omega (arith, h))
get_new e E n h = grind arith

length_new : {A : Type 0} (e : ℕ) (E : List A) (n : A) → e ≤ length E → length (take e E ++ n ∷ []) ≡ suc e
length_new e E n h = grind (arith, common_steps)

get_past : {A : Type 0} (e : ℕ) (E : List A) (n : A) → e ≤ length E → slice_get (take e E ++ n ∷ []) (suc e) ≡ None
get_past e E n h = let long = length_new e E n h in slice_get_past (take e E ++ n ∷ []) (suc e) (omega (arith, long))

-- what the open lines say of all lines
pub record Known (before : List Line) : Type 0 where
  pub size : deepest before ≤ suc (length (edge before))
  pub at : (d : ℕ) → suc d ≤ deepest before → slice_get (edge before) d ≡ last_sibling (suc d) before

deep_le : (b : Bool) (n m : ℕ) → n ≤ m → (if b then suc n else n) ≤ suc m
deep_le b n m h = grind arith

known_more : (x : Line) (before : List Line) → 0 < x.depth → x.depth ≤ deepest before → Known before → Known (x ∷ before)
known_more x before positive reached k = grind (arith, common_steps, above-line, at-line, cases_lt, deep_le, get_kept, get_new, get_past, length_new, past-line)

-- what is known of a line that may come
pub record Came (before : List Line) (l : Line) : Type 0 where
  pub positive : 0 < l.depth
  pub reached : l.depth ≤ deepest before
  pub follows : may_follow (last_sibling l.depth before) (sibling l) ≡ true
  pub sound : is_sound_line l ≡ true
  pub short : is_short (l ∷ before) ≡ true

pub came : (before : List Line) (l : Line) → may_come before l ≡ true → Came before l
came before l h = grind (arith, and_parts, leb-true, ltb-true)

pub known : (before : List Line) → is_outline_back before ≡ true → Known before
known [] h = record { size = omega arith; at = λ d k. refl }
known (x ∷ before) h =
    let parts = and_parts (may_come before x) (is_outline_back before) h in
    let k = came before x parts.0 in
    known_more x before k.positive k.reached (known before parts.1)

-- ---- the checker

guarded : (a b f g s : Bool) → (a ≡ true → b ≡ true → f ≡ g) → (a && (b && (f && s))) ≡ (a && (b && (g && s)))
guarded a b f g s h = grind arith

pub counted-cons : (l : Line) (ls : List Line) → counted (l ∷ ls) ≡ counted_with l (counted ls)
counted-cons l ls = grind (arith, common_steps, sum_by-cons)

short_else : (n : ℕ) → if_short n ≡ None → nat_le n LINE_LIMIT ≡ false
short_else n h = grind arith

-- no line may come if too many would count
pub too_many : (s : Shape) (before : List Line) (l : Line) → Shows s before → if_short (counted_with l s.counted) ≡ None → may_come before l ≡ false
too_many s before l shows h =
    ap (λ b. b && (nat_lt 0 l.depth && (nat_le l.depth (deepest before) && (may_follow (last_sibling l.depth before) (sibling l) && is_sound_line l)))) (ap (λ n. nat_le n LINE_LIMIT) (counted-cons l before) ∙ short_else (counted_with l (counted before)) (sym (ap (λ n. if_short (counted_with l n)) shows.count) ∙ h))

-- the test by the open lines is the test by all lines
pub fits_is : (s : Shape) (before : List Line) (l : Line) (n : ℕ) → Shows s before → if_short (counted_with l s.counted) ≡ Some n →
    fits_edge s.last.items s.deepest l ≡ may_come before l
fits_is s before l n shows few =
    ap (λ e. fits_edge e s.deepest l) shows.edges
    ∙ ap (λ m. fits_edge (edge before) m l) shows.depth
    ∙ sym (ap (λ b. b && fits_edge (edge before) (deepest before) l) (ap (λ m. nat_le m LINE_LIMIT) (counted-cons l before) ∙ (cond_some (nat_le (counted_with l (counted before)) LINE_LIMIT) (counted_with l (counted before)) n (sym (ap (λ m. if_short (counted_with l m)) shows.count) ∙ few)).0))
    ∙ ap (λ b. is_short (l ∷ before) && b) (guarded (nat_lt 0 l.depth) (nat_le l.depth (deepest before)) _ _ (is_sound_line l) (λ a b.
    let positive = ltb-true 0 l.depth a in
    let reached = leb-true l.depth (deepest before) b in
    let upward : suc (l.depth - 1) ≡ l.depth = omega (arith, positive) in
    ap (λ o. may_follow o (sibling l)) ((known before shows.outline).at (l.depth - 1) (omega (arith, positive, reached)) ∙ ap (λ d. last_sibling d before) upward)))

-- one line more
pub shows_more : (s t : Shape) (before : List Line) (l : Line) → Shows s before → may_come before l ≡ true →
    t.last.items ≡ take (l.depth - 1) s.last.items ++ sibling l ∷ [] → t.deepest ≡ deepest (l ∷ []) → if_short (counted_with l s.counted) ≡ Some t.counted →
    Shows t (l ∷ before)
shows_more s t before l shows fits edges depth count =
    record {
      edges = edges ∙ ap (λ e. take (l.depth - 1) e ++ sibling l ∷ []) shows.edges;
      depth = depth;
      count = sym (cond_some (nat_le (counted_with l s.counted) LINE_LIMIT) (counted_with l s.counted) t.counted count).1 ∙ ap (counted_with l) shows.count ∙ sym (counted-cons l before);
      outline = ap (λ b. b && is_outline_back before) fits ∙ shows.outline;
    }
