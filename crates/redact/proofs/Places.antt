-- The places of the kept classes of a document in its excerpt.
use Rattle.std.proofs.Common.{◌≡◌, ℕ, suc, Bool, true, false, not, List, [], ◌∷◌, ◌++◌, refl, sym, ◌∙◌, ap, subst, map, filter, if◌then◌else◌, ◌&&◌, ◌||◌, Some}
use Rattle.std.proofs.{Common.{zip, append-nil}, lemmas.{Bool.{false≢true, cond-true, cond-false, cond_both}, List.{map-append, Elements.filter-append}}}
use Rattle.{std.specs.List.{AllByRecursion, IsDistinct}, iodef_tree.proofs.{ClassesBelow.classes-lines, Distinct.{paths-distinct, distinct-filter}}}
use Rattle.iodef_tree.{proofs.{Located.located-lines, Order.same_path-refl, Siblings.all-append}, specs.Paths.{LocatedLine, is_class, class_paths}}
use Rattle.iodef_tree.specs.{Sound.IsSound, Text.{Tokens, same_path, is_root}, Tree.{Leaf, Forest, end, leaf, branch, steps, lines}, Walk.{classes_below, walk}}
use Rattle.{iodef_tree.specs.Walk.{leaf_entry, class_entry}, marking.proofs.{Bad.{no_class-kind, class_paths-leaf, class_paths-append}, Marked.not_root}}
use Rattle.redact.{proofs.{Fates.{by_fate, by_fates, by_verdict, put-keeps}, Keeping.{home-class, SaysBelow, ends, kept-cut}}, specs.Kept.{Attribute, Verdicts}}
use Rattle.redact.specs.{Kept.{is_kept, kept_lines}, inner.Judged.{Judged, none, plain, class, judge, Surrounding, root, inside, keeps_plain, shows_label}}
use Rattle.redact.specs.inner.Judged.{home_at, left_before, new_place, left_with, moved, is_end, put_leaf, attribute_leaf, put_attributes, with_label, cut}
use Rattle.redact.specs.inner.{Judged.places, Paired.{beside, class_places, place_by}}

abbrev here : Tokens × Tokens → Tokens
here x = x.0

abbrev there : Tokens × Tokens → Tokens
there x = x.1

-- ---- in the excerpt

-- members of a label bring no class
paths-put : (x : Leaf) (q : Tokens) (f : Forest) → classes_below q (put_leaf x f) ≡ classes_below q f
paths-put x q = put-keeps (λ f g. classes_below q g ≡ classes_below q f) x
    (λ f. refl) (λ i f g h. h) (λ name place kids f g h. let r = q ++ steps name place in ap (λ ps. r ∷ (classes_below r kids ++ ps)) h)

paths-label : (says : Bool) (label : List Attribute) (f : Forest) (q : Tokens) → classes_below q (if says then put_attributes label f else f) ≡ classes_below q f
paths-label false label f q = refl
paths-label true [] f q = refl
paths-label true (a ∷ label) f q = paths-put (attribute_leaf a) q (put_attributes label f) ∙ paths-label true label f q

-- the classes of the excerpt are at the places
pub paths-cut : (J : Judged) (h : Surrounding) (p q : Tokens) (n : ℕ) → classes_below q (cut h n J) ≡ map there (places h p q n J)
paths-cut none h p q n = refl
paths-cut (plain i rest) h p q n =
    elim (keeps_plain h) as (λ b. classes_below q (if b then leaf (moved n i) (cut h (left_with n i.place) rest) else cut h (left_before n i.place) rest)
    ≡ map there (places h p q (if b then left_with n i.place else left_before n i.place) rest)) [
      | true ↦ paths-cut rest h p q (left_with n i.place)
      | false ↦ paths-cut rest h p q (left_before n i.place)
    ]
paths-cut (class name place j kids rest) h p q n =
    let p' = p ++ steps name place in
    let r = q ++ steps name (new_place n place) in
    let K = λ (b : Bool). cut (inside b) 0 kids in
    let PK = λ (b : Bool). places (inside b) p' r 0 kids in
    let R = places h p q (left_with n place) rest in
    let W = classes_below q (cut h (left_with n place) rest) in
    let left : (b : Bool) (inner : Forest) → classes_below r inner ≡ map there (PK b) → r ∷ (classes_below r inner ++ W) ≡ r ∷ map there (PK b ++ R) = λ b inner below.
    rw (below, paths-cut rest h p q (left_with n place), map-append there (PK b) R) in
    by_fates (λ f ps. classes_below q f ≡ map there ps) j.visible (is_end (K false)) _ _ _ _ _ _
    (λ _. left true (with_label h j (K true)) (paths-label (j.unmarked && not (shows_label h)) j.label (K true) r ∙ paths-cut kids (inside true) p' r 0))
    (λ _. left false (K false) (paths-cut kids (inside false) p' r 0))
    (λ _ _. paths-cut rest h p q (left_before n place))

-- ---- in the document

-- if nothing is kept, nothing has a place
places-end : (J : Judged) (p q : Tokens) (n : ℕ) → is_end (cut (inside false) n J) ≡ true → places (inside false) p q n J ≡ []
places-end none p q n h = refl
places-end (plain i rest) p q n h = places-end rest p q (left_before n i.place) h
places-end (class name place j kids rest) p q n h =
    by_fates (λ f ps. is_end f ≡ true → ps ≡ []) j.visible (is_end (cut (inside false) 0 kids)) _ _ _ _ _ _
    (λ _ e. absurd (false≢true e)) (λ _ e. absurd (false≢true e)) (λ _ _. places-end rest p q (left_before n place)) h

-- no class is at the root's path
places-deep : (J : Judged) (h : Surrounding) (p q : Tokens) (n : ℕ) → AllByRecursion (λ x. is_root (here x) ≡ false) (places h p q n J)
places-deep none h p q n = tt
places-deep (plain i rest) h p q n = places-deep rest h p q (if keeps_plain h then left_with n i.place else left_before n i.place)
places-deep (class name place j kids rest) h p q n =
    let p' = p ++ steps name place in
    let r = q ++ steps name (new_place n place) in
    let Deep = AllByRecursion (λ (x : Tokens × Tokens). is_root (here x) ≡ false) in
    let left : (b : Bool) → Deep ((p', r) ∷ (places (inside b) p' r 0 kids ++ places h p q (left_with n place) rest)) = λ b.
    (not_root p name place, all-append (λ x. is_root (here x) ≡ false) (places (inside b) p' r 0 kids) _ (places-deep kids (inside b) p' r 0) (places-deep rest h p q (left_with n place))) in
    by_fate Deep j.visible (is_end (cut (inside false) 0 kids)) _ _ _ (left true) (left false) (places-deep rest h p q (left_before n place))

module _ (v : Verdicts) where
  -- the paths of the kept classes
  abbrev kept_paths : List LocatedLine → List Tokens
  kept_paths es = class_paths (filter (is_kept v) es)

  kept_paths-append : (xs ys : List LocatedLine) → kept_paths (xs ++ ys) ≡ kept_paths xs ++ kept_paths ys
  kept_paths-append xs ys = ap class_paths (filter-append (is_kept v) xs ys) ∙ class_paths-append (filter (is_kept v) xs) (filter (is_kept v) ys)

  -- the kept classes of the document have places
  pub paths-kept : (f : Forest) (d : ℕ) (p q : Tokens) (n : ℕ) → SaysBelow v d p f → kept_paths (walk d p f) ≡ map here (places (home_at v p) p q n (judge v p f))
  paths-kept end d p q n says = refl
  paths-kept (leaf i rest) d p q n says =
      let e = leaf_entry d p i in
      cond_both (is_kept v e) _ _ (λ es. class_paths es ≡ kept_paths (walk d p rest)) (λ _. class_paths-leaf (filter (is_kept v) (walk d p rest)) e (no_class-kind i.content)) (λ _. refl)
      ∙ paths-kept rest d p q (if keeps_plain (home_at v p) then left_with n i.place else left_before n i.place) says
  paths-kept (branch name place kids rest) d p q n says =
      let p' = p ++ steps name place in
      let r = q ++ steps name (new_place n place) in
      let K = walk (suc d) p' kids in
      let R = walk d p rest in
      let J = judge v p' kids in
      let PK = λ (b : Bool). places (inside b) p' r 0 J in
      let PB = λ (m : ℕ). places (home_at v p) p q m (judge v p rest) in
      let left : (b : Bool) → kept_paths K ≡ map here (PK b) → p' ∷ kept_paths (K ++ R) ≡ map here ((p', r) ∷ (PK b ++ PB (left_with n place))) = λ b kept.
      rw (kept_paths-append K R, kept, paths-kept rest d p q (left_with n place) says.2, map-append here (PK b) (PB (left_with n place))) in
      by_verdict (λ visible holds ended. kept_paths K ≡ map here (PK visible) → (ended ≡ true → PK false ≡ []) →
      class_paths (if visible || (not visible && holds) then class_entry d p name place ∷ filter (is_kept v) (K ++ R) else filter (is_kept v) (K ++ R)) ≡
      map here (if visible then (p', r) ∷ (PK true ++ PB (left_with n place)) else (if ended then PB (left_before n place) else (p', r) ∷ (PK false ++ PB (left_with n place)))))
      (v.visible p') (v.holds_visible p') (is_end (cut (inside false) 0 J)) (λ hidden. ends v kids (suc d) p' 0 ∙ ap not (sym says.0))
      (λ holds ended kept empty. left true kept) (λ kept empty. left false kept)
      (λ kept empty. rw (kept_paths-append K R, kept, empty refl, paths-kept rest d p q (left_before n place) says.2))
      (paths-kept kids (suc d) p' r 0 says.1 ∙ ap (λ h. map here (places h p' r 0 J)) (home-class v p name place)) (places-end J p' r 0)

-- ---- both

zip-both : (xs : List (Tokens × Tokens)) → zip (map here xs) (map there xs) ≡ xs
zip-both [] = refl
zip-both (x ∷ xs) = ap (λ ys. (x.0, x.1) ∷ ys) (zip-both xs)

-- in pairs of distinct paths, each path has its own place
beside-own : (xs : List (Tokens × Tokens)) → IsDistinct same_path (map here xs) → AllByRecursion (λ x. beside xs (here x) ≡ Some (there x)) xs
unfolding IsDistinct
beside-own [] h = tt
beside-own (x ∷ xs) h = (
  cond-true (same_path x.0 x.0) (Some x.1) (beside xs x.0) (same_path-refl x.0),
  past xs h.0 (beside-own xs h.1),
)
  where
    past : (ys : List (Tokens × Tokens)) → AllByRecursion (λ p. same_path x.0 p ≡ false) (map here ys) → AllByRecursion (λ y. beside xs (here y) ≡ Some (there y)) ys →
        AllByRecursion (λ y. beside (x ∷ xs) (here y) ≡ Some (there y)) ys
    past [] fresh all = tt
    past (y ∷ ys) fresh all = (cond-false (same_path x.0 y.0) (Some x.1) (beside xs y.0) fresh.0 ∙ all.0, past ys fresh.1 all.1)

place-own : (all xs : List (Tokens × Tokens)) → AllByRecursion (λ x. is_root (here x) ≡ false) xs → AllByRecursion (λ x. beside all (here x) ≡ Some (there x)) xs →
    AllByRecursion (λ x. place_by all (here x) ≡ Some (there x)) xs
place-own all [] deep own = tt
place-own all (x ∷ xs) deep own = (cond-false (is_root x.0) (Some []) (beside all x.0) deep.0 ∙ own.0, place-own all xs deep.1 own.1)

module _ (v : Verdicts) (f : Forest) (sound : IsSound f) (says : SaysBelow v 1 [] f) (left_sound : IsSound (cut root 0 (judge v [] f))) where
  abbrev all_places : List (Tokens × Tokens)
  all_places = places root [] [] 0 (judge v [] f)

  pub kept-lines : kept_lines v (walk 1 [] f) ≡ lines 1 (cut root 0 (judge v [] f))
  kept-lines =
      ap (kept_lines v) (sym (append-nil (walk 1 [] f))) ∙ kept-cut v f 1 [] 0 [] says tt ∙ append-nil (lines 1 (cut root 0 (judge v [] f)))

  -- the places of the pass are those of the kept outline
  pub class_places-pass : class_places v (walk 1 [] f) ≡ all_places
  class_places-pass =
      rw (paths-kept v f 1 [] [] 0 says, kept-lines, classes-lines (cut root 0 (judge v [] f)) left_sound, paths-cut (judge v [] f) root [] [] 0) (zip-both all_places)

  pub placed : AllByRecursion (λ x. place_by (class_places v (walk 1 [] f)) (here x) ≡ Some (there x)) all_places
  placed =
      subst (λ ps. AllByRecursion (λ x. place_by ps (here x) ≡ Some (there x)) all_places) (sym class_places-pass)
      (place-own all_places all_places (places-deep (judge v [] f) root [] [] 0)
      (beside-own all_places (subst (IsDistinct same_path) (paths-kept v f 1 [] [] 0 says)
      (distinct-filter is_class (filter (is_kept v) (walk 1 [] f)) (distinct-filter (is_kept v) (walk 1 [] f)
      (subst (λ es. IsDistinct same_path (map (λ (e : LocatedLine). e.path) es)) (located-lines f sound) (paths-distinct f sound)))))))
