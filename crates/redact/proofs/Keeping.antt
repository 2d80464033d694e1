-- The kept outline is what the pass keeps, with the members of labels put in among its lines and among its members.
use Rattle.std.proofs.Common.{◌≡◌, ℕ, suc, ◌<◌, Bool, true, false, List, [], ◌∷◌, ◌++◌, refl, ◌∙◌, ap, append_assoc, arith, if◌then◌else◌, ◌&&◌, ◌||◌, ◌==◌}
use Rattle.std.proofs.{Common.{nat_lt, lt-ltb, not, sym, subst, filter, Option, is_some}, lemmas.Bool.{or_left, cond-true, false≢true, cond-false}}
use Rattle.{std.{proofs.lemmas.List.Folds.list_any-append, specs.List.list_any}, iodef_tree.specs.{Paths.{LocatedLine, is_class}, Text.{bytes_lt, Bytes}}}
use Rattle.iodef_tree.specs.{Text.{Tokens, is_root}, Tree.{Leaf, Forest, end, leaf, branch, leaf_line, class_line, lines, steps}, Walk.{walk, leaf_entry}}
use Rattle.{iodef_tree.specs.{Walk.class_entry, declared.line.Line.Line}, marking.proofs.{Bad.no_class-kind, Marked.not_root}, redact.proofs.Fates.by_verdict}
use Rattle.redact.specs.Kept.{Attribute, stands_before, put, put_all, attribute_line, attribute_lines, Verdicts, is_visible_class, is_kept, added_label_lines}
use Rattle.redact.specs.{Kept.{with_added_labels, kept_lines}, inner.Judged.{put_leaf, attribute_leaf, put_attributes, judge, inside, keeps_plain, shows_label}}
use Rattle.redact.specs.inner.Judged.{home_at, left_before, new_place, left_with, moved, is_end, cut}

-- ---- attributes put in among lines

-- the first line is less deep than d, or there is none
abbrev pub IsShallow : ℕ → List Line → Type 0
IsShallow d [] = Unit {0}
IsShallow d (l ∷ ls) = l.depth < d

put-first : (x : Line) (ys : List Line) → IsShallow x.depth ys → put x ys ≡ x ∷ ys
put-first x [] h = refl
put-first x (y ∷ ys) h = cond-true (stands_before x y) _ _ (or_left (nat_lt y.depth x.depth) _ (lt-ltb y.depth x.depth h))

after_same : (d : ℕ) (b : Bool) → (nat_lt d d || ((d == d) && b)) ≡ b
after_same d b = grind arith

deeper : (n d : ℕ) (b : Bool) → d < n → (nat_lt n d || ((n == d) && b)) ≡ false
deeper n d b h = grind arith

-- a member of depth d goes past deeper lines
put-skip : (x : Line) (f : Forest) (n : ℕ) (ys : List Line) → x.depth < n → put x (lines n f ++ ys) ≡ lines n f ++ put x ys
put-skip x end n ys h = refl
put-skip x (leaf i rest) n ys h = rw (deeper n x.depth (bytes_lt x.name i.name) h, put-skip x rest n ys h)
put-skip x (branch name place kids rest) n ys h =
    rw (deeper n x.depth (bytes_lt x.name name) h, append_assoc (lines (suc n) kids) (lines n rest) ys, append_assoc (lines (suc n) kids) (lines n rest) (put x ys))
    (rw (put-skip x kids (suc n) (lines n rest ++ ys) (omega arith), put-skip x rest n ys h))

-- lines with one in front, or without
in_front-lines : (b : Bool) (d : ℕ) (x : Leaf) (f g : Forest) (ys : List Line) → (if b then leaf_line d x ∷ (lines d f ++ ys) else lines d g ++ ys) ≡ lines d (if b then leaf x f else g) ++ ys
in_front-lines true d x f g ys = refl
in_front-lines false d x f g ys = refl

-- A member put in among the lines of a class, and of what comes behind it, is put in among its members.
put-lines : (d : ℕ) (x : Leaf) (f : Forest) (ys : List Line) → IsShallow d ys → put (leaf_line d x) (lines d f ++ ys) ≡ lines d (put_leaf x f) ++ ys
put-lines d x end ys h = put-first (leaf_line d x) ys h
put-lines d x (leaf i rest) ys h =
    rw (after_same d (bytes_lt x.name i.name), put-lines d x rest ys h) (in_front-lines (bytes_lt x.name i.name) d x (leaf i rest) (leaf i (put_leaf x rest)) ys)
put-lines d x (branch name place kids rest) ys h =
    let K = lines (suc d) kids in
    let past : put (leaf_line d x) ((K ++ lines d rest) ++ ys) ≡ (K ++ lines d (put_leaf x rest)) ++ ys =
    rw (append_assoc, append_assoc K (lines d (put_leaf x rest)) ys, put-skip (leaf_line d x) kids (suc d) (lines d rest ++ ys) (omega arith), put-lines d x rest ys h) in
    rw (after_same d (bytes_lt x.name name), past) (in_front-lines (bytes_lt x.name name) d x (branch name place kids rest) (branch name place kids (put_leaf x rest)) ys)

attributes-lines : (d : ℕ) (label : List Attribute) (f : Forest) (ys : List Line) → IsShallow d ys → put_all (attribute_lines d label) (lines d f ++ ys) ≡ lines d (put_attributes label f) ++ ys
attributes-lines d [] f ys h = refl
attributes-lines d (a ∷ label) f ys h = ap (put (attribute_line d a)) (attributes-lines d label f ys h) ∙ put-lines d (attribute_leaf a) (put_attributes label f) ys h

-- a label that a class says is put into the lines of that class only
pub label-lines : (says : Bool) (d : ℕ) (label : List Attribute) (f : Forest) (ys : List Line) → IsShallow d ys →
    put_all (if says then attribute_lines d label else []) (lines d f ++ ys) ≡ lines d (if says then put_attributes label f else f) ++ ys
label-lines true d label f ys h = attributes-lines d label f ys h
label-lines false d label f ys h = refl

-- ---- lines that are kept

in_array-kept : (n : ℕ) (place : Option ℕ) → is_some (new_place n place) ≡ is_some place
in_array-kept n place = grind arith

pub leaf_line-moved : (d n : ℕ) (i : Leaf) → leaf_line d (moved n i) ≡ leaf_line d i
leaf_line-moved d n i = rw (in_array-kept n i.place)

pub class_line-moved : (d n : ℕ) (name : Bytes) (place : Option ℕ) → class_line d name (new_place n place) ≡ class_line d name place
class_line-moved d n name place = rw (in_array-kept n place)

lines-shallow : (f : Forest) (d : ℕ) (ls : List Line) → IsShallow d ls → IsShallow (suc d) (lines d f ++ ls)
lines-shallow end d [] h = tt
lines-shallow end d (l ∷ ls) h = omega arith
lines-shallow _ d ls h = omega arith

module _ (v : Verdicts) where
  -- a line of a visible class
  abbrev pub is_seen : LocatedLine → Bool
  is_seen e = is_class e && v.visible e.path

  -- some class of the list is visible
  abbrev pub any_seen : List LocatedLine → Bool
  any_seen es = list_any is_seen es

  -- what is decided of each class says whether a visible one is below it
  abbrev pub SaysBelow : ℕ → Tokens → Forest → Type 0
  SaysBelow d p end = Unit {0}
  SaysBelow d p (leaf i rest) = SaysBelow d p rest
  SaysBelow d p (branch name place kids rest) =
      let q = p ++ steps name place in
      (v.holds_visible q ≡ any_seen (walk (suc d) q kids)) × SaysBelow (suc d) q kids × SaysBelow d p rest

  pub home-class : (p : Tokens) (name : Bytes) (place : Option ℕ) → home_at v (p ++ steps name place) ≡ inside (v.visible (p ++ steps name place))
  home-class p name place = cond-false (is_root (p ++ steps name place)) _ _ (not_root p name place)

  pub keeps-home : (p : Tokens) → (is_root p || v.visible p) ≡ keeps_plain (home_at v p)
  keeps-home [] = refl
  keeps-home (x ∷ p) = refl

  pub shows-home : (p : Tokens) → is_visible_class v p ≡ shows_label (home_at v p)
  shows-home [] = refl
  shows-home (x ∷ p) = refl

  -- nothing is kept below a class that isn't visible exactly if no visible class is below it
  pub ends : (f : Forest) (d : ℕ) (p : Tokens) (n : ℕ) → is_end (cut (inside false) n (judge v p f)) ≡ not (any_seen (walk d p f))
  ends end d p n = refl
  ends (leaf i rest) d p n = rw (no_class-kind i.content) (ends rest d p (left_before n i.place))
  ends (branch name place kids rest) d p n =
      let q = p ++ steps name place in
      let K = walk (suc d) q kids in
      let R = walk d p rest in
      ends-class (v.visible q) (is_end (cut (inside false) 0 (judge v q kids))) (any_seen K) (any_seen R) _ _ _ refl refl (ends kids (suc d) q 0) (ends rest d p (left_before n place))
      ∙ ap (λ b. not (v.visible q || b)) (sym (list_any-append is_seen K R))
    where
      ends-class : (visible ended below behind : Bool) (shown framed gone : Forest) → is_end shown ≡ false → is_end framed ≡ false → ended ≡ not below → is_end gone ≡ not behind →
          is_end (if visible then shown else (if ended then gone else framed)) ≡ not (visible || (below || behind))
      ends-class visible ended below behind shown framed gone s f e g = grind arith

end-lines : (d : ℕ) (f : Forest) → is_end f ≡ true → lines d f ≡ []
end-lines d end h = refl
end-lines d _ h = absurd (false≢true h)

module _ (v : Verdicts) where
  kept-next : (e : LocatedLine) (es : List LocatedLine) → kept_lines v (e ∷ es) ≡ (if is_kept v e then e.line ∷ put_all (added_label_lines v e) (kept_lines v es) else kept_lines v es)
  kept-next e es =
      elim (is_kept v e) as (λ b. with_added_labels v (if b then e ∷ filter (is_kept v) es else filter (is_kept v) es)
      ≡ (if b then e.line ∷ put_all (added_label_lines v e) (kept_lines v es) else kept_lines v es)) [ true ↦ refl | false ↦ refl ]

  pub kept-cut : (f : Forest) (d : ℕ) (p : Tokens) (n : ℕ) (es : List LocatedLine) → SaysBelow v d p f → IsShallow d (kept_lines v es) →
      kept_lines v (walk d p f ++ es) ≡ lines d (cut (home_at v p) n (judge v p f)) ++ kept_lines v es
  kept-cut end d p n es says shallow = refl
  kept-cut (leaf i rest) d p n es says shallow =
      let h = home_at v p in
      let W = kept_lines v (walk d p rest ++ es) in
      let J = judge v p rest in
      kept-next (leaf_entry d p i) (walk d p rest ++ es)
      ∙ rw (no_class-kind i.content, keeps-home v p)
      (elim (keeps_plain h) as (λ b. (if b then leaf_line d i ∷ W else W) ≡ lines d (if b then leaf (moved n i) (cut h (left_with n i.place) J) else cut h (left_before n i.place) J) ++ kept_lines v es) [
        | true ↦ rw (leaf_line-moved d n i, kept-cut rest d p (left_with n i.place) es says shallow)
        | false ↦ kept-cut rest d p (left_before n i.place) es says shallow
      ])
  kept-cut (branch name place kids rest) d p n es says shallow =
      let q = p ++ steps name place in
      let h = home_at v p in
      let K = walk (suc d) q kids in
      let R = walk d p rest in
      let E = kept_lines v es in
      let X = kept_lines v ((K ++ R) ++ es) in
      let inner = λ (b : Bool). cut (inside b) 0 (judge v q kids) in
      let behind = λ (m : ℕ). cut h m (judge v p rest) in
      let own = v.unmarked q && not (shows_label h) in
      let line = class_line d name place in
      let all : (m : ℕ) → X ≡ lines (suc d) (inner (v.visible q)) ++ (lines d (behind m) ++ E) = λ m.
      let after : kept_lines v (R ++ es) ≡ lines d (behind m) ++ E = kept-cut rest d p m es says.2 shallow in
      rw (append_assoc K R es, kept-cut kids (suc d) q 0 (R ++ es) says.1 (subst (IsShallow (suc d)) (sym after) (lines-shallow (behind m) d E shallow)), after, home-class v p name place) in
      kept-next (class_entry d p name place) ((K ++ R) ++ es)
      ∙ rw (shows-home v p)
      (by_verdict (λ visible holds ended. is_end (inner false) ≡ ended → ((m : ℕ) → X ≡ lines (suc d) (inner visible) ++ (lines d (behind m) ++ E)) →
      (if visible || (not visible && holds) then line ∷ put_all (if visible && own then attribute_lines (suc d) (v.label q) else []) X else X)
      ≡ lines d (if visible then branch name (new_place n place) (if own then put_attributes (v.label q) (inner true) else inner true) (behind (left_with n place))
      else (if ended then behind (left_before n place) else branch name (new_place n place) (inner false) (behind (left_with n place)))) ++ E)
      (v.visible q) (v.holds_visible q) (is_end (inner false)) (λ hidden. ends v kids (suc d) q 0 ∙ ap not (sym says.0))
      (λ holds ended _ left. rw (left (left_with n place), class_line-moved d n name place, append_assoc)
      (ap (λ ls. line ∷ ls) (label-lines own (suc d) (v.label q) (inner true) _ (lines-shallow (behind (left_with n place)) d E shallow))))
      (λ _ left. rw (left (left_with n place), class_line-moved d n name place, append_assoc))
      (λ none left. rw (left (left_before n place), end-lines (suc d) (inner false) none))
      refl all)
