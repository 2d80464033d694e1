-- The labels that a tree spells are those that its lines spell.
use Rattle.std.proofs.Common.{◌≡◌, ◌<◌, ℕ, suc, Bool, true, false, List, [], ◌∷◌, ◌++◌, refl, sym, ap, ◌∙◌, append_assoc, append-nil, arith, if◌then◌else◌}
use Rattle.{std.proofs.{Common.{Option, Some, None, is_some, codes, bytes_eq, unwrap_or}, lemmas.Grind.common_steps}, iodef_tree.proofs.Outlines.above-line}
use Rattle.iodef_tree.{proofs.Outlines.{at-line, past-line}, specs.{Paths.is_class_kind, Text.Bytes, Tree.{Content, Forest, end, leaf, branch, Body, holds}}}
use Rattle.iodef_tree.specs.{Tree.{says, Bodies, one, many, in_front, elements, member_front, lines, kind_of}, declared.line.Line.Line}
use Rattle.marking.specs.{Label.LabelValue, Marks.{absent, other, spelled_by}, Members.{held_in, held_by_leaf, spelled_in}, declared.label.Handling.Handling}
use Rattle.{marking.specs.declared.label.Handling.TheVariants.Red, redaction.specs.Highest.{held_behind, spelled_behind, with_label, strictest, highest}}
use Rattle.redaction.specs.inner.Labels.{strictest_in, strictest_at, strictest_among, strictest_of}

-- ---- what a class holds

-- the lines of a deeper class change nothing
skip : (f : Forest) (n d : ℕ) (name : Bytes) (X : List Line) → d < n → held_behind d name (lines n f ++ X) ≡ held_behind d name X
skip end n d name X h = refl
skip (leaf i rest) n d name X h = past-line n d _ _ _ h ∙ skip rest n d name X h
skip (branch m place kids rest) n d name X h =
    past-line n d _ _ _ h
    ∙ ap (held_behind d name) (append_assoc (lines (suc n) kids) (lines n rest) X)
    ∙ skip kids (suc n) d name (lines n rest ++ X) (omega (arith, h))
    ∙ skip rest n d name X h

-- the list begins less deep
abbrev pub Stops : ℕ → List Line → Type 0
Stops d [] = Unit {0}
Stops d (l ∷ ls) = l.depth < d

stops-none : (X : List Line) (d : ℕ) (name : Bytes) → Stops d X → held_behind d name X ≡ absent
stops-none [] d name h = refl
stops-none (l ∷ ls) d name h = above-line l.depth d _ _ _ h

stops-more : (X : List Line) (d : ℕ) → Stops d X → Stops (suc d) X
stops-more [] d h = tt
stops-more (l ∷ ls) d h = omega (arith, h)

stops-below : (f : Forest) (d : ℕ) (X : List Line) → Stops d X → Stops (suc d) (lines d f ++ X)
stops-below end d X h = stops-more X d h
stops-below (leaf i rest) d X h = omega arith
stops-below (branch n p kids rest) d X h = omega arith

other-class : (b : Bool) → (if b then other else other) ≡ other
other-class true = refl
other-class false = refl

held-lines : (f : Forest) (d : ℕ) (name : Bytes) (X : List Line) → Stops d X → held_behind d name (lines d f ++ X) ≡ held_in name f
held-lines end d name X h = stops-none X d name h
held-lines (leaf i rest) d name X h = at-line d d _ _ _ refl ∙ ap (λ x. if bytes_eq i.name name then held_by_leaf i else x) (held-lines rest d name X h)
held-lines (branch n place kids rest) d name X h =
    at-line d d _ _ _ refl
    ∙ ap (λ x. if bytes_eq n name then x else held_behind d name ((lines (suc d) kids ++ lines d rest) ++ X)) (other-class (is_some place))
    ∙ ap (λ x. if bytes_eq n name then other else x)
    (ap (held_behind d name) (append_assoc (lines (suc d) kids) (lines d rest) X) ∙ skip kids (suc d) d name (lines d rest ++ X) (omega arith) ∙ held-lines rest d name X h)

spelled-lines : (f : Forest) (d : ℕ) (X : List Line) → Stops d X → spelled_behind d (lines d f ++ X) ≡ spelled_in f
spelled-lines f d X h = λ i. spelled_by (held-lines f d (codes "restriction") X h i) (held-lines f d (codes "ext-restriction") X h i)

plain-line : (c : Content) (o : Option LabelValue) → (if is_class_kind (kind_of c) then o else None) ≡ None
plain-line c o = grind arith

-- ---- the strictest label

module _ (arranged : Option Handling) where
  pub strictest-lines : (f : Forest) (d : ℕ) (X : List Line) (before : Option Handling) → Stops d X → strictest arranged (lines d f ++ X) before ≡ strictest arranged X (strictest_in arranged f before)
  strictest-lines end d X before h = refl
  strictest-lines (leaf i rest) d X before h =
      ap (λ o. strictest arranged (lines d rest ++ X) (with_label arranged o before)) (plain-line i.content (spelled_behind (suc d) (lines d rest ++ X)))
      ∙ strictest-lines rest d X before h
  strictest-lines (branch name place kids rest) d X before h =
      let inner = lines (suc d) kids in
      let Y = lines d rest ++ X in
      let own = with_label arranged (spelled_in kids) before in
      let stops = stops-below rest d X h in
      ap (λ ls. strictest arranged ls (with_label arranged (spelled_behind (suc d) ls) before)) (append_assoc inner (lines d rest) X)
      ∙ ap (λ o. strictest arranged (inner ++ Y) (with_label arranged o before)) (spelled-lines kids (suc d) Y stops)
      ∙ strictest-lines kids (suc d) Y own stops
      ∙ strictest-lines rest d X (strictest_in arranged kids own) h

  pub highest-is : (f : Forest) (ls : List Line) → lines 1 f ≡ ls → unwrap_or (strictest_in arranged f None) Red ≡ highest arranged ls
  highest-is f ls same =
      sym (ap (λ xs. unwrap_or (strictest arranged xs None) Red) (sym (append-nil (lines 1 f))) ∙ ap (λ o. unwrap_or o Red) (strictest-lines f 1 [] None tt))
      ∙ ap (highest arranged) same

  -- ---- member by member

  one-front : (n : Bytes) (place : Option ℕ) (b : Body) (rest : Forest) (before : Option Handling) → strictest_in arranged (in_front n place b rest) before ≡ strictest_in arranged rest (strictest_at arranged b before)
  one-front n place (holds kids) rest before = refl
  one-front n place (says c) rest before = refl

  elements-front : (n : Bytes) (k : ℕ) (bs : List Body) (rest : Forest) (before : Option Handling) → strictest_in arranged (elements n k bs rest) before ≡ strictest_in arranged rest (strictest_among arranged bs before)
  elements-front n k [] rest before = refl
  elements-front n k (b ∷ bs) rest before = one-front n (Some k) b (elements n (suc k) bs rest) before ∙ elements-front n (suc k) bs rest (strictest_at arranged b before)

  pub strictest-front : (n : Bytes) (m : Bodies) (rest : Forest) (before : Option Handling) → strictest_in arranged (member_front n m rest) before ≡ strictest_in arranged rest (strictest_of arranged m before)
  strictest-front n (one b) rest before = one-front n None b rest before
  strictest-front n (many bs) rest before = elements-front n 0 bs rest before

-- the lemmas for the walk that looks for the strictest label
pub ruleset strictest_steps = (common_steps, strictest-front)
