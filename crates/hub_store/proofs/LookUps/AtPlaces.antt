-- Rows with the places 1, 2, 3 and so on, and the lines that they show.
use Rattle.std.proofs.{Common.{◌≡◌, ◌+◌, ℕ, suc, List, [], ◌∷◌, ◌++◌, map, length, refl, sym, ap, subst, ◌∙◌, arith}, lemmas.List.{map-append, length-append}}
use Rattle.{sqlite_value.specs.Order.Row, iodef_tree.specs.declared.line.Line.Line, hub_state.specs.Documents.Lines, hub_store.proofs.LookUps.Finding.all_are}
use Rattle.hub_store.{proofs.{LookUps.Finding.{first_are, shows_more}, Rows.Counting.{as_far, further}}, specs.Items.{placed_shown, placed_from}}
use Rattle.hub_store.specs.{declared.item_rows.PlacedLine.PlacedLine, inner.Shown.{IsShownBy, ShowsAll, ShowsPlaced}}

placed_then : (place : ℕ) (ls ms : Lines) → placed_from place (ls ++ ms) ≡ placed_from place ls ++ placed_from (place + length ls) ms
placed_then place [] ms = ap (λ k. placed_from k ms) (as_far place)
placed_then place (l ∷ ls) ms = ap (λ rest. record { place = place; line = l } ∷ rest) (placed_then (suc place) ls ms ∙ ap (λ k. placed_from (suc place) ls ++ placed_from k ms) (further place (length ls)))

abbrev lines_in : List PlacedLine → Lines
lines_in = map (λ (p : PlacedLine). p.line)

without_places : (place : ℕ) (ls : Lines) → lines_in (placed_from place ls) ≡ ls
without_places place [] = refl
without_places place (l ∷ ls) = ap (λ rest. l ∷ rest) (without_places (suc place) ls)

pub next_place : (place : ℕ) (ls more : Lines) (line : Line) → place ≡ suc (length ls) → more ≡ ls ++ line ∷ [] → place + 1 ≡ suc (length more)
next_place place ls more line here is = omega (arith, here, ap (λ (l : Lines). length l) is, length-append ls (line ∷ []))

-- one row more, with the next place
pub placed_more : (rows : List Row) (ls : Lines) (place : ℕ) (row : Row) (line : Line) → place ≡ suc (length ls) → ShowsAll ShowsPlaced rows (placed_from 1 ls) → ShowsPlaced row (record { place = place; line = line })
    → ShowsAll ShowsPlaced (rows ++ row ∷ []) (placed_from 1 (ls ++ line ∷ []))
placed_more rows ls place row line next all one =
    let behind : place ≡ 1 + length ls = omega (arith, next) in
    subst (ShowsAll ShowsPlaced (rows ++ row ∷ [])) (ap (λ k. placed_from 1 ls ++ placed_from k (line ∷ [])) behind ∙ sym (placed_then 1 ls (line ∷ []))) (shows_more ShowsPlaced rows (placed_from 1 ls) row (record { place = place; line = line }) all one)

shown_by : (rows : List Row) (ps : List PlacedLine) → ShowsAll ShowsPlaced rows ps → ShowsAll (IsShownBy placed_shown) rows ps
shown_by [] [] h = tt
shown_by [] (p ∷ ps) h = absurd h
shown_by (row ∷ rows) [] h = absurd h
shown_by (row ∷ rows) (p ∷ ps) h = (h.0.1, shown_by rows ps h.1)

-- all rows of a document
pub lines_are : (xs ys : Lines) → ShowsAll ShowsPlaced (map placed_shown (placed_from 1 xs)) (placed_from 1 ys) → ys ≡ xs
lines_are xs ys h = sym (without_places 1 ys) ∙ ap lines_in (all_are placed_shown (placed_from 1 xs) (placed_from 1 ys) (shown_by _ _ h)) ∙ without_places 1 xs

-- the first rows of it
pub first_lines_are : (xs : Lines) (rows others : List Row) (ys : Lines) → rows ++ others ≡ map placed_shown (placed_from 1 xs) → ShowsAll ShowsPlaced rows (placed_from 1 ys) → (more : Lines) × (xs ≡ ys ++ more)
first_lines_are xs rows others ys is h =
    let found = first_are placed_shown (placed_from 1 xs) rows others (placed_from 1 ys) is (shown_by _ _ h) in
    (lines_in found.0, sym (without_places 1 xs) ∙ ap lines_in found.1 ∙ map-append (λ (p : PlacedLine). p.line) (placed_from 1 ys) found.0 ∙ ap (λ ls. ls ++ lines_in found.0) (without_places 1 ys))
