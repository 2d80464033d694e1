-- Lines that are put by one call and then by another.
use Rattle.std.proofs.Common.{◌≡◌, ◌+◌, ◌<◌, ℕ, suc, List, [], ◌∷◌, ◌++◌, map, take, get_or, length, Result, Ok, Err, OnOk, IsErrAnd, sym, ap, subst, ◌∙◌}
use Rattle.std.proofs.{Common.{arith, append_assoc}, lemmas.List.{map-append, take_more, length-take-le, Sorted.{IsPermutation-trans, IsPermutation-refl}}}
use Rattle.{std.{proofs.lemmas.List.Sorted.IsPermutation-sym, specs.List.Sorted.IsPermutation}, sqlite_value.specs.Order.Row, sqlite.specs.State.State}
use Rattle.{sqlite.specs.declared.error.Error.Error, iodef_tree.specs.declared.line.Line.Line, hub_state.specs.Documents.Lines}
use Rattle.hub_store.proofs.{Edits.Steps.{makes_then, fails_then, fails_passed, on_any, kept_itself, survives_itself}, Rows.Counting.{as_far, further}}
use Rattle.hub_store.{proofs.{Rows.{Items.past_both, PartRows.exchanged_rows}, Versions.Standing.{stand_permuted, stand_behind}}, specs.Items.items_from}
use Rattle.hub_store.specs.{Items.item_row, Keeps.Goes, Layout.{newest, in_every_version, in_versions_1_and_2, incident_part, item_part, behind_items}}
use Rattle.hub_store.specs.inner.{Beside.CanStand, Makes.Makes, PutsLines.{PutsLines, HasMore}}

pub items_then : (n place : ℕ) (ls ms : Lines) → items_from n place (ls ++ ms) ≡ items_from n place ls ++ items_from n (place + length ls) ms
items_then n place [] ms = ap (λ k. items_from n k ms) (as_far place)
items_then n place (l ∷ ls) ms =
    ap (λ rest. record { incident = n; place = place; line = l } ∷ rest) (items_then n (suc place) ls ms ∙ ap (λ k. items_from n (suc place) ls ++ items_from n k ms) (further place (length ls)))

rows_then : (n place : ℕ) (ls ms : Lines) → map item_row (items_from n place (ls ++ ms)) ≡ map item_row (items_from n place ls) ++ map item_row (items_from n (place + length ls) ms)
rows_then n place ls ms = ap (map item_row) (items_then n place ls ms) ∙ map-append item_row (items_from n place ls) (items_from n (place + length ls) ms)

-- after the first lines the others are put
pub more_then : (n place : ℕ) (ls ms : Lines) (items more : List Row) → HasMore n place (ls ++ ms) items more → HasMore n (place + length ls) ms (map item_row (items_from n place ls) ++ items) more
more_then n place ls ms items more same =
    let first = map item_row (items_from n place ls) in
    let second = map item_row (items_from n (place + length ls) ms) in
    IsPermutation-trans _ _ _ (past_both second first items) (subst (λ l. IsPermutation l more) (ap (λ l. l ++ items) (rows_then n place ls ms) ∙ append_assoc first second items) same)

any_makes : {T : Type 0} {a b : State} {result : Result T Error} → Goes a b result → Makes a b (λ _. Unit {0}) (λ _. Unit {0}) result
any_makes {result = result} goes = record { goes = goes; made = λ _ _ _. on_any result (Unit {0}) tt }

pub puts_then : {T U : Type 0} (a b c : State) (x : T) (result : Result U Error) (n place : ℕ) (ls ms : Lines) → PutsLines n place ls a b (Ok x) → PutsLines n (place + length ls) ms b c result → PutsLines n place (ls ++ ms) a c result
puts_then a b c x result n place ls ms one two = record {
  goes = (makes_then a b c (λ _. Unit {0}) (λ _. Unit {0}) (λ _. Unit {0}) x result (any_makes one.goes) (any_makes two.goes)).goes;
  edited = λ s incidents items more same.
      let mid = map item_row (items_from n place ls) ++ items in
      makes_then a b c _ _ _ x result (one.edited s incidents items mid (IsPermutation-refl mid)) (two.edited s incidents mid more (more_then n place ls ms items more same));
  moved = λ s items more same.
      let mid = map item_row (items_from n place ls) ++ items in
      makes_then a b c _ _ _ x result (one.moved s items mid (IsPermutation-refl mid)) (two.moved s mid more (more_then n place ls ms items more same));
  cause = λ s items more same can.
      let mid = map item_row (items_from n place ls) ++ items in
      fails_then (one.moved s items mid (IsPermutation-refl mid)) two.goes (two.cause s mid more (more_then n place ls ms items more same) can);
}

-- the table takes the first lines if it takes all
first_stand : (n place : ℕ) (ls ms : Lines) (items more : List Row) → HasMore n place (ls ++ ms) items more → CanStand more → CanStand (map item_row (items_from n place ls) ++ items)
first_stand n place ls ms items more same can =
    let mid = map item_row (items_from n place ls) ++ items in
    let rest = map item_row (items_from n (place + length ls) ms) in
    stand_behind rest mid (stand_permuted more (rest ++ mid) (IsPermutation-sym _ _ (more_then n place ls ms items more same)) can)

pub puts_then_at : {T U : Type 0} (a b c : State) (x : T) (result : Result U Error) (n place at : ℕ) (ls ms : Lines) → at ≡ place + length ls → PutsLines n place ls a b (Ok x) → PutsLines n at ms b c result → PutsLines n place (ls ++ ms) a c result
puts_then_at a b c x result n place at ls ms is one two = puts_then a b c x result n place ls ms one (subst (λ k. PutsLines n k ms b c result) is two)

-- one more of a list, whose lines are put one after another
pub puts_more : {T U : Type 0} (a b c : State) (x : T) (result : Result U Error) (n place at i : ℕ) (ls : Lines) (l : Line) → i < length ls → l ≡ get_or ls i l → at ≡ place + i → PutsLines n place (take i ls) a b (Ok x) → PutsLines n at (l ∷ []) b c result
    → PutsLines n place (take (i + 1) ls) a c result
puts_more a b c x result n place at i ls l low is behind one two =
    let longer : take (i + 1) ls ≡ take i ls ++ l ∷ [] = take_more ls i l low ∙ ap (λ y. take i ls ++ y ∷ []) (sym is) in
    let long : length (take i ls) ≡ i = length-take-le i ls (omega (arith, low)) in
    subst (λ all. PutsLines n place all a c result) (sym longer) (puts_then_at a b c x result n place at (take i ls) (l ∷ []) (behind ∙ ap (λ k. place + k) (sym long)) one two)

-- a failure before the last lines is the failure of all
pub puts_not : {T U : Type 0} (a b : State) (e : Error) (result : Result U Error) (n place : ℕ) (ls ms : Lines) → IsErrAnd result (λ y. y ≡ e) → PutsLines {T = T} n place ls a b (Err e) → PutsLines n place (ls ++ ms) a b result
puts_not {T} {U} a b e result n place ls ms is puts =
    let own : Goes a b result = record { kept = puts.goes.kept; inside = λ _ _. only_err _ result is; survives = puts.goes.survives } in
    record {
      goes = own;
      edited = λ s incidents items more same. record { goes = own; made = λ _ _ _. only_err _ result is };
      moved = λ s items more same. record { goes = own; made = λ _ _ _. only_err _ result is };
      cause = λ s items more same can.
          let mid = map item_row (items_from n place ls) ++ items in
          fails_passed is (puts.cause s items mid (IsPermutation-refl mid) (first_stand n place ls ms items more same can));
    }
  where
    only_err : (X : Type 0) (r : Result U Error) → IsErrAnd r (λ y. y ≡ e) → OnOk r X
    only_err X (Ok x) is = absurd is
    only_err X (Err y) is = tt

-- no line is put
pub puts_none : (a : State) (n place : ℕ) → PutsLines {T = Unit {0}} n place [] a a (Ok tt)
puts_none a n place =
    let goes : Goes {T = Unit {0}} a a (Ok tt) = record { kept = λ _ _. kept_itself a; inside = λ _ inside. (inside, λ up. up); survives = survives_itself a } in
    record {
      goes = goes;
      edited = λ s incidents items more same. record {
        goes = goes;
        made = λ _ _ between. record { known = between.known; whole = between.whole; means = exchanged_rows _ (in_every_version newest s) (item_part items) (behind_items s incidents) more same between.means; fit = between.fit };
      };
      moved = λ s items more same. record {
        goes = goes;
        made = λ _ _ has. record {
          parts = record { known = has.parts.known; whole = has.parts.whole; means = exchanged_rows _ (in_versions_1_and_2 1 s ++ incident_part s ∷ []) (item_part items) [] more same has.parts.means };
          numbered = has.numbered;
        };
      };
      cause = λ s items more same can. record { cause = λ clean inside before. tt };
    }
