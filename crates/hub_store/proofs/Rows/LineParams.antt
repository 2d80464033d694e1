-- Lines as parameters, one after another.
use Rattle.std.proofs.Common.{◌≡◌, ◌+◌, ◌<◌, ℕ, suc, pos, List, [], ◌∷◌, ◌++◌, take, get_or, length, Result, Ok, Err, IfOk, is_ok, if◌then◌else◌, sym, ap, ◌∙◌}
use Rattle.{std.proofs.{Common.arith, lemmas.List.{map-append, take_more, length-take-le}}, sqlite_value.specs.{Order.Row, Value.owned}}
use Rattle.{sqlite_value.specs.declared.value.{Value.TheVariants.Int, ValueRef.ValueRef}, sqlite.specs.Values.{bound, bound_value}}
use Rattle.{iodef_tree.specs.declared.line.Line.Line, hub_state.specs.Documents.Lines, hub_store.proofs.Rows.Counting.{as_far, further}}
use Rattle.hub_store.specs.Items.{line_columns, placed_lines}

pub appended : {T E : Type 0} (r : Result T E) (old new more : List ValueRef) (row : Row) → new ≡ (if is_ok r then old ++ more else old) → bound more ≡ row → IfOk r (λ _. bound new ≡ bound old ++ row)
appended (Ok x) old new more row is same = ap bound is ∙ map-append (λ v. bound_value (owned v)) old more ∙ ap (λ l. bound old ++ l) same
appended (Err e) old new more row is same = tt

placed_then : (place : ℕ) (ls ms : Lines) → placed_lines place (ls ++ ms) ≡ placed_lines place ls ++ placed_lines (place + length ls) ms
placed_then place [] ms = ap (λ k. placed_lines k ms) (as_far place)
placed_then place (l ∷ ls) ms =
    ap (λ rest. Int (pos place) ∷ line_columns l rest)
    (placed_then (suc place) ls ms ∙ ap (λ k. placed_lines (suc place) ls ++ placed_lines k ms) (further place (length ls)))

-- one more of a list
pub placed_more : (place at i : ℕ) (ls : Lines) (l : Line) → i < length ls → l ≡ get_or ls i l → at ≡ place + i → placed_lines place (take (i + 1) ls) ≡ placed_lines place (take i ls) ++ placed_lines at (l ∷ [])
placed_more place at i ls l low is behind =
    let longer : take (i + 1) ls ≡ take i ls ++ l ∷ [] = take_more ls i l low ∙ ap (λ y. take i ls ++ y ∷ []) (sym is) in
    let long : length (take i ls) ≡ i = length-take-le i ls (omega (arith, low)) in
    ap (placed_lines place) longer ∙ placed_then place (take i ls) (l ∷ []) ∙ ap (λ k. placed_lines place (take i ls) ++ placed_lines k (l ∷ [])) (ap (λ k. place + k) long ∙ sym behind)
