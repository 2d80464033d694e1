-- Rows that were shown, put into a state by edits.
use Rattle.std.proofs.Common.{◌≡◌, ◌+◌, ◌<◌, ℕ, List, [], ◌∷◌, ◌++◌, map, length, take, get_or, Result, Ok, Err, IfOk, IsErrAnd, refl, sym, ap, subst, ◌∙◌}
use Rattle.{std.proofs.lemmas.List.{take_more, map-append}, sqlite_value.specs.Order.Row, sqlite.specs.{State.State, declared.error.Error.Error}}
use Rattle.{hub_state.{proofs.Then.after_append, specs.{Edits.with_edits, declared.edit.Edit.Edit}}, hub_store.proofs.LookUps.Finding.{all_are, shows_more}}
use Rattle.hub_store.{proofs.LookUps.Reading.{read_then, read_turned}, specs.inner.{Adds.{ArePut, Adds}, Queries.IsReadInside, Shown.{IsShownBy, ShowsAll}}}
use Rattle.hub_state.specs.State as core

-- ---- row by row

module _ {X : Type 0} (shows : Row → X → Type 0) (edit : X → Edit) where
  pub put_none : (s : core.State) → ArePut shows edit [] s s
  put_none s = record { found = []; seen = tt; made = refl }

  -- one more row is put
  pub put_more : (rows : List Row) (i : ℕ) (row : Row) (x : X) (before mid after : core.State) → i < length rows → row ≡ get_or rows i row → ArePut shows edit (take i rows) before mid → shows row x
      → after ≡ with_edits (edit x ∷ []) mid → ArePut shows edit (take (i + 1) rows) before after
  put_more rows i row x before mid after low is put one made = record {
    found = put.found ++ x ∷ [];
    seen =
        let next : take (i + 1) rows ≡ take i rows ++ row ∷ [] = take_more rows i row low ∙ ap (λ r. take i rows ++ r ∷ []) (sym is) in
        subst (λ l. ShowsAll shows l (put.found ++ x ∷ [])) (sym next) (shows_more shows (take i rows) put.found row x put.seen one);
    made =
        made ∙ ap (with_edits (edit x ∷ [])) put.made
        ∙ sym (after_append (map edit put.found) (edit x ∷ []) before)
        ∙ ap (λ l. with_edits l before) (sym (map-append edit put.found (x ∷ [])));
  }

-- what shows these elements puts them
pub adds_all : {X : Type 0} (shown : X → Row) (edit : X → Edit) (xs : List X) (rows : List Row) (before : core.State) (r : Result core.State Error) → rows ≡ map shown xs → IfOk r (ArePut (IsShownBy shown) edit rows before)
    → IfOk r (λ after. after ≡ with_edits (map edit xs) before)
adds_all shown edit xs rows before (Ok after) is put =
    put.made ∙ ap (λ l. with_edits (map edit l) before) (all_are shown xs put.found (subst (λ l. ShowsAll (IsShownBy shown) l put.found) is put.seen))
adds_all shown edit xs rows before (Err e) is put = tt

-- ---- set after set

-- some sets, and then more
pub adds_then : (a b c : State) (f g : core.State → List Edit) (before mid : core.State) (r : Result core.State Error) → IsReadInside a b (Adds f before) (Ok mid) → IsReadInside b c (Adds g mid) r → IsReadInside a c (Adds (λ s. f s ++ g s) before) r
adds_then a b c f g before mid r one two =
    read_turned a c (λ s after. Adds f before s mid × Adds g mid s after) (Adds (λ s. f s ++ g s) before) r (read_then a b c (Adds f before) (Adds g mid) mid r one two)
    (λ s after sound it. it.1 ∙ (ap (with_edits (g s)) it.0 ∙ sym (after_append (f s) (g s) before)))

-- if some sets can't be read, more can't
pub adds_fail : (a b : State) (f g : core.State → List Edit) (before : core.State) (r : Result core.State Error) (e : Error) → IsReadInside a b (Adds f before) (Err e) → IsErrAnd r (λ y. y ≡ e) → IsReadInside a b (Adds g before) r
adds_fail a b f g before (Ok x) e read is = absurd is
adds_fail a b f g before (Err y) e read is = record { survives = read.survives; kept = read.kept; same = λ _ _. tt; right = λ _ _ _ _. tt }
