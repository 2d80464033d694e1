-- What the pass lists as withheld is what the definitions say.
use Rattle.std.proofs.Common.{◌≡◌, ℕ, suc, Bool, true, false, not, List, [], ◌∷◌, ◌++◌, refl, sym, ◌∙◌, ap, subst, if◌then◌else◌, ◌&&◌, Option, Some}
use Rattle.std.{proofs.lemmas.{Bool.or_parts, List.{Concat.flat_map-append, Folds.list_any-append}}, specs.List.AllByRecursion}
use Rattle.iodef_tree.specs.{Paths.LocatedLine, Text.Tokens, Tree.{Forest, end, leaf, branch, steps}, Walk.{walk, leaf_entry}}
use Rattle.{marking.proofs.{Bad.no_class-kind, Marked.not_root}, redact.proofs.{Fates.by_verdict, Keeping.{home-class, is_seen, any_seen, SaysBelow, ends}}}
use Rattle.redact.specs.{Kept.{Verdicts, is_wholly_hidden}, Withheld.{Withheld, told_at_place, withheld_at, withheld_among}, inner.Judged.{judge, inside}}
use Rattle.redact.specs.inner.Judged.{keeps_plain, home_at, left_before, new_place, left_with, is_end, cut, withheld_below, places}

module _ (v : Verdicts) (place : Tokens → Option Tokens) where
  -- a place of the pass is the place of the definitions
  abbrev pub IsRight : Tokens × Tokens → Type 0
  IsRight x = place x.0 ≡ Some x.1

  abbrev tells : List LocatedLine → List Withheld
  tells es = withheld_among v place es

  -- nothing is listed below a wholly hidden class
  silent : (f : Forest) (d : ℕ) (p : Tokens) → SaysBelow v d p f → any_seen v (walk d p f) ≡ false → is_wholly_hidden v p ≡ true → tells (walk d p f) ≡ []
  silent end d p says unseen hidden = refl
  silent (leaf i rest) d p says unseen hidden = rw (no_class-kind i.content) (silent rest d p says (or_parts (is_seen v (leaf_entry d p i)) _ unseen).1 hidden)
  silent (branch name pl kids rest) d p says unseen hidden =
      let q = p ++ steps name pl in
      let K = walk (suc d) q kids in
      let R = walk d p rest in
      let parts = or_parts (v.visible q) _ unseen in
      let below = or_parts (any_seen v K) (any_seen v R) (sym (list_any-append (is_seen v) K R) ∙ parts.1) in
      let closed : v.holds_visible q ≡ false = says.0 ∙ below.0 in
      rw (parts.0, closed, hidden, not_root p name pl, flat_map-append (withheld_at v place) K R)
      (rw (silent kids (suc d) q says.1 below.0 (rw (not_root p name pl, parts.0, closed)), silent rest d p says.2 below.1 hidden))

  all_parts : (xs ys : List (Tokens × Tokens)) → AllByRecursion IsRight (xs ++ ys) → AllByRecursion IsRight xs × AllByRecursion IsRight ys
  all_parts [] ys h = (tt, h)
  all_parts (x ∷ xs) ys h = let parts = all_parts xs ys h.1 in ((h.0, parts.0), parts.1)

  pub withheld-walk : (f : Forest) (d : ℕ) (p q : Tokens) (n : ℕ) → SaysBelow v d p f → AllByRecursion IsRight (places (home_at v p) p q n (judge v p f)) →
      place p ≡ Some q → is_wholly_hidden v p ≡ false → tells (walk d p f) ≡ withheld_below (home_at v p) q n (judge v p f)
  withheld-walk end d p q n says right here shown = refl
  withheld-walk (leaf i rest) d p q n says right here shown =
      rw (no_class-kind i.content) (withheld-walk rest d p q (if keeps_plain (home_at v p) then left_with n i.place else left_before n i.place) says right here shown)
  withheld-walk (branch name pl kids rest) d p q n says right here shown =
      let p' = p ++ steps name pl in
      let r = q ++ steps name (new_place n pl) in
      let K = walk (suc d) p' kids in
      let R = walk d p rest in
      let J = judge v p' kids in
      let h = home_at v p in
      let rule = v.rule p' in
      let TK = λ (b : Bool). withheld_below (inside b) r 0 J in
      let TB = λ (m : ℕ). withheld_below h q m (judge v p rest) in
      let PK = λ (b : Bool). places (inside b) p' r 0 J in
      let PB = λ (m : ℕ). places h p q m (judge v p rest) in
      let bare : is_wholly_hidden v p' ≡ (not (v.visible p') && not (v.holds_visible p')) = rw (not_root p name pl) in
      let behind : (m : ℕ) → AllByRecursion IsRight (PB m) → tells R ≡ TB m = λ m all. withheld-walk rest d p q m says.2 all here shown in
      rw (shown, here, bare, flat_map-append (withheld_at v place) K R)
      (by_verdict (λ visible holds ended.
      AllByRecursion IsRight (if visible then (p', r) ∷ (PK true ++ PB (left_with n pl)) else (if ended then PB (left_before n pl) else (p', r) ∷ (PK false ++ PB (left_with n pl)))) →
      (place p' ≡ Some r → AllByRecursion IsRight (PK visible) → (not visible && not holds) ≡ false → tells K ≡ TK visible) → (visible ≡ false → holds ≡ false → tells K ≡ []) →
      (if not visible && holds then told_at_place (place p') rule else (if (not visible && not holds) && true then (q, rule) ∷ [] else [])) ++ (tells K ++ tells R) ≡
      (if visible then TK true ++ TB (left_with n pl) else (if ended then (q, rule) ∷ TB (left_before n pl) else (r, rule) ∷ (TK false ++ TB (left_with n pl)))))
      (v.visible p') (v.holds_visible p') (is_end (cut (inside false) 0 J)) (λ hidden. ends v kids (suc d) p' 0 ∙ ap not (sym says.0))
      (λ holds ended all kept none. let parts = all_parts (PK true) (PB (left_with n pl)) all.1 in rw (kept all.0 parts.0 refl, behind (left_with n pl) parts.1))
      (λ all kept none. let parts = all_parts (PK false) (PB (left_with n pl)) all.1 in rw (all.0, kept all.0 parts.0 refl, behind (left_with n pl) parts.1))
      (λ all kept none. rw (none refl refl, behind (left_before n pl) all))
      right
      (λ at all open'.
      withheld-walk kids (suc d) p' r 0 says.1 (subst (λ g. AllByRecursion IsRight (places g p' r 0 J)) (sym (home-class v p name pl)) all) at (bare ∙ open')
      ∙ ap (λ g. withheld_below g r 0 J) (home-class v p name pl))
      (λ hidden closed. silent kids (suc d) p' says.1 (sym says.0 ∙ closed) (bare ∙ ap (λ b. not b && not (v.holds_visible p')) hidden ∙ ap not closed)))
