-- The own label of a class or the root by its members, and the site by the prefixes of its path.
use Rattle.std.proofs.Common.{◌≡◌, ℕ, zero, suc, ◌-◌, List, [], ◌∷◌, ◌++◌, Bool, true, false, cond, ◌&&◌, ◌||◌, length, take, map, reverse, refl, sym, ◌∙◌, ap}
use Rattle.std.{proofs.{Common.arith, lemmas.{Bool.{cond-false, true≢false}, List.{map-append, reverse-append}}}, specs.{Option.option_or, Prelude.Some}}
use Rattle.{std.specs.Prelude.{None, unwrap_or, find}, iodef_tree.specs.{Paths.{LocatedLine, has_class}, Text.{Bytes, Tokens, same_path, is_root, prefixes}}}
use Rattle.{iodef_tree.specs.{Tree.Forest, Walk.IsBlock}, marking.proofs.{Marked.root-written, Sites.{site-push, root-own}, Written.AreUnderParents}}
use Rattle.marking.{proofs.Written.written-block, specs.{Label.private, Marks.{incident_path, written_label, own_label, has_own_label, site_of}, Sited.own_in}}

and-true : (b t : Bool) → t ≡ true → b ≡ (b && t)
and-true true t h = sym h
and-true false t h = refl

pub own-class : (es : List LocatedLine) (p : Tokens) (kids : Forest) → AreUnderParents es → IsBlock p es kids → (is_root p || has_class es p) ≡ true → own_in p kids ≡ own_label es p
own-class es [] kids under block there = ap (λ w. option_or w (Some private)) (sym (root-written es under))
own-class es (x ∷ p) kids under block there =
    let q = x ∷ p in
    ap (λ w. option_or w (cond (same_path q incident_path) (Some private) None)) (sym (written-block es block.0 q kids under block.1 there))
    ∙ ap (λ b. option_or (written_label es q) (cond b (Some private) None)) (and-true (same_path q incident_path) (has_class es q) there)

-- ---- a path with an own label is its own site

-- a path is the last of its prefixes
prefixes-last : (p : Tokens) → (qs : List Tokens) × (prefixes p ≡ qs ++ p ∷ [])
prefixes-last [] = ([], refl)
prefixes-last (x ∷ p) =
    let r = prefixes-last p in
    ([] ∷ map (λ q. x ∷ q) r.0, ap (λ qs. [] ∷ qs) (ap (map (λ q. x ∷ q)) r.1 ∙ map-append (λ q. x ∷ q) r.0 (p ∷ [])))

pub site-self : (es : List LocatedLine) (p : Tokens) → has_own_label es p ≡ true → site_of es p ≡ p
site-self es p own =
    let r = prefixes-last p in
    ap (λ qs. unwrap_or (find (has_own_label es) (reverse qs)) []) r.1
    ∙ ap (λ rs. unwrap_or (find (has_own_label es) rs) []) (reverse-append r.0 (p ∷ []))
    ∙ ap (λ b. unwrap_or (cond b (Some p) (find (has_own_label es) (reverse r.0))) []) own

-- ---- the site of any other path is that of the path without its last token

last-apart : (p : Tokens) (n : ℕ) → length p ≡ suc n → (x : Bytes) × (p ≡ take n p ++ x ∷ [])
last-apart [] n h = absurd (omega (arith, h))
last-apart (x ∷ []) zero h = (x, refl)
last-apart (x ∷ []) (suc n) h = absurd (omega (arith, h))
last-apart (x ∷ y ∷ p) zero h = absurd (omega (arith, h))
last-apart (x ∷ y ∷ p) (suc n) h = let r = last-apart (y ∷ p) n (omega (arith, h)) in (r.0, ap (λ q. x ∷ q) r.1)

pub root-apart : (p : Tokens) → is_root p ≡ false → (n : ℕ) × (length p ≡ suc n)
root-apart [] h = absurd (true≢false h)
root-apart (x ∷ p) h = (length p, refl)

pub not_at_root : (es : List LocatedLine) (p : Tokens) → has_own_label es p ≡ false → is_root p ≡ false
not_at_root es [] h = absurd (true≢false (sym (root-own es) ∙ h))
not_at_root es (x ∷ p) h = refl

site-front : (es : List LocatedLine) (p : Tokens) (n : ℕ) → length p ≡ suc n → has_own_label es p ≡ false → site_of es p ≡ site_of es (take n p)
site-front es p n len none =
    let r = last-apart p n len in
    let front = take n p in
    ap (site_of es) r.1
    ∙ site-push es front r.0
    ∙ cond-false (has_own_label es (front ++ r.0 ∷ [])) (front ++ r.0 ∷ []) (site_of es front) (ap (has_own_label es) (sym r.1) ∙ none)

pub site-up : (es : List LocatedLine) (p : Tokens) → has_own_label es p ≡ false → site_of es p ≡ site_of es (take (length p - 1) p)
site-up es p none =
    let r = root-apart p (not_at_root es p none) in
    let n : r.0 ≡ length p - 1 = omega (arith, r.1) in
    site-front es p r.0 r.1 none ∙ ap (λ k. site_of es (take k p)) n
