-- The site and the label one step below a class: the class's own, or those above, for the lines of any document.
use Rattle.std.proofs.Common.{◌≡◌, ℕ, List, [], ◌∷◌, ◌++◌, Bool, true, false, cond, map, reverse, decimal, refl, sym, ◌∙◌, ap, append_assoc}
use Rattle.std.{proofs.lemmas.{Bool.{cond-true, cond-false, false≢true}, List.{map-append, reverse-append}}, specs.{Option.option_or, Prelude.{Option, Some}}}
use Rattle.{std.specs.Prelude.{None, is_some, unwrap_or, find}, iodef_tree.specs.{Paths.LocatedLine, Text.{Bytes, Tokens, prefixes}, Tree.steps}}
use Rattle.marking.specs.{Label.{LabelValue, private}, Marks.{own_label, has_own_label, written_label, site_of, label_at}}

pub prefixes-push : (p : Tokens) (x : Bytes) → prefixes (p ++ x ∷ []) ≡ prefixes p ++ (p ++ x ∷ []) ∷ []
prefixes-push [] x = refl
prefixes-push (y ∷ p) x =
    ap (λ qs. [] ∷ map (λ q. y ∷ q) qs) (prefixes-push p x)
    ∙ ap (λ qs. [] ∷ qs) (map-append (λ q. y ∷ q) (prefixes p) ((p ++ x ∷ []) ∷ []))

-- ---- the site has an own label

found-passes : {X : Type 0} (test : X → Bool) (xs : List X) (d : X) → test d ≡ true → test (unwrap_or (find test xs) d) ≡ true
found-passes test [] d h = h
found-passes {X} test (x ∷ xs) d h = by_test (test x) refl (found-passes test xs d h)
  where
    by_test : (b : Bool) → test x ≡ b → test (unwrap_or (find test xs) d) ≡ true → test (unwrap_or (cond (test x) (Some x) (find test xs)) d) ≡ true
    by_test true e ih = ap (λ b. test (unwrap_or (cond b (Some x) (find test xs)) d)) e ∙ e
    by_test false e ih = ap (λ b. test (unwrap_or (cond b (Some x) (find test xs)) d)) e ∙ ih

some-or : (o : Option LabelValue) → is_some (option_or o (Some private)) ≡ true
some-or None = refl
some-or (Some l) = refl

unwrapped : (o : Option LabelValue) → is_some o ≡ true → o ≡ Some (unwrap_or o private)
unwrapped None h = absurd (false≢true h)
unwrapped (Some l) h = refl

pub root-own : (es : List LocatedLine) → has_own_label es [] ≡ true
root-own es = some-or (written_label es [])

-- the label that holds is the own label of the site
pub site-own : (es : List LocatedLine) (p : Tokens) → own_label es (site_of es p) ≡ Some (label_at es p)
site-own es p = unwrapped (own_label es (site_of es p)) (found-passes (has_own_label es) (reverse (prefixes p)) [] (root-own es))

-- ---- one token further

choose : (b : Bool) (q d : Tokens) (o : Option Tokens) → unwrap_or (cond b (Some q) o) d ≡ cond b q (unwrap_or o d)
choose true q d o = refl
choose false q d o = refl

pub site-push : (es : List LocatedLine) (p : Tokens) (x : Bytes) → site_of es (p ++ x ∷ []) ≡ cond (has_own_label es (p ++ x ∷ [])) (p ++ x ∷ []) (site_of es p)
site-push es p x =
    let q = p ++ x ∷ [] in
    ap (λ qs. unwrap_or (find (has_own_label es) (reverse qs)) []) (prefixes-push p x)
    ∙ ap (λ rs. unwrap_or (find (has_own_label es) rs) []) (reverse-append (prefixes p) (q ∷ []))
    ∙ choose (has_own_label es q) q [] (find (has_own_label es) (reverse (prefixes p)))

-- ---- one step further

-- The site below: the class itself if it has an own label, else the site above. The path of an array is no site.
pub site-steps : (es : List LocatedLine) (p : Tokens) (n : Bytes) (o : Option ℕ) → (is_some o ≡ true → own_label es (p ++ n ∷ []) ≡ None) →
    site_of es (p ++ steps n o) ≡ cond (has_own_label es (p ++ steps n o)) (p ++ steps n o) (site_of es p)
site-steps es p n None array = site-push es p n
site-steps es p n (Some k) array =
    let r = p ++ n ∷ [] in
    let q = p ++ steps n (Some k) in
    let same : r ++ decimal k ∷ [] ≡ q = append_assoc p (n ∷ []) (decimal k ∷ []) in
    ap (site_of es) (sym same)
    ∙ site-push es r (decimal k)
    ∙ ap (λ s. cond (has_own_label es (r ++ decimal k ∷ [])) (r ++ decimal k ∷ []) s)
    (site-push es p n ∙ cond-false (has_own_label es r) r (site_of es p) (ap is_some (array refl)))
    ∙ ap (λ z. cond (has_own_label es z) z (site_of es p)) same

label-choose : (es : List LocatedLine) (p q : Tokens) (own : Option LabelValue) → own_label es q ≡ own → site_of es q ≡ cond (has_own_label es q) q (site_of es p) →
    label_at es q ≡ unwrap_or own (label_at es p)
label-choose es p q None e s =
    ap (λ r. unwrap_or (own_label es r) private) (s ∙ cond-false (has_own_label es q) q (site_of es p) (ap is_some e))
label-choose es p q (Some l) e s =
    ap (λ r. unwrap_or (own_label es r) private) (s ∙ cond-true (has_own_label es q) q (site_of es p) (ap is_some e)) ∙ ap (λ o. unwrap_or o private) e

pub label-steps : (es : List LocatedLine) (p : Tokens) (n : Bytes) (o : Option ℕ) → (is_some o ≡ true → own_label es (p ++ n ∷ []) ≡ None) →
    label_at es (p ++ steps n o) ≡ unwrap_or (own_label es (p ++ steps n o)) (label_at es p)
label-steps es p n o array = label-choose es p (p ++ steps n o) (own_label es (p ++ steps n o)) refl (site-steps es p n o array)
