-- The order of the list of what is withheld.
use Rattle.std.proofs.Common.{inl, inr, ◌≡◌, Bool, List, [], ◌∷◌, ◌++◌, true, false, ◌||◌, refl, arith, sym, ◌∙◌, ap, rules, if◌then◌else◌, codes, Some}
use Rattle.std.proofs.{Common.{Contains, bytes_eq, IsPermutation, IsSorted}, lemmas.{Bool.{and_parts, or_cases, false≢true}, List.Folds.list_any-append}}
use Rattle.std.proofs.lemmas.List.{Kept.{Contains-dedup, Contains-from_dedup, IsStrictlySortedBy-dedup}, Sorted.{Contains-permutation, IsPermutation-sym}}
use Rattle.std.{proofs.lemmas.Map.Views.{Contains-from_any, list_any-from_Contains}, specs.{Cmp.{IsTotalOrder, IsEquivalence, Rules.comparing}, List.dedup}}
use Rattle.{std.specs.List.list_any, iodef_tree.{proofs.{Inverse.pointer_tokens-pointer_text, Order.bytes_eq-true}, specs.Pointer.pointer_text}}
use Rattle.{iodef_tree.specs.{Pointer.pointer_tokens, Text.{Bytes, Tokens}}, policy.specs.{Rule.name_of, declared.rule.Rule.{Rule, TheVariants.{Src, P, O, C}}}}
use Rattle.{policy.specs.declared.rule.Rule.TheVariants.{M, A, X, G0, G1, G2, G4, G4X, HGreen, HAmber, HStrict, HRed}, redact.specs.Withheld.Withheld}
use Rattle.redact.specs.{Withheld.{withheld_cmp, same_withheld, is_among, has_rule, with_rule, Lists}, inner.Ties.withheld-ties}

pub withheld-equiv : IsEquivalence same_withheld
withheld-equiv = search (comparing, rules)

pub withheld-total : IsTotalOrder withheld_cmp
withheld-total = search (comparing, rules)

-- the rule of a name
abbrev named : Bytes → Rule
named t =
    if bytes_eq t (codes "SRC") then Src else if bytes_eq t (codes "P") then P else if bytes_eq t (codes "O") then O else if bytes_eq t (codes "C") then C
    else if bytes_eq t (codes "M") then M else if bytes_eq t (codes "A") then A else if bytes_eq t (codes "X") then X else if bytes_eq t (codes "G0") then G0
    else if bytes_eq t (codes "G1") then G1 else if bytes_eq t (codes "G2") then G2 else if bytes_eq t (codes "G4") then G4 else if bytes_eq t (codes "G4X") then G4X
    else if bytes_eq t (codes "H-GREEN") then HGreen else if bytes_eq t (codes "H-AMBER") then HAmber else if bytes_eq t (codes "H-STRICT") then HStrict else HRed

named-name : (r : Rule) → named (name_of r) ≡ r
named-name Src = refl
named-name _ = refl

named-same : (r s : Rule) → bytes_eq (name_of r) (name_of s) ≡ true → r ≡ s
named-same r s h = sym (named-name r) ∙ ap named (bytes_eq-true (name_of r) (name_of s) h) ∙ named-name s

from_some : (p q : Tokens) → pointer_text p ≡ pointer_text q → p ≡ q
from_some p q e =
    let both : Some p ≡ Some q = sym (pointer_tokens-pointer_text p) ∙ ap pointer_tokens e ∙ pointer_tokens-pointer_text q in cc

-- two pairs that compare as equal are the same pair
pub withheld-same : (x y : Withheld) → same_withheld x y ≡ true → x ≡ y
withheld-same x y h =
    let parts = and_parts (bytes_eq (pointer_text x.0) (pointer_text y.0)) (bytes_eq (name_of x.1) (name_of y.1)) h in
    let places : x.0 ≡ y.0 = from_some x.0 y.0 (bytes_eq-true (pointer_text x.0) (pointer_text y.0) parts.0) in
    λ i. (places i, named-same x.1 y.1 parts.1 i)

-- sorted and without repeats
pub lists-dedup : (xs ys : List Withheld) → IsPermutation xs ys → IsSorted withheld_cmp ys → Lists xs (dedup same_withheld ys)
lists-dedup xs ys same sorted = record {
  ascending = IsStrictlySortedBy-dedup withheld-total withheld-ties ys sorted;
  sound = λ x h. Contains-permutation ys xs x (IsPermutation-sym xs ys same) (Contains-from_dedup same_withheld ys x h);
  complete = λ x h. Contains-dedup withheld-equiv withheld-same ys x (Contains-permutation xs ys x same h);
}

-- a pair of one list is in each list of the same pairs
pub among-contains : (ps qs : List Withheld) → ((x : Withheld) → is_among ps x ≡ is_among qs x) → (x : Withheld) → Contains ps x → Contains qs x
among-contains ps qs same x h = Contains-from_any withheld-same x qs (sym (same x) ∙ list_any-from_Contains withheld-equiv x ps h)

-- a rule whose name is among these passes a test among them
any-known : (test : Rule → Bool) (r : Rule) (rs : List Rule) → has_rule rs r ≡ true →
    list_any test rs ≡ (list_any test rs || test r)
any-known test r [] e = absurd (false≢true e)
any-known test r (x ∷ rs) e = elim (or_cases (bytes_eq (name_of x) (name_of r)) _ e) [
  | inl is ↦ let same = ap test (named-same x r is) in grind (arith, same)
  | inr among ↦ let later = any-known test r rs among in grind (arith, later)
]

-- the same with one more, unless it is among them
pub any-with : (test : Rule → Bool) (rs : List Rule) (r : Rule) → list_any test (with_rule rs r) ≡ (list_any test rs || test r)
any-with test rs r = split (has_rule rs r) refl
  where
    split : (known : Bool) → has_rule rs r ≡ known → list_any test (if known then rs else rs ++ r ∷ []) ≡ (list_any test rs || test r)
    split true e = any-known test r rs e
    split false e = let parts = list_any-append test rs (r ∷ []) in grind (arith, parts)
