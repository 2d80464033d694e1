-- A value read from a text has its names in order and its numbers in range, and its own text is read as the same
-- value.
use Rattle.std.proofs.Common.{◌≡◌, ℕ, zero, suc, ◌^◌, ◌<◌, ◌≤◌, List, [], Bool, true, false, drop, refl, sym, ◌∙◌, ap, subst, arith, append-nil, Option, Some}
use Rattle.std.proofs.{Common.{option_map, option_and_then, negsuc}, lemmas.{Bool.{and_parts, cond_both, ltb-true, leb-true, or_parts}, Cmp.nat_list_cmp_total}}
use Rattle.{std.proofs.lemmas.Option.{cond_some, option_and_then_some, same_Some}, fast_float.specs.Text.{Parts, scan, with_sign}}
use Rattle.json.proofs.Printed.{Decimals.{IsNumber-decimal, IsNumber-signed_decimal}, Tokens.tokens-print, Trees.{value-json_tokens, ArePrintable-json_tokens}}
use Rattle.json.specs.{Lex.tokens, Print.IsNumber, Token.Token, Tree.{json_tokens, HasNumbers, ItemsHaveNumbers, MembersHaveNumbers}}
use Rattle.serde_json.{proofs.{Numbers.{number_of-decimal, number_of-negative}, Texts.print-outline}, specs.Data.{Data, Num, put, depth, items_depth}}
use Rattle.serde_json.specs.{Data.members_depth, Find.is_float, Read.{float_of, number_from, number_of, of_json, of_items, of_members, read, max_depth}}
use Rattle.serde_json.specs.Written.{number_text, outline, items_outline, members_outline, has_float, items_have_float, members_have_float, compact_text}
use Rattle.{json_pointer.specs.Text.{Bytes, bytes_lt}, iodef_tree.proofs.{Data.{AreAfter, Ascend, after-trans, put-ascending}, Each.{IsEach, put-each}}}
use Rattle.iodef_tree.specs.inner.Written.{put_all}
use Rattle.json.specs.Json as tree
use Rattle.json.specs.Tree as sized
use Rattle.serde_json.specs.Data as json

-- ---- numbers

-- an i64 or a u64, or a float
abbrev pub IsInRange : Num → Type 0
IsInRange (json.unsigned n) = n < 2 ^ 64
IsInRange (json.negative z) = (n : ℕ) × (n < 2 ^ 63) × (z ≡ negsuc n)
IsInRange (json.float x) = Unit {0}

abbrev mutual
  pub IsNormal : Data → Type 0
  IsNormal (json.number n) = IsInRange n
  IsNormal (json.array ds) = AreNormal ds
  IsNormal (json.object ms) = Ascend ms × AreMembersNormal ms
  IsNormal _ = Unit {0}

  pub AreNormal : json.Items → Type 0
  AreNormal json.no_items = Unit {0}
  AreNormal (json.item d ds) = IsNormal d × AreNormal ds

  pub AreMembersNormal : json.Members → Type 0
  AreMembersNormal json.no_members = Unit {0}
  AreMembersNormal (json.member k d ms) = IsNormal d × AreMembersNormal ms

below-zero : (d : ℕ) → 0 < d → d ≤ 2 ^ 63 → (n : ℕ) × (n < 2 ^ 63) × (with_sign true d ≡ negsuc n)
below-zero zero h k = absurd (omega (arith, h))
below-zero (suc n) h k = (n, omega (arith, k), refl)

float-in_range : (sign : Bool) (p : Parts) (n : Num) → float_of sign p ≡ Some n → IsInRange n
float-in_range sign p n h = subst IsInRange (cond_some _ _ n h).1 tt

from-in_range : (sign : Bool) (p : Parts) (n : Num) → number_from sign p ≡ Some n → IsInRange n
from-in_range sign p n h = grind (arith, and_parts, below-zero, cond_both, float-in_range, leb-true, ltb-true, same_Some)

pub number-in_range : (s : Bytes) (n : Num) → number_of s ≡ Some n → IsInRange n
unfolding number_of
number-in_range s n h = cond_both _ (number_from true (scan (drop 1 s))) (number_from false (scan s)) (λ o. o ≡ Some n → IsInRange n) (λ _ e. from-in_range true (scan (drop 1 s)) n e) (λ _ e. from-in_range false (scan s) n e) h

-- ---- members put in

put-after : (l k : Bytes) (d : Data) (ms : json.Members) → AreAfter l ms → bytes_lt l k ≡ true → AreAfter l (put k d ms)
put-after l k d json.no_members h lt = (lt, tt)
put-after l k d (json.member m e ms) h lt = grind (arith, (put-after l k d ms h.1 lt))

put-ascend : (k : Bytes) (d : Data) (ms : json.Members) → Ascend ms → Ascend (put k d ms)
put-ascend k d json.no_members h = (tt, tt)
put-ascend k d (json.member m e ms) h = grind (arith, after-trans, nat_list_cmp_total, put-after, (put-ascend k d ms h.1))

pub normals : IsEach IsNormal AreMembersNormal
normals = record { made = λ k d ms h all. (h, all); first = λ k d ms h. h.0; others = λ k d ms h. h.1 }

pub put-normal : (k : Bytes) (d : Data) (ms : json.Members) → IsNormal (json.object ms) → IsNormal d → IsNormal (json.object (put k d ms))
put-normal k d ms h n = (put-ascend k d ms h.0, put-each IsNormal AreMembersNormal normals k d ms n h.1)

-- ---- what is read

map-step : {A B : Type 0} (f : A → B) (o : Option A) (b : B) (P : B → Type 0) → ((a : A) → o ≡ Some a → P (f a)) → option_map f o ≡ Some b → P b
map-step f o b P k e = grind (arith, same_Some)

mutual
  normal-json : (j : tree.Json) (d : Data) → of_json j ≡ Some d → IsNormal d
  normal-json tree.null d h = let same : json.null ≡ d = cc in subst IsNormal same tt
  normal-json (tree.boolean b) d h = let same : json.boolean b ≡ d = cc in subst IsNormal same tt
  normal-json (tree.number s) d h = map-step json.number (number_of s) d IsNormal (number-in_range s) h
  normal-json (tree.string s) d h = let same : json.string s ≡ d = cc in subst IsNormal same tt
  normal-json (tree.array js) d h = map-step json.array (of_items js) d IsNormal (normal-items js) h
  normal-json (tree.object ms) d h = map-step json.object (of_members ms json.no_members) d IsNormal (λ found is. normal-members ms json.no_members found (tt, tt) is) h

  normal-items : (js : tree.Items) (ds : json.Items) → of_items js ≡ Some ds → AreNormal ds
  normal-items tree.no_items ds h = let same : json.no_items ≡ ds = cc in subst AreNormal same tt
  normal-items (tree.item j js) ds h = option_and_then_some (λ d. option_map (json.item d) (of_items js)) (of_json j) ds h
      (λ d is e. map-step (json.item d) (of_items js) ds AreNormal (λ es at. (normal-json j d is, normal-items js es at)) e)

  normal-members : (ms : tree.Members) (found all : json.Members) → IsNormal (json.object found) → of_members ms found ≡ Some all → IsNormal (json.object all)
  normal-members tree.no_members found all n h = let same : found ≡ all = cc in subst (λ xs. IsNormal (json.object xs)) same n
  normal-members (tree.member k j ms) found all n h =
      option_and_then_some (λ d. of_members ms (put k d found)) (of_json j) all h (λ d is e. normal-members ms (put k d found) all (put-normal k d found n (normal-json j d is)) e)

pub read-normal : (text : Bytes) (d : Data) → read text ≡ Some d → IsNormal d
read-normal text d h = option_and_then_some of_json (option_and_then (λ p. tree.if_last p.0 p.1) (tree.value max_depth (tokens text))) d h (λ j is e. normal-json j d e)

-- ---- printed, and read again

number-printed : (n : Num) → IsInRange n → is_float n ≡ false → (number_of (number_text n) ≡ Some n) × IsNumber (number_text n)
number-printed n h w = grind (arith, IsNumber-decimal, IsNumber-signed_decimal, number_of-decimal, number_of-negative)

mutual
  back : (d : Data) → IsNormal d → has_float d ≡ false → of_json (outline d) ≡ Some d
  back (json.number x) n w = ap (option_map json.number) (number-printed x n w).0
  back (json.array ds) n w = ap (option_map json.array) (back-items ds n w)
  back (json.object ms) n w = ap (option_map json.object) (back-members ms json.no_members n.1 w ∙ ap Some (put-ascending ms n.0))
  back _ n w = refl

  back-items : (ds : json.Items) → AreNormal ds → items_have_float ds ≡ false → of_items (items_outline ds) ≡ Some ds
  back-items json.no_items n w = refl
  back-items (json.item d ds) n w =
      let whole = or_parts (has_float d) (items_have_float ds) w in
      ap (option_and_then (λ x. option_map (json.item x) (of_items (items_outline ds)))) (back d n.0 whole.0) ∙ ap (option_map (json.item d)) (back-items ds n.1 whole.1)

  back-members : (ms found : json.Members) → AreMembersNormal ms → members_have_float ms ≡ false → of_members (members_outline ms) found ≡ Some (put_all ms found)
  back-members json.no_members found n w = refl
  back-members (json.member k d ms) found n w =
      let whole = or_parts (has_float d) (members_have_float ms) w in
      ap (option_and_then (λ x. of_members (members_outline ms) (put k x found))) (back d n.0 whole.0) ∙ back-members ms (put k d found) n.1 whole.1

mutual
  numbers : (d : Data) → IsNormal d → has_float d ≡ false → HasNumbers (outline d)
  numbers (json.number x) n w = (number-printed x n w).1
  numbers (json.array ds) n w = items-numbers ds n w
  numbers (json.object ms) n w = members-numbers ms n.1 w
  numbers _ n w = tt

  items-numbers : (ds : json.Items) → AreNormal ds → items_have_float ds ≡ false → ItemsHaveNumbers (items_outline ds)
  items-numbers json.no_items n w = tt
  items-numbers (json.item d ds) n w = let whole = or_parts (has_float d) (items_have_float ds) w in (numbers d n.0 whole.0, items-numbers ds n.1 whole.1)

  members-numbers : (ms : json.Members) → AreMembersNormal ms → members_have_float ms ≡ false → MembersHaveNumbers (members_outline ms)
  members-numbers json.no_members n w = tt
  members-numbers (json.member k d ms) n w = let whole = or_parts (has_float d) (members_have_float ms) w in (numbers d n.0 whole.0, members-numbers ms n.1 whole.1)

mutual
  as-deep : (d : Data) → sized.depth (outline d) ≡ depth d
  as-deep (json.array ds) = ap suc (items-as-deep ds)
  as-deep (json.object ms) = ap suc (members-as-deep ms)
  as-deep _ = refl

  items-as-deep : (ds : json.Items) → sized.items_depth (items_outline ds) ≡ items_depth ds
  items-as-deep json.no_items = refl
  items-as-deep (json.item d ds) = rw (as-deep d, items-as-deep ds) refl

  members-as-deep : (ms : json.Members) → sized.members_depth (members_outline ms) ≡ members_depth ms
  members-as-deep json.no_members = refl
  members-as-deep (json.member k d ms) = rw (as-deep d, members-as-deep ms) refl

abbrev whole : Option (tree.Json × List Token) → Option Data
whole o = option_and_then of_json (option_and_then (λ p. tree.if_last p.0 p.1) o)

-- the compact text of such a value is read as the value
pub read-compact : (d : Data) → IsNormal d → has_float d ≡ false → depth d ≤ max_depth → read (compact_text d) ≡ Some d
read-compact d n w shallow =
    let j = outline d in
    let lexed : tokens (compact_text d) ≡ json_tokens j = ap tokens (sym (print-outline d)) ∙ tokens-print (json_tokens j) (ArePrintable-json_tokens j (numbers d n w)) in
    ap whole (ap (tree.value max_depth) (lexed ∙ sym (append-nil (json_tokens j))) ∙ value-json_tokens j max_depth [] (omega (arith, as-deep d, shallow))) ∙ back d n w
