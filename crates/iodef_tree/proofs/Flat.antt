-- If nothing is refused, no array inside an array holds an object.
use Rattle.std.proofs.Common.{◌≡◌, ◌≤◌, ℕ, suc, ◌+◌, ◌-◌, [], true, false, not, ◌&&◌, ◌||◌, refl, ap, arith, true≢false, decimal, nat_lt}
use Rattle.{std.proofs.lemmas.Bool.{and_parts, lt-ltb, and_from, Decides.nat_tests}, serde_json.specs.{Data.Data, Find.is_float}, iodef_tree.proofs.Each.IsEach}
use Rattle.iodef_tree.{proofs.Fitness.{AreClear, IsPlain, clear-apart, head}, specs.{Texts.{is_plain, are_plain}, Values.{node, nodes, item_nodes}}}
use Rattle.iodef_tree.specs.{Values.member_nodes, declared.TheConstants.DEPTH_LIMIT, inner.FitValues.{is_flat, is_element_flat, are_flat, are_members_flat}}
use Rattle.serde_json.specs.Data as json

whole-number : (x : json.Num) (o a : ℕ) → AreClear (nodes o a (json.number x)) → not (is_float x) ≡ true
whole-number x o a h = ap not (head (node o a (json.number x)) [] h).0.whole

-- an array is at most at the limit
low : (o a : ℕ) → (nat_lt DEPTH_LIMIT o || (nat_lt DEPTH_LIMIT a && true)) ≡ false → a ≤ 32
low o a e = grind (arith, nat_tests)

shallow-array : (ds : json.Items) (o a : ℕ) → AreClear (nodes o a (json.array ds)) → a ≤ 32
shallow-array ds o a h = low o a (head (node o a (json.array ds)) (item_nodes o (suc a) 0 ds) h).0.shallow

no-class : (ms : json.Members) (o a : ℕ) → 2 ≤ a → AreClear (nodes o a (json.object ms)) → true ≡ false
no-class ms o a two h = grind (arith, and_from, head, lt-ltb)

mutual
  plain : (d : Data) (o a deep : ℕ) → 2 ≤ a → deep + a ≡ 33 → AreClear (nodes o a d) → is_plain deep d ≡ true
  plain (json.number x) o a deep two e h = whole-number x o a h
  plain (json.array ds) o a deep two e h =
      let small = shallow-array ds o a h in
      and_from (nat_lt 0 deep) _ (lt-ltb 0 deep (omega (arith, small, e))) (all-plain ds o (suc a) 0 (deep - 1) (omega (arith, two)) (omega (arith, small, e)) (head (node o a (json.array ds)) (item_nodes o (suc a) 0 ds) h).1)
  plain (json.object ms) o a deep two e h = absurd (true≢false (no-class ms o a two h))
  plain _ o a deep two e h = refl

  all-plain : (ds : json.Items) (o a k deep : ℕ) → 2 ≤ a → deep + a ≡ 33 → AreClear (item_nodes o a k ds) → are_plain deep ds ≡ true
  all-plain json.no_items o a k deep two e h = refl
  all-plain (json.item d ds) o a k deep two e h =
      let parts = clear-apart (decimal k) (nodes o a d) (item_nodes o a (suc k) ds) h in
      and_from (is_plain deep d) _ (plain d o a deep two e parts.0) (all-plain ds o a (suc k) deep two e parts.1)

mutual
  flat : (d : Data) (o : ℕ) → AreClear (nodes o 0 d) → is_flat d ≡ true
  flat (json.number x) o h = whole-number x o 0 h
  flat (json.array ds) o h = all-flat ds o 0 (head (node o 0 (json.array ds)) (item_nodes o 1 0 ds) h).1
  flat (json.object ms) o h = members-flat ms (suc o) (head (node o 0 (json.object ms)) (member_nodes (suc o) ms) h).1
  flat _ o h = refl

  element-flat : (d : Data) (o : ℕ) → AreClear (nodes o 1 d) → is_element_flat d ≡ true
  element-flat (json.number x) o h = whole-number x o 1 h
  element-flat (json.array ds) o h = all-plain ds o 2 0 31 (omega arith) refl (head (node o 1 (json.array ds)) (item_nodes o 2 0 ds) h).1
  element-flat (json.object ms) o h = members-flat ms (suc o) (head (node o 1 (json.object ms)) (member_nodes (suc o) ms) h).1
  element-flat _ o h = refl

  all-flat : (ds : json.Items) (o k : ℕ) → AreClear (item_nodes o 1 k ds) → are_flat ds ≡ true
  all-flat json.no_items o k h = refl
  all-flat (json.item d ds) o k h =
      let parts = clear-apart (decimal k) (nodes o 1 d) (item_nodes o 1 (suc k) ds) h in
      and_from (is_element_flat d) _ (element-flat d o parts.0) (all-flat ds o (suc k) parts.1)

  members-flat : (ms : json.Members) (o : ℕ) → AreClear (member_nodes o ms) → are_members_flat ms ≡ true
  members-flat json.no_members o h = refl
  members-flat (json.member name d ms) o h =
      let parts = clear-apart name (nodes o 0 d) (member_nodes o ms) h in
      and_from (is_flat d) _ (flat d o parts.0) (members-flat ms o parts.1)

pub plain-flat : (ms : json.Members) → IsPlain (json.object ms) → are_members_flat ms ≡ true
plain-flat ms p = flat (json.object ms) 0 p

pub flats : IsEach (λ d. is_flat d ≡ true) (λ ms. are_members_flat ms ≡ true)
flats = grind (arith, and_from, and_parts)
