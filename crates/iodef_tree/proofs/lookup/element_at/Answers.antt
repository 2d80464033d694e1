use Rattle.std.proofs.Common.{◌≡◌, ℕ, zero, suc, ◌+◌, ◌<◌, ◌≤◌, List, [], ◌∷◌, length, map, get_or, Bor, nat_lt, decimal, Option, Some, None, option_map, refl}
use Rattle.std.proofs.{Common.{sym, ◌∙◌, ap, arith, is_some, IfSome, slice_get}, lemmas.{Bool.Decides.nat_tests, List.length-map, Option.slice_get_past}}
use Rattle.iodef_tree.{proofs.ByPath.{element-spelled, element-none}, specs.{View.body, declared.object.Item.Item}}
use Rattle.iodef_tree.proofs.lookup.element_at.Goals as goal

within : (items : List Item) (k : ℕ) (d : Item) → k < length items → slice_get (map body items) k ≡ Some (body (get_or items k d))
within [] k d h = absurd (omega arith)
within (x ∷ xs) zero d h = refl
within (x ∷ xs) (suc k) d h = within xs k d (omega arith)

got : (items : List Item) (k : ℕ) (r : Option (Bor Item)) → is_some r ≡ nat_lt k (length items) → IfSome r (λ x. x.now ≡ get_or items k x.now) → option_map (λ i. body i.now) r ≡ slice_get (map body items) k
got items k None h is =
    let past : length items ≤ k = grind (arith, nat_tests) in
    sym (slice_get_past (map body items) k (omega (arith, length-map items body)))
got items k (Some x) h is = let lt : k < length items = grind (arith, nat_tests) in ap (λ y. Some (body y)) is ∙ sym (within items k x.now lt)

pub returns-in_err-place_of_token-clause-found : goal.returns-in_err-place_of_token-clause-found
returns-in_err-place_of_token-clause-found c = grind (arith, element-none, length-map)

pub returns-clause-found : goal.returns-clause-found
returns-clause-found c =
    let k = c.in_ok-place_of_token.field-0 in
    let own = rw c.in_ok-place_of_token.was at c.place_of_token.type_inv in
    got c.args.items.now k c.get.result c.get.ensures.lookup.0 c.get.ensures.lookup.1
    ∙ sym (element-spelled (map body c.args.items.now) c.args.token.now 0 k (c.in_ok-place_of_token.ensures.some ∙ ap decimal (let e : k ≡ 0 + k = omega arith in e)) (omega arith))
