-- If no value is too deep, the trees are low.
use Rattle.std.proofs.{Common.{◌≡◌, ℕ, suc, ◌+◌, ◌≤◌, max, List, [], ◌∷◌, nat_lt, ◌&&◌, arith, decimal, is_some}, lemmas.Bool.{ltb-false, or_parts}}
use Rattle.{serde_json.specs.{Data.Data, Find.as_array}, json_pointer.specs.Text.Bytes, iodef_tree.proofs.{Each.IsEach, Fitness.{AreClear, clear-apart, head}}}
use Rattle.iodef_tree.specs.{Tree.{Forest, Body, holds, says, Bodies, one, many, elements, member_front, height}, Values.{Node, node, nodes, item_nodes}}
use Rattle.iodef_tree.specs.Values.{member_nodes, one_or_many, bodies_of_data, body_of_data, elements_of_data, items_of_data, forest_of_data}
use Rattle.iodef_tree.specs.declared.TheConstants.{DEPTH_LIMIT}
use Rattle.serde_json.specs.Data as json

abbrev pub body_height : Body → ℕ
body_height (holds kids) = suc (height kids)
body_height (says content) = 1

abbrev pub tallest : List Body → ℕ
tallest [] = 0
tallest (b ∷ bs) = max (body_height b) (tallest bs)

abbrev pub bodies_height : Bodies → ℕ
bodies_height (one b) = body_height b
bodies_height (many bs) = tallest bs

height-elements : (name : Bytes) (k : ℕ) (bs : List Body) (rest : Forest) → height (elements name k bs rest) ≡ max (tallest bs) (height rest)
height-elements name k [] rest = omega arith
height-elements name k (b ∷ bs) rest = grind (arith, (height-elements name (suc k) bs rest))

pub height-member_front : (name : Bytes) (m : Bodies) (rest : Forest) → height (member_front name m rest) ≡ max (bodies_height m) (height rest)
height-member_front name m rest = grind (arith, height-elements)

bodies_le : (b : Body) (bs : List Body) (n : ℕ) → body_height b ≤ n → tallest bs ≤ n → bodies_height (one_or_many b bs) ≤ n
bodies_le b bs n p q = grind arith

here : (d : Data) (o a : ℕ) (rest : List Node) → AreClear (node o a d ∷ rest) → o ≤ 32
here d o a rest e = ltb-false DEPTH_LIMIT o (or_parts _ (nat_lt DEPTH_LIMIT a && is_some (as_array d)) (head (node o a d) rest e).0.shallow).0

mutual
  low_body : (d : Data) (o a : ℕ) → AreClear (nodes o a d) → o + body_height (body_of_data d) ≤ 33
  low_body (json.array ds) o a e = let h = here (json.array ds) o a (item_nodes o (suc a) 0 ds) e in omega arith
  low_body (json.object ms) o a e =
      let h = here (json.object ms) o a (member_nodes (suc o) ms) e in
      let m = low_members ms (suc o) (omega arith) (head (node o a (json.object ms)) (member_nodes (suc o) ms) e).1 in omega (arith, m)
  low_body d o a e = let h = here d o a [] e in omega arith

  low_elements : (d : Data) (o a : ℕ) → AreClear (nodes o a d) → o + tallest (elements_of_data d) ≤ 33
  low_elements (json.array ds) o a e =
      let h = here (json.array ds) o a (item_nodes o (suc a) 0 ds) e in
      low_items ds o (suc a) 0 (omega arith) (head (node o a (json.array ds)) (item_nodes o (suc a) 0 ds) e).1
  low_elements (json.object ms) o a e = let h = here (json.object ms) o a (member_nodes (suc o) ms) e in omega arith
  low_elements d o a e = let h = here d o a [] e in omega arith

  low_items : (ds : json.Items) (o a k : ℕ) → o ≤ 33 → AreClear (item_nodes o a k ds) → o + tallest (items_of_data ds) ≤ 33
  low_items json.no_items o a k le e = omega arith
  low_items (json.item d ds) o a k le e =
      let h = clear-apart (decimal k) (nodes o a d) (item_nodes o a (suc k) ds) e in
      let x = low_body d o a h.0 in
      let y = low_items ds o a (suc k) le h.1 in omega (arith, x, y)

  pub low_members : (ms : json.Members) (o : ℕ) → o ≤ 33 → AreClear (member_nodes o ms) → o + height (forest_of_data ms) ≤ 33
  low_members json.no_members o le e = omega arith
  low_members (json.member name d ms) o le e =
      let h = clear-apart name (nodes o 0 d) (member_nodes o ms) e in
      let x = low_body d o 0 h.0 in
      let y = low_elements d o 0 h.0 in
      let z = low_members ms o le h.1 in
      let w : bodies_height (bodies_of_data d) ≤ max (body_height (body_of_data d)) (tallest (elements_of_data d)) = bodies_le (body_of_data d) (elements_of_data d) _ (omega arith) (omega arith) in
      let m = height-member_front name (bodies_of_data d) (forest_of_data ms) in
      omega (arith, x, y, z, w, m)

-- a tree is as low as each of its members
pub heights : (n : ℕ) → IsEach (λ d. bodies_height (bodies_of_data d) ≤ n) (λ ms. height (forest_of_data ms) ≤ n)
heights n = grind (arith, height-member_front)

pub tallest_le : (b : Body) (bs : List Body) → tallest bs ≤ bodies_height (one_or_many b bs)
tallest_le b bs = grind arith
