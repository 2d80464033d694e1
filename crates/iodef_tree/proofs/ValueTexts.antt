-- The texts of a tree that is made of JSON values.
use Rattle.std.proofs.Common.{◌≡◌, ◌≤◌, ℕ, suc, ◌-◌, Bool, true, false, ◌&&◌, ◌||◌, List, [], ◌∷◌, refl, sym, ap, ◌∙◌, arith, true≢false, Option, Some, None}
use Rattle.std.{proofs.{Common.{is_some, nat_lt, bytes_eq}, lemmas.{Bool.{and_parts, ltb-true}, Slice.Eq.bytes_eq-Decides}}, specs.List.AllByRecursion}
use Rattle.{std.specs.Option.option_map_or, serde_json.specs.{Data.{Data, depth, items_depth}, Read.{max_depth, read}, View.view, Written.compact_text}}
use Rattle.{serde_json.specs.declared.value.Value.Value, json_pointer.specs.Text.Bytes, iodef_tree.specs.Texts.{is_plain, are_plain, is_empty, may_be_value}}
use Rattle.iodef_tree.specs.{Texts.{may_be_text, HasTexts}, Tree.{Forest, Body, says, value, Bodies, one, many, in_front, elements}, Values.bodies_of_data}
use Rattle.iodef_tree.specs.{Values.body_of_data, View.forest_of_members, declared.TheConstants.DEPTH_LIMIT, inner.FitValues.{HasBodyTexts, HaveTexts}}
use Rattle.serde_json.specs.Data as json
use Rattle.iodef_tree.specs.declared.line.Kind.TheVariants as kind

-- ---- a tree, member by member

texts-in_front : (name : Bytes) (place : Option ℕ) (b : Body) (rest : Forest) → HasBodyTexts (is_some place) b → HasTexts rest → HasTexts (in_front name place b rest)
texts-in_front name place b rest h k = grind arith

texts-elements : (name : Bytes) (bs : List Body) (k : ℕ) (rest : Forest) → AllByRecursion (HasBodyTexts true) bs → HasTexts rest → HasTexts (elements name k bs rest)
texts-elements name [] k rest all r = r
texts-elements name (b ∷ bs) k rest all r = texts-in_front name (Some k) b (elements name (suc k) bs rest) all.0 (texts-elements name bs (suc k) rest all.1 r)

pub texts-members : (ms : List (Bytes × Bodies)) → AllByRecursion (λ m. HaveTexts m.1) ms → HasTexts (forest_of_members ms)
texts-members [] all = tt
texts-members ((name, one b) ∷ ms) all = texts-in_front name None b (forest_of_members ms) all.0 (texts-members ms all.1)
texts-members ((name, many bs) ∷ ms) all = texts-elements name bs 0 (forest_of_members ms) all.0 (texts-members ms all.1)

-- ---- one value

-- a plain value is no deeper than so many arrays
mutual
  plain-depth : (deep : ℕ) (d : Data) → is_plain deep d ≡ true → depth d ≤ deep
  plain-depth deep (json.array ds) h =
      let parts = and_parts (nat_lt 0 deep) (are_plain (deep - 1) ds) h in
      let some = ltb-true 0 deep parts.0 in
      let inner = items-depth (deep - 1) ds parts.1 in
      omega (arith, some, inner)
  plain-depth deep (json.object ms) h = absurd (true≢false (sym h))
  plain-depth deep _ h = omega arith

  items-depth : (deep : ℕ) (ds : json.Items) → are_plain deep ds ≡ true → items_depth ds ≤ deep
  items-depth deep json.no_items h = omega arith
  items-depth deep (json.item d ds) h =
      let parts = and_parts (is_plain deep d) (are_plain deep ds) h in
      let a = plain-depth deep d parts.0 in
      let b = items-depth deep ds parts.1 in
      omega (arith, a, b)

value-depth : (in_array : Bool) (d : Data) → may_be_value in_array d ≡ true → depth d ≤ max_depth
value-depth in_array (json.string s) h = absurd (true≢false (sym h))
value-depth in_array (json.array ds) h =
    let low = plain-depth DEPTH_LIMIT (json.array ds) ((and_parts (is_empty ds || in_array) (is_plain DEPTH_LIMIT (json.array ds)) h).1) in omega (arith, low)
value-depth in_array (json.object ms) h = absurd (true≢false (sym h))
value-depth in_array _ h = omega arith

-- the text of such a value is one that a line may have
pub written-text : (in_array : Bool) (v : Value) (t : Bytes) → may_be_value in_array (view v) ≡ true → t ≡ compact_text (view v) → (depth (view v) ≤ max_depth → read t ≡ Some (view v)) →
    may_be_text kind.Value in_array t ≡ true
written-text in_array v t may is back =
    let d = view v in
    ap (λ o. option_map_or (λ x. may_be_value in_array x && bytes_eq (compact_text x) t) o false) (back (value-depth in_array d may))
    ∙ ap (λ b. b && bytes_eq (compact_text d) t) may
    ∙ (bytes_eq-Decides (compact_text d) t).1 (sym is)

-- the thing that such a value becomes is its text
pub value-body : (d : Data) → may_be_value true d ≡ true → body_of_data d ≡ says (value (compact_text d))
value-body (json.string s) h = absurd (true≢false (sym h))
value-body (json.object ms) h = absurd (true≢false (sym h))
value-body _ h = refl

pub value-bodies : (d : Data) → may_be_value false d ≡ true → bodies_of_data d ≡ one (says (value (compact_text d)))
value-bodies (json.string s) h = absurd (true≢false (sym h))
value-bodies (json.object ms) h = absurd (true≢false (sym h))
value-bodies (json.array (json.item d ds)) h = absurd (true≢false (sym h))
value-bodies _ h = refl
