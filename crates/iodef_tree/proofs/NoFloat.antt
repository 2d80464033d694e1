-- No part of a document means a float.
use Rattle.std.proofs.Common.{◌≡◌, ℕ, Bool, true, false, ◌&&◌, ◌||◌, List, [], ◌∷◌, map, refl, sym, true≢false, Option, Some, None, unwrap_or, bytes_eq, ◌-◌}
use Rattle.std.{proofs.{Common.{nat_lt, arith}, lemmas.Bool.{and_parts, or_from, not-true}}, specs.{List.AllByRecursion, Option.option_map_or}}
use Rattle.serde_json.specs.{Data.Data, Find.is_float, Read.read, View.items_of as listed, Written.{compact_text, has_float, items_have_float}}
use Rattle.{serde_json.specs.Written.members_have_float, json_pointer.specs.Text.Bytes, iodef_tree.specs.{Json.content_data, Texts.{may_be_value, may_be_text}}}
use Rattle.iodef_tree.specs.{Texts.{HasTexts, is_plain, are_plain, is_empty}, Tree.{Content, text, value, Forest, end, leaf, branch, Body, holds, says, Bodies}}
use Rattle.iodef_tree.specs.{Tree.{one, many, kind_of, text_of}, declared.TheConstants.DEPTH_LIMIT, inner.SoundParts.{IsBodyKept, AreKept}}
use Rattle.iodef_tree.specs.inner.Written.{placed_member, placed_item, members_of, items_of, body_data, bodies_data}
use Rattle.serde_json.specs.Data as json

-- ---- a value

mutual
  plain-no_float : (deep : ℕ) (d : Data) → is_plain deep d ≡ true → has_float d ≡ false
  plain-no_float deep (json.number n) h = not-true (is_float n) h
  plain-no_float deep (json.array ds) h = are_plain-no_float (deep - 1) ds ((and_parts (nat_lt 0 deep) (are_plain (deep - 1) ds) h).1)
  plain-no_float deep (json.object ms) h = absurd (true≢false (sym h))
  plain-no_float deep _ h = refl

  are_plain-no_float : (deep : ℕ) (ds : json.Items) → are_plain deep ds ≡ true → items_have_float ds ≡ false
  are_plain-no_float deep json.no_items h = refl
  are_plain-no_float deep (json.item d ds) h =
      let parts = and_parts (is_plain deep d) (are_plain deep ds) h in
      or_from (has_float d) (items_have_float ds) (plain-no_float deep d parts.0) (are_plain-no_float deep ds parts.1)

-- a line's value has no float
pub value-no_float : (in_array : Bool) (d : Data) → may_be_value in_array d ≡ true → has_float d ≡ false
value-no_float in_array (json.number n) h = not-true (is_float n) h
value-no_float in_array (json.array ds) h =
    plain-no_float DEPTH_LIMIT (json.array ds) ((and_parts (is_empty ds || in_array) (is_plain DEPTH_LIMIT (json.array ds)) h).1)
value-no_float in_array (json.object ms) h = absurd (true≢false (sym h))
value-no_float in_array _ h = refl

-- ---- a tree

value-whole : (a : Bool) (s : Bytes) (o : Option Data) → option_map_or (λ d. may_be_value a d && bytes_eq (compact_text d) s) o false ≡ true → has_float (unwrap_or o json.null) ≡ false
value-whole a s None h = absurd (true≢false (sym h))
value-whole a s (Some d) h = value-no_float a d ((and_parts (may_be_value a d) (bytes_eq (compact_text d) s) h).0)

content-whole : (a : Bool) (c : Content) → may_be_text (kind_of c) a (text_of c) ≡ true → has_float (content_data c) ≡ false
content-whole a (text s) h = refl
content-whole a (value s) h = value-whole a s (read s) h

placed-member-whole : (n : Bytes) (p : Option ℕ) (d : Data) (ds : json.Items) (ms : json.Members) → has_float d ≡ false → items_have_float ds ≡ false → members_have_float ms ≡ false →
    members_have_float (placed_member n p d ds ms) ≡ false
placed-member-whole n p d ds ms h k l = grind (arith, or_from)

placed-item-whole : (p : Option ℕ) (d : Data) (ds : json.Items) → has_float d ≡ false → items_have_float ds ≡ false → items_have_float (placed_item p d ds) ≡ false
placed-item-whole p d ds h k = grind (arith, or_from)

pub record IsWhole (f : Forest) : Type 0 where
  pub members : members_have_float (members_of f) ≡ false
  pub items : items_have_float (items_of f) ≡ false

pub whole : (f : Forest) → HasTexts f → IsWhole f
whole end h = record { members = refl; items = refl }
whole (leaf i rest) h = grind (arith, content-whole, placed-item-whole, placed-member-whole, (whole rest h.1))
whole (branch n p kids rest) h = grind (arith, placed-item-whole, placed-member-whole, (whole kids h.0), (whole rest h.1))

-- ---- one thing

body-whole : (a : Bool) (b : Body) → IsBodyKept a b → has_float (body_data b) ≡ false
body-whole a (holds f) k = (whole f k.texts).members
body-whole a (says c) k = content-whole a c k

pub kept-whole : (m : Bodies) → AreKept m → has_float (bodies_data m) ≡ false
kept-whole (one b) k = body-whole false b k
kept-whole (many bs) k = each bs k
  where
    each : (xs : List Body) → AllByRecursion (IsBodyKept true) xs → items_have_float (listed (map body_data xs)) ≡ false
    each [] all = refl
    each (x ∷ xs) all = or_from (has_float (body_data x)) _ (body-whole true x all.0) (each xs all.1)
