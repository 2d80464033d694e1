-- What the plain lines of a document mean: values that are read back, low, and nowhere refused by reading.
use Rattle.std.proofs.Common.{◌≡◌, ◌≤◌, ℕ, suc, ◌+◌, ◌-◌, Bool, true, false, ◌&&◌, ◌||◌, refl, sym, ap, ◌∙◌, subst, arith, true≢false, Option, Some, None}
use Rattle.std.proofs.{Common.{is_some, is_none, nat_lt, bytes_eq, decimal, unwrap_or, option_map}, lemmas.Bool.{and_parts, and_right, or_from, not-true}}
use Rattle.{std.{proofs.lemmas.Bool.{ltb-true, le-ltb}, specs.Option.option_map_or}, serde_json.specs.{Data.{Data, depth, items_depth}, Find.as_array}}
use Rattle.{serde_json.specs.{Find.{as_number, as_object, is_float}, Read.read, Written.compact_text}, iodef_tree.proofs.Fitness.{AreClear, clear-joined}}
use Rattle.iodef_tree.{proofs.{Normal.{IsNormal, read-normal}, Order.bytes_eq-true}, specs.{Json.content_data, Reading.lacking, Text.Bytes, Texts.is_plain}}
use Rattle.iodef_tree.specs.{Texts.{are_plain, is_empty, may_be_value, may_be_text}, Tree.{Content, text, value, says, one, kind_of, text_of}, Values.nodes}
use Rattle.iodef_tree.specs.{Values.{item_nodes, bodies_of_data, body_of_data}, declared.TheConstants.DEPTH_LIMIT, inner.FitValues.is_refused}
use Rattle.redaction.specs.Readable.{is_complete_incident}
use Rattle.serde_json.specs.Data as json

-- ---- a value that a line may hold is low

mutual
  plain-low : (deep : ℕ) (d : Data) → is_plain deep d ≡ true → depth d ≤ deep
  plain-low deep (json.array ds) h =
      let parts = and_parts (nat_lt 0 deep) (are_plain (deep - 1) ds) h in
      let some = ltb-true 0 deep parts.0 in
      let inner = items-low (deep - 1) ds parts.1 in
      omega (arith, some, inner)
  plain-low deep (json.object ms) h = absurd (true≢false (sym h))
  plain-low deep _ h = omega arith

  items-low : (deep : ℕ) (ds : json.Items) → are_plain deep ds ≡ true → items_depth ds ≤ deep
  items-low deep json.no_items h = omega arith
  items-low deep (json.item d ds) h =
      let parts = and_parts (is_plain deep d) (are_plain deep ds) h in
      let a = plain-low deep d parts.0 in
      let b = items-low deep ds parts.1 in
      omega (arith, a, b)

value-low : (in_array : Bool) (d : Data) → may_be_value in_array d ≡ true → depth d ≤ 32
value-low in_array (json.string s) h = absurd (true≢false (sym h))
value-low in_array (json.array ds) h = plain-low DEPTH_LIMIT (json.array ds) ((and_parts (is_empty ds || in_array) (is_plain DEPTH_LIMIT (json.array ds)) h).1)
value-low in_array (json.object ms) h = absurd (true≢false (sym h))
value-low in_array _ h = omega arith

-- ---- reading refuses nothing in it

not-refused : (o a : ℕ) (d : Data) → unwrap_or (option_map is_float (as_number d)) false ≡ false → (nat_lt 1 a && is_some (as_object d)) ≡ false → o ≤ 32 → (nat_lt DEPTH_LIMIT a && is_some (as_array d)) ≡ false →
    is_refused (record { objects = o; arrays = a; value = d }) ≡ false
not-refused o a d whole flat low shallow = or_from _ _ whole (or_from _ _ flat (or_from _ _ (le-ltb DEPTH_LIMIT o low) shallow))

-- a value that is neither an array nor an object
single : (o a : ℕ) (d : Data) → unwrap_or (option_map is_float (as_number d)) false ≡ false → is_some (as_object d) ≡ false → is_some (as_array d) ≡ false → o ≤ 32 → is_refused (record { objects = o; arrays = a; value = d }) ≡ false
single o a d whole flat shallow low = not-refused o a d whole (and_right (nat_lt 1 a) (is_some (as_object d)) flat) low (and_right (nat_lt DEPTH_LIMIT a) (is_some (as_array d)) shallow)

mutual
  plain-clear : (deep : ℕ) (d : Data) (o a : ℕ) → is_plain deep d ≡ true → a + deep ≤ 33 → o ≤ 32 → AreClear (nodes o a d)
  plain-clear deep json.null o a h k low = or_from _ false (single o a json.null refl refl refl low) refl
  plain-clear deep (json.boolean b) o a h k low = or_from _ false (single o a (json.boolean b) refl refl refl low) refl
  plain-clear deep (json.number n) o a h k low = or_from _ false (single o a (json.number n) (not-true (is_float n) h) refl refl low) refl
  plain-clear deep (json.string s) o a h k low = or_from _ false (single o a (json.string s) refl refl refl low) refl
  plain-clear deep (json.array ds) o a h k low =
      let parts = and_parts (nat_lt 0 deep) (are_plain (deep - 1) ds) h in
      let some = ltb-true 0 deep parts.0 in
      or_from _ _
      (not-refused o a (json.array ds) refl (and_right (nat_lt 1 a) false refl) low (ap (λ b. b && true) (le-ltb DEPTH_LIMIT a (omega (arith, some, k)))))
      (plain-items (deep - 1) ds o (suc a) 0 parts.1 (omega (arith, some, k)) low)
  plain-clear deep (json.object ms) o a h k low = absurd (true≢false (sym h))

  plain-items : (deep : ℕ) (ds : json.Items) (o a k : ℕ) → are_plain deep ds ≡ true → a + deep ≤ 33 → o ≤ 32 → AreClear (item_nodes o a k ds)
  plain-items deep json.no_items o a k h e low = refl
  plain-items deep (json.item d ds) o a k h e low =
      let parts = and_parts (is_plain deep d) (are_plain deep ds) h in
      clear-joined (decimal k) (nodes o a d) (item_nodes o a (suc k) ds) (plain-clear deep d o a parts.0 e low) (plain-items deep ds o a (suc k) parts.1 e low)

value-plain : (in_array : Bool) (d : Data) → may_be_value in_array d ≡ true → is_plain DEPTH_LIMIT d ≡ true
value-plain in_array json.null h = refl
value-plain in_array (json.boolean b) h = refl
value-plain in_array (json.number n) h = h
value-plain in_array (json.string s) h = refl
value-plain in_array (json.array ds) h = (and_parts (is_empty ds || in_array) (is_plain DEPTH_LIMIT (json.array ds)) h).1
value-plain in_array (json.object ms) h = h

-- ---- the thing that it becomes is its text

value-body : (d : Data) → may_be_value true d ≡ true → body_of_data d ≡ says (value (compact_text d))
value-body (json.string s) h = absurd (true≢false (sym h))
value-body (json.object ms) h = absurd (true≢false (sym h))
value-body _ h = refl

value-bodies : (d : Data) → may_be_value false d ≡ true → bodies_of_data d ≡ one (says (value (compact_text d)))
value-bodies (json.string s) h = absurd (true≢false (sym h))
value-bodies (json.object ms) h = absurd (true≢false (sym h))
value-bodies (json.array (json.item d ds)) h = absurd (true≢false (sym h))
value-bodies _ h = refl

-- ---- a plain content

-- the content is one that a line may have, in an array or not
abbrev pub MayBe : Bool → Content → Type 0
MayBe in_array c = may_be_text (kind_of c) in_array (text_of c) ≡ true

-- what the text of a value says
record Says (in_array : Bool) (s : Bytes) (o : Option Data) : Type 0 where
  pub datum : Data
  pub is : o ≡ Some datum
  pub may : may_be_value in_array datum ≡ true
  pub again : compact_text datum ≡ s

said : (in_array : Bool) (s : Bytes) (o : Option Data) → option_map_or (λ d. may_be_value in_array d && bytes_eq (compact_text d) s) o false ≡ true → Says in_array s o
said in_array s None h = absurd (true≢false (sym h))
said in_array s (Some d) h =
    let parts = and_parts (may_be_value in_array d) (bytes_eq (compact_text d) s) h in
    record { datum = d; is = refl; may = parts.0; again = bytes_eq-true (compact_text d) s parts.1 }

abbrev valued : Option Data → Data
valued o = unwrap_or o json.null

pub content-normal : (in_array : Bool) (c : Content) → MayBe in_array c → IsNormal (content_data c)
content-normal in_array (text s) h = tt
content-normal in_array (value s) h = let x = said in_array s (read s) h in subst (λ o. IsNormal (valued o)) (sym x.is) (read-normal s x.datum x.is)

pub content-low : (in_array : Bool) (c : Content) → MayBe in_array c → depth (content_data c) ≤ 32
content-low in_array (text s) h = omega arith
content-low in_array (value s) h = let x = said in_array s (read s) h in subst (λ o. depth (valued o) ≤ 32) (sym x.is) (value-low in_array x.datum x.may)

-- a value of a line in as many objects as may be, and in one array at most
pub content-clear : (in_array : Bool) (c : Content) (o a : ℕ) → MayBe in_array c → o ≤ 32 → a ≤ 1 → AreClear (nodes o a (content_data c))
content-clear in_array (text s) o a h low few = or_from _ false (single o a (json.string s) refl refl refl low) refl
content-clear in_array (value s) o a h low few =
    let x = said in_array s (read s) h in
    subst (λ y. AreClear (nodes o a (valued y))) (sym x.is) (plain-clear DEPTH_LIMIT x.datum o a (value-plain in_array x.datum x.may) (omega (arith, few)) low)

pub content-body : (c : Content) → MayBe true c → body_of_data (content_data c) ≡ says c
content-body (text s) h = refl
content-body (value s) h =
    let x = said true s (read s) h in
    ap (λ o. body_of_data (valued o)) x.is ∙ value-body x.datum x.may ∙ ap (λ t. says (value t)) x.again

pub content-bodies : (c : Content) → MayBe false c → bodies_of_data (content_data c) ≡ one (says c)
content-bodies (text s) h = refl
content-bodies (value s) h =
    let x = said false s (read s) h in
    ap (λ o. bodies_of_data (valued o)) x.is ∙ value-bodies x.datum x.may ∙ ap (λ t. one (says (value t))) x.again

-- outside arrays no content means an array with an element
no-element : (d e : Data) (ds : json.Items) → may_be_value false d ≡ true → d ≡ json.array (json.item e ds) → ⊥
no-element d e ds h is = true≢false (sym h ∙ ap (may_be_value false) is)

pub content-empty : (c : Content) (e : Data) (ds : json.Items) → MayBe false c → content_data c ≡ json.array (json.item e ds) → ⊥
content-empty (text s) e ds h is = cc
content-empty (value s) e ds h is = let x = said false s (read s) h in no-element x.datum e ds x.may (sym (ap valued x.is) ∙ is)

-- ---- no plain content is an Incident

value-incomplete : (in_array : Bool) (d : Data) → may_be_value in_array d ≡ true → is_none (lacking d) ≡ false
value-incomplete in_array (json.object ms) h = absurd (true≢false (sym h))
value-incomplete in_array _ h = refl

pub content-incomplete : (in_array : Bool) (c : Content) → MayBe in_array c → is_none (lacking (content_data c)) ≡ false
content-incomplete in_array (text s) h = refl
content-incomplete in_array (value s) h = let x = said in_array s (read s) h in subst (λ o. is_none (lacking (valued o)) ≡ false) (sym x.is) (value-incomplete in_array x.datum x.may)

value-no_incident : (d : Data) → may_be_value false d ≡ true → is_complete_incident d ≡ false
value-no_incident (json.array (json.item d ds)) h = absurd (true≢false (sym h))
value-no_incident _ h = refl

pub content-no_incident : (c : Content) → MayBe false c → is_complete_incident (content_data c) ≡ false
content-no_incident (text s) h = refl
content-no_incident (value s) h = let x = said false s (read s) h in subst (λ o. is_complete_incident (valued o) ≡ false) (sym x.is) (value-no_incident x.datum x.may)
