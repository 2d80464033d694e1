-- The lines of a document that was read are those of a sound tree.
use Rattle.std.proofs.{Common.{◌≡◌, ◌≤◌, List, Bool, true, false, ◌&&◌, refl, sym, ◌∙◌, ap, subst, arith, Ok, bytes_eq}, lemmas.Bool.{and_parts, or_parts}}
use Rattle.{std.specs.{List.AllByRecursion, Option.option_map_or}, serde_json.specs.{Data.{Data, depth, items_depth, members_depth}, Read.max_depth}}
use Rattle.{serde_json.specs.Written.{has_float, items_have_float, members_have_float, compact_text}, json_pointer.specs.Text.Bytes}
use Rattle.iodef_tree.proofs.{Counts.length-lines, DocumentLists.sound, Normal.{IsNormal, AreNormal, AreMembersNormal, read-compact}, Order.bytes_eq-refl}
use Rattle.iodef_tree.proofs.{Passed.{passed, short-ok, short-few}, ReadBack.{as_list, as-list, body-order, IsRoot, HasLines, normal-one, low-one}}
use Rattle.iodef_tree.{proofs.{ReadBack.each-document, ValueTexts.texts-members}, specs.{Laws.IsDocument, Reading.{with_incident, document_of, reading}}}
use Rattle.iodef_tree.specs.{Texts.{is_plain, may_be_value, may_be_text, HasTexts}, Tree.lines, Values.{body_of_data, items_of_data, bodies_of_data}}
use Rattle.iodef_tree.specs.{declared.{TheConstants.DEPTH_LIMIT, line.Line.Line}, inner.FitValues.{HasBodyTexts, HaveTexts, is_flat, is_element_flat, are_flat}}
use Rattle.iodef_tree.specs.inner.FitValues.{are_members_flat}
use Rattle.serde_json.specs.Data as json
use Rattle.iodef_tree.specs.declared.line.Kind.TheVariants as kind

-- ---- the texts of its plain lines

value-text : (in_array : Bool) (d : Data) → may_be_value in_array d ≡ true → IsNormal d → has_float d ≡ false → depth d ≤ max_depth → may_be_text kind.Value in_array (compact_text d) ≡ true
value-text in_array d may n w low =
    let t = compact_text d in
    ap (λ o. option_map_or (λ x. may_be_value in_array x && bytes_eq (compact_text x) t) o false) (read-compact d n w low)
    ∙ ap (λ b. b && bytes_eq t t) may
    ∙ bytes_eq-refl t

may-be-array : (ds : json.Items) → is_plain DEPTH_LIMIT (json.array ds) ≡ true → may_be_value true (json.array ds) ≡ true
may-be-array json.no_items h = h
may-be-array (json.item d ds) h = h

mutual
  element-texts : (d : Data) → IsNormal d → has_float d ≡ false → depth d ≤ max_depth → is_element_flat d ≡ true → HasBodyTexts true (body_of_data d)
  element-texts (json.string s) n w low f = refl
  element-texts (json.object ms) n w low f = subst HasTexts (as-list ms) (texts-members (as_list ms) (members-texts ms n.1 w (omega (arith, low)) f))
  element-texts (json.array ds) n w low f = value-text true (json.array ds) (may-be-array ds f) n w low
  element-texts d n w low f = value-text true d f n w low

  member-texts : (d : Data) → IsNormal d → has_float d ≡ false → depth d ≤ max_depth → is_flat d ≡ true → HaveTexts (bodies_of_data d)
  member-texts (json.string s) n w low f = refl
  member-texts (json.object ms) n w low f = subst HasTexts (as-list ms) (texts-members (as_list ms) (members-texts ms n.1 w (omega (arith, low)) f))
  member-texts (json.array json.no_items) n w low f = value-text false (json.array json.no_items) refl n w low
  member-texts (json.array (json.item d ds)) n w low f =
      let whole = or_parts (has_float d) (items_have_float ds) w in
      let flat = and_parts (is_element_flat d) (are_flat ds) f in
      (element-texts d n.0 whole.0 (omega (arith, low)) flat.0, items-texts ds n.1 whole.1 (omega (arith, low)) flat.1)
  member-texts d n w low f = value-text false d f n w low

  items-texts : (ds : json.Items) → AreNormal ds → items_have_float ds ≡ false → items_depth ds ≤ max_depth → are_flat ds ≡ true → AllByRecursion (HasBodyTexts true) (items_of_data ds)
  items-texts json.no_items n w low f = tt
  items-texts (json.item d ds) n w low f =
      let whole = or_parts (has_float d) (items_have_float ds) w in
      let flat = and_parts (is_element_flat d) (are_flat ds) f in
      (element-texts d n.0 whole.0 (omega (arith, low)) flat.0, items-texts ds n.1 whole.1 (omega (arith, low)) flat.1)

  members-texts : (ms : json.Members) → AreMembersNormal ms → members_have_float ms ≡ false → members_depth ms ≤ max_depth → are_members_flat ms ≡ true → AllByRecursion (λ m. HaveTexts m.1) (as_list ms)
  members-texts json.no_members n w low f = tt
  members-texts (json.member k d ms) n w low f =
      let whole = or_parts (has_float d) (members_have_float ms) w in
      let flat = and_parts (is_flat d) (are_members_flat ms) f in
      (member-texts d n.0 whole.0 (omega (arith, low)) flat.0, members-texts ms n.1 whole.1 (omega (arith, low)) flat.1)

-- ---- one document, and each of a body

document-one : (root : json.Members) (x : Data) (d : List Line) → IsRoot root → HasLines root x d → IsDocument d
document-one root x d r h =
    let ms = with_incident x root in
    let f = document_of x root in
    let normal = normal-one root x d r h in
    let low = low-one root x d r h in
    let counted = length-lines f 1 in
    let few = short-few (lines 1 f) d h.short in
    let texts : HasTexts f = subst HasTexts (as-list ms) (texts-members (as_list ms) (members-texts ms normal.1 h.fit.whole (omega (arith, low)) h.fit.flat)) in
    (f, sound f (body-order (json.object ms) normal) h.fit.shallow (omega (arith, counted, few)) texts, sym (short-ok (lines 1 f) d h.short))

pub readings-are-documents : (bytes : Bytes) (docs : List (List Line)) → reading bytes ≡ Ok docs → AllByRecursion IsDocument docs
readings-are-documents bytes docs h = let p = passed bytes docs h in each-document IsDocument bytes docs p (document-one p.root)
