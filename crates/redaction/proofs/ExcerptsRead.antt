-- The document of an excerpt is read exactly if its outline is readable: it is that of a sound tree, and has one
-- Incident at most.
use Rattle.std.proofs.Common.{◌≡◌, ◌≤◌, ℕ, suc, ◌+◌, cond, if◌then◌else◌, Bool, true, false, ◌||◌, ◌==◌, List, [], ◌∷◌, map, filter, length, refl, sym, ap, ◌∙◌}
use Rattle.std.proofs.Common.{subst, arith, true≢false, Option, Some, None, Ok, Err, nat_lt, bytes_eq, codes, Ordering, Less, Equal, Greater, is_lt, is_eq}
use Rattle.std.{proofs.lemmas.{Bool.{and_right, cond_both}, Cmp.{nat_list_cmp_total, tied_itself}, Map.Text.is_eq-slice_cmp}, specs.Cmp.Lexicographic.slice_cmp}
use Rattle.{std.specs.{List.AllByRecursion, Ordering.{nat_cmp, match_ordering}, Str.is_utf8}, serde_json.specs.{Data.{Data, put}, Find.as_object, Read.read}}
use Rattle.iodef_tree.proofs.{Fitness.bind-ok, Normal.{IsNormal, read-normal}, Order.{bytes_eq-true, bytes_lt-ne_back, bytes_lt-trans, is_false}}
use Rattle.iodef_tree.specs.{Paths.{LocatedLine, located_after, located}, Reading.{◌>>=◌, or_fault, incidents_of, all_complete, all_fit, parsed, document_of}}
use Rattle.iodef_tree.specs.{Reading.{if_short, documents, reading}, Sound.IsSound, Text.{Bytes, bytes_lt}, Tree.{Forest, Body, Bodies, holds, says, one, many}}
use Rattle.iodef_tree.specs.{Tree.{in_front, elements, member_front, lines}, Values.{forest_of_data, bodies_of_data, body_of_data}}
use Rattle.iodef_tree.specs.declared.{TheConstants.LINE_LIMIT, fault.ReadFault.{ReadFault, TheVariants.{NotDocument, TooManyLines}}, line.Line.Line}
use Rattle.{marking.specs.Marks.{label_at, first_bad_marking}, policy.specs.declared.{case.Case.Case, standing.Standing.Standing}}
use Rattle.redact.{proofs.{Counts.AreLabelNames, Spelling.label-names, Whole.{left-sound, left-lines}}, specs.Kept.{Attribute, Verdicts, put as put_line}}
use Rattle.redact.specs.Kept.{put_all, attribute_line, attribute_lines, stands_before, is_kept, says_label, added_label_lines, with_added_labels}
use Rattle.{redact.specs.{Told.{verdicts_of, kept_outline}, inner.Judged.{judge, root as document_root, cut}}, redaction.proofs.ReadExactly.{incident, own}}
use Rattle.redaction.{proofs.ReadExactly.{count-cons, leaf-count, branch-count, read-exactly}, specs.{Laws.IsReadExactly, Readable.outline_text}}
use Rattle.redaction.specs.Readable.{is_incident_line, incident_count}
use Rattle.serde_json.specs.Data as json

-- ---- a document that was read has one Incident

abbrev one_count : Forest → ℕ
one_count f = incident_count (lines 1 f)

front-count : (n : Bytes) (place : Option ℕ) (b : Body) (rest : Forest) → one_count (in_front n place b rest) ≡ own n + one_count rest
front-count n place (holds kids) rest = branch-count n place kids rest
front-count n place (says c) rest = leaf-count (record { name = n; place = place; content = c }) rest

other-elements : (n : Bytes) (k : ℕ) (bs : List Body) (rest : Forest) → own n ≡ 0 → one_count (elements n k bs rest) ≡ one_count rest
other-elements n k [] rest e = refl
other-elements n k (b ∷ bs) rest e = omega (arith, e, front-count n (Some k) b (elements n (suc k) bs rest), other-elements n (suc k) bs rest e)

other-count : (n : Bytes) (m : Bodies) (rest : Forest) → own n ≡ 0 → one_count (member_front n m rest) ≡ one_count rest
other-count n (one b) rest e = omega (arith, e, front-count n None b rest)
other-count n (many bs) rest e = other-elements n 0 bs rest e

own-most : (n : Bytes) → own n ≤ 1
own-most n = elim (bytes_eq n incident) as (λ b. cond b 1 0 ≤ 1) [ true ↦ omega arith | false ↦ omega arith ]

own-other : (n : Bytes) → bytes_eq n incident ≡ false → own n ≡ 0
own-other n e = ap {B = ℕ} (λ b. cond b 1 0) e

-- the Incident that is put in is one
one-member : (n : Bytes) (x : Data) (rest : Forest) → one_count (member_front n (bodies_of_data (json.array (json.item x json.no_items))) rest) ≤ 1 + one_count rest
one-member n x rest = omega (arith, own-most n, front-count n (Some 0) (body_of_data x) rest)

-- each of these names is later
abbrev AreLater : Bytes → json.Members → Type 0
AreLater n json.no_members = Unit {0}
AreLater n (json.member m e ms) = (bytes_lt n m ≡ true) × AreLater n ms

later-names : (l : Bytes) (d : Data) (ms : json.Members) → IsNormal (json.object (json.member l d ms)) → AreLater l ms
later-names l d json.no_members h = tt
later-names l d (json.member m e ms) h = (h.0.0.0, later-names l d ms (((h.0.0.1, h.0.1.1), (h.1.0, h.1.1.1))))

others-normal : (l : Bytes) (d : Data) (ms : json.Members) → IsNormal (json.object (json.member l d ms)) → IsNormal (json.object ms)
others-normal l d ms h = (h.0.1, h.1.1)

later-than : (k l : Bytes) (ms : json.Members) → bytes_lt k l ≡ true → AreLater l ms → AreLater k ms
later-than k l json.no_members h all = tt
later-than k l (json.member m e ms) h all = (bytes_lt-trans k l m h all.0, later-than k l ms h all.1)

none-later : (ms : json.Members) → AreLater incident ms → one_count (forest_of_data ms) ≡ 0
none-later json.no_members h = refl
none-later (json.member m e ms) h = other-count m (bodies_of_data e) (forest_of_data ms) (own-other m (bytes_lt-ne_back incident m h.0)) ∙ none-later ms h.1

abbrev lone : Data → Data
lone x = json.array (json.item x json.no_items)

equal-name : (k l : Bytes) → slice_cmp nat_cmp k l ≡ Equal → k ≡ l
equal-name k l e = bytes_eq-true k l (sym (is_eq-slice_cmp k l) ∙ ap is_eq e)

-- a name that comes later than another isn't the other
greater-name : (k l : Bytes) → slice_cmp nat_cmp k l ≡ Greater → bytes_eq l k ≡ false
greater-name k l e = is_false (bytes_eq l k) (λ same. let again : slice_cmp nat_cmp k l ≡ Equal = ap (λ x. slice_cmp nat_cmp k x) (bytes_eq-true l k same) ∙ tied_itself nat_list_cmp_total k in cc)

put-count : (x : Data) (ms : json.Members) → IsNormal (json.object ms) → one_count (forest_of_data (put incident (lone x) ms)) ≤ 1
put-count x json.no_members h = one-member incident x (forest_of_data json.no_members)
put-count x (json.member l e ms) h = step (slice_cmp nat_cmp incident l) refl (put-count x ms (others-normal l e ms h))
  where
    step : (o : Ordering) → slice_cmp nat_cmp incident l ≡ o → one_count (forest_of_data (put incident (lone x) ms)) ≤ 1 →
        one_count (forest_of_data (match_ordering o (json.member incident (lone x) (json.member l e ms)) (json.member l (lone x) ms) (json.member l e (put incident (lone x) ms)))) ≤ 1
    step Less cmp others =
        let all : AreLater incident (json.member l e ms) = (ap is_lt cmp, later-than incident l ms (ap is_lt cmp) (later-names l e ms h)) in
        omega (arith, one-member incident x (forest_of_data (json.member l e ms)), none-later (json.member l e ms) all)
    step Equal cmp others =
        let same = equal-name incident l cmp in
        omega (arith, one-member l x (forest_of_data ms), none-later ms (subst (λ n. AreLater n ms) (sym same) (later-names l e ms h)))
    step Greater cmp others =
        omega (arith, others, other-count l (bodies_of_data e) (forest_of_data (put incident (lone x) ms)) (own-other l (greater-name incident l cmp)))

short-is : (ls : List Line) (d : List Line) → if_short ls ≡ Ok d → ls ≡ d
short-is ls d h = cond_both (nat_lt LINE_LIMIT (length ls)) (Err TooManyLines) (Ok ls) (λ r. r ≡ Ok d → ls ≡ d) (λ _ e. absurd (cc)) (λ _ e. cc) h

abbrev pub HasOne : List Line → Type 0
HasOne d = incident_count d ≤ 1

ones : (root : json.Members) (ds : json.Items) (docs : List (List Line)) → IsNormal (json.object root) → documents root ds ≡ Ok docs → AllByRecursion HasOne docs
ones root json.no_items docs h given = let none : [] ≡ docs = cc in subst (AllByRecursion HasOne) none tt
ones root (json.item x ds) docs h given =
    let here = bind-ok (if_short (lines 1 (document_of x root))) (λ first. documents root ds >>= λ others. Ok (first ∷ others)) docs given in
    let more = bind-ok (documents root ds) (λ others. Ok (here.0 ∷ others)) docs here.2 in
    let whole : here.0 ∷ more.0 ≡ docs = let e = more.2 in cc in
    subst (AllByRecursion HasOne) whole
    (subst HasOne (short-is (lines 1 (document_of x root)) here.0 here.1) (put-count x root h), ones root ds more.0 h more.1)

read-some : {A : Type 0} (e : ReadFault) (o : Option A) (x : A) → or_fault e o ≡ Ok x → o ≡ Some x
read-some e o x h = grind arith

parsed-ok : (bytes : Bytes) (d : Data) → parsed bytes ≡ Ok d → read bytes ≡ Some d
parsed-ok bytes d h = grind (arith, cond_both)

object-of : (d : Data) (root : json.Members) → as_object d ≡ Some root → d ≡ json.object root
object-of d root h = grind arith

pub read-ones : (bytes : Bytes) (docs : List (List Line)) → reading bytes ≡ Ok docs → AllByRecursion HasOne docs
unfolding reading
read-ones bytes docs h =
    let body = bind-ok (parsed bytes) _ docs h in
    let root = bind-ok (or_fault NotDocument (as_object body.0)) _ docs body.2 in
    let incidents = bind-ok (or_fault NotDocument (incidents_of root.0)) _ docs root.2 in
    let complete = bind-ok (all_complete 0 incidents.0) _ docs incidents.2 in
    let fine = bind-ok (all_fit body.0) _ docs complete.2 in
    let is : body.0 ≡ json.object root.0 = object-of body.0 root.0 (read-some NotDocument (as_object body.0) root.0 root.1) in
    ones root.0 incidents.0 docs (read-normal bytes (json.object root.0) (parsed-ok bytes body.0 body.1 ∙ ap Some is)) fine.2

-- ---- an excerpt has no more Incidents than its document

label-name : (n : Bytes) (b c : Bool) → bytes_eq n (codes "restriction") ≡ b → bytes_eq n (codes "ext-restriction") ≡ c → (b || c) ≡ true → bytes_eq n incident ≡ false
label-name n true c p q h = ap (λ x. bytes_eq x incident) (bytes_eq-true n (codes "restriction") p)
label-name n false true p q h = ap (λ x. bytes_eq x incident) (bytes_eq-true n (codes "ext-restriction") q)
label-name n false false p q h = absurd (true≢false (sym h))

put-line-count : (x : Line) (es : List Line) → is_incident_line x ≡ false → incident_count (put_line x es) ≡ incident_count es
put-line-count x [] h = count-cons x [] ∙ ap {B = ℕ} (λ b. cond b 1 0 + 0) h
put-line-count x (e ∷ es) h =
    elim (stands_before x e) as (λ b. incident_count (if b then x ∷ e ∷ es else e ∷ put_line x es) ≡ incident_count (e ∷ es)) [
      | true ↦ omega (arith, count-cons x (e ∷ es), ap {B = ℕ} (λ b. cond b 1 0) h)
      | false ↦ omega (arith, count-cons e (put_line x es), count-cons e es, put-line-count x es h)
    ]

attributes-count : (d : ℕ) (xs : List Attribute) (es : List Line) → AreLabelNames xs → incident_count (put_all (attribute_lines d xs) es) ≡ incident_count es
attributes-count d [] es names = refl
attributes-count d (a ∷ xs) es names =
    put-line-count (attribute_line d a) (put_all (attribute_lines d xs) es)
    (and_right (d == 1) (bytes_eq a.0 incident) (label-name a.0 (bytes_eq a.0 (codes "restriction")) (bytes_eq a.0 (codes "ext-restriction")) refl refl names.0))
    ∙ attributes-count d xs es names.1

abbrev lines_of : List LocatedLine → List Line
lines_of es = map (λ e. e.line) es

located-back : (ls : List Line) (before : List LocatedLine) → lines_of (located_after before ls) ≡ ls
located-back [] before = refl
located-back (l ∷ ls) before = ap (λ xs. l ∷ xs) (located-back ls _)

module _ (v : Verdicts) (names : (e : LocatedLine) → AreLabelNames (v.label e.path)) where
  added-count : (e : LocatedLine) (es : List Line) → incident_count (put_all (added_label_lines v e) es) ≡ incident_count es
  added-count e es =
      elim (says_label v e) as (λ b. incident_count (put_all (if b then attribute_lines (suc e.line.depth) (v.label e.path) else []) es) ≡ incident_count es) [
        | true ↦ attributes-count (suc e.line.depth) (v.label e.path) es (names e)
        | false ↦ refl
      ]

  labels-count : (es : List LocatedLine) → incident_count (with_added_labels v es) ≡ incident_count (lines_of es)
  labels-count [] = refl
  labels-count (e ∷ es) =
      omega (
        arith,
        count-cons e.line (put_all (added_label_lines v e) (with_added_labels v es)),
        count-cons e.line (lines_of es),
        added-count e (with_added_labels v es),
        labels-count es,
      )

  kept-count : (es : List LocatedLine) → incident_count (lines_of (filter (is_kept v) es)) ≤ incident_count (lines_of es)
  kept-count [] = omega arith
  kept-count (e ∷ es) =
      elim (is_kept v e) as (λ b. incident_count (lines_of (if b then e ∷ filter (is_kept v) es else filter (is_kept v) es)) ≤ incident_count (lines_of (e ∷ es))) [
        | true ↦ omega (arith, kept-count es, count-cons e.line (lines_of (filter (is_kept v) es)), count-cons e.line (lines_of es))
        | false ↦ omega (arith, kept-count es, count-cons e.line (lines_of es))
      ]

outline-count : (ls : List Line) (c : Case) (s : Standing) → incident_count (kept_outline ls c s) ≤ incident_count ls
outline-count ls c s =
    let v = verdicts_of (located ls) c s in
    omega (
      arith,
      labels-count v (λ e. label-names (label_at (located ls) e.path)) (filter (is_kept v) (located ls)),
      kept-count v (λ e. label-names (label_at (located ls) e.path)) (located ls),
      ap incident_count (located-back ls []),
    )

-- ---- the document of an excerpt

pub outline-read : (f : Forest) (c : Case) (s : Standing) → IsSound f → first_bad_marking (located (lines 1 f)) ≡ None → incident_count (lines 1 f) ≤ 1 →
    is_utf8 (outline_text (kept_outline (lines 1 f) c s)) ≡ true → IsReadExactly (kept_outline (lines 1 f) c s)
outline-read f c s sound ok count utf8 =
    let same = left-lines f c s sound ok in
    let g = cut document_root 0 (judge (verdicts_of (located (lines 1 f)) c s) [] f) in
    subst IsReadExactly (sym same)
    (read-exactly g (left-sound f c s sound ok) (omega (arith, count, outline-count (lines 1 f) c s, ap incident_count same)) (ap (λ xs. is_utf8 (outline_text xs)) (sym same) ∙ utf8))
