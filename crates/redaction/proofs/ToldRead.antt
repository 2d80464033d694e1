-- An answer about a report is an excerpt of one of its documents, and is read exactly if it is readable.
use Rattle.std.proofs.Common.{◌≡◌, ℕ, zero, suc, Bool, true, false, not, List, [], ◌∷◌, slice_get, refl, sym, ap, ◌∙◌, subst, arith, true≢false, if◌then◌else◌}
use Rattle.std.{proofs.{Common.{Option, Some, None, is_some, Result, Ok, Err}, lemmas.Bool.and_parts}, specs.{List.{AllByRecursion, list_all}, Str.is_utf8}}
use Rattle.iodef_tree.{proofs.ReadSound.readings-are-documents, specs.{Laws.IsDocument, Paths.located, Reading.reading, Text.Bytes, Tree.lines}}
use Rattle.{iodef_tree.specs.declared.{fault.ReadFault.ReadFault, line.Line.Line}, marking.specs.Marks.first_bad_marking, policy.specs.declared.case.Case.Case}
use Rattle.{policy.specs.declared.standing.Standing.Standing, redact.specs.Told.{Told, kept_outline, excerpt_of, is_listed}}
use Rattle.redaction.{proofs.ExcerptsRead.{HasOne, read-ones, outline-read}, specs.{Answers.{told_of, told_by_view}, Asked.{or_read_fault, read_of}}}
use Rattle.redaction.specs.{Asked.{is_well_marked, reported, incident_of, case_stands, asked_of}, Described.described, Laws.IsReadExactly}
use Rattle.redaction.specs.{Laws.ExcerptsReadExactly, Outcome.{Read, ◌>>=◌, or_fault, require}, Readable.outline_text, declared.asked.Asked.Asked}
use Rattle.redaction.specs.declared.{fault.Fault.{Fault, TheVariants.{BadMarking, NoIncident, NoClass, NothingVisible}}, view.View.View}
use Rattle.redact.specs.Told as redact

-- ---- a reading that has a value

both-ok : {A B : Type 0} (r : Read A) (f : A → Read B) (y : B) → (r >>= f) ≡ Ok y → (x : A) × (r ≡ Ok x) × (f x ≡ Ok y)
both-ok r f y h = grind arith

some-ok : {A : Type 0} (e : Fault) (o : Option A) (x : A) → or_fault e o ≡ Ok x → o ≡ Some x
some-ok e o x h = grind arith

required : (b : Bool) (e : Fault) (x : Unit {0}) → require b e ≡ Ok x → b ≡ true
required true e x h = refl
required false e x h = cc

ok-same : {A : Type 0} (x y : A) → ◌≡◌ {A = Read A} (Ok x) (Ok y) → x ≡ y
ok-same x y h = cc

read-ok : (r : Result (List (List Line)) ReadFault) (ds : List (List Line)) → or_read_fault r ≡ Ok ds → r ≡ Ok ds
read-ok (Ok x) ds h = let same : x ≡ ds = cc in ap Ok same
read-ok (Err e) ds h = cc

-- ---- one of the documents

among : {X : Type 0} (P : X → Type 0) (xs : List X) (k : ℕ) (x : X) → slice_get xs k ≡ Some x → AllByRecursion P xs → P x
among P [] k x is all = cc
among P (y ∷ ys) zero x is all = let same : y ≡ x = cc in subst P same all.0
among P (y ∷ ys) (suc k) x is all = among P ys k x is all.1

marked : (xs : List (List Line)) → list_all is_well_marked xs ≡ true → AllByRecursion (λ d. is_well_marked d ≡ true) xs
marked [] h = tt
marked (d ∷ ds) h = let parts = and_parts (is_well_marked d) (list_all is_well_marked ds) h in (parts.0, marked ds parts.1)

none-bad : (o : Option (List Bytes)) → not (is_some o) ≡ true → o ≡ None
none-bad None h = refl
none-bad (Some x) h = absurd (true≢false (sym h))

-- what is known of the document of an Incident
record IsReported (d : List Line) : Type 0 where
  pub document : IsDocument d
  pub one : HasOne d
  pub marked : first_bad_marking (located d) ≡ None

incident-reported : (report : Bytes) (k : ℕ) (d : List Line) → incident_of report k ≡ Ok d → IsReported d
unfolding incident_of reported
incident-reported report k d h =
    let all = both-ok (reported report) _ d h in
    let found = some-ok NoIncident (slice_get all.0 k) d all.2 in
    let given = both-ok (read_of report) _ all.0 all.1 in
    let fine = both-ok (require (list_all is_well_marked given.0) BadMarking) _ all.0 given.2 in
    let same = ok-same given.0 all.0 fine.2 in
    let read : reading report ≡ Ok all.0 = read-ok (reading report) given.0 given.1 ∙ ap Ok same in
    let well = marked all.0 (ap (list_all is_well_marked) (sym same) ∙ required (list_all is_well_marked given.0) BadMarking fine.0 fine.1) in
    record {
      document = among IsDocument all.0 k d found (readings-are-documents report all.0 read);
      one = among HasOne all.0 k d found (read-ones report all.0 read);
      marked = none-bad (first_bad_marking (located d)) (among (λ x. is_well_marked x ≡ true) all.0 k d found well);
    }

asked-reported : (report : Bytes) (view : View) (asked : Asked) → asked_of report view ≡ Ok asked → IsReported asked.document
unfolding asked_of
asked-reported report view asked h =
    let document = both-ok (incident_of report view.incident) _ asked h in
    let stands = both-ok (require (case_stands (located document.0) view.case) NoClass) _ asked document.2 in
    let same = ok-same _ asked stands.2 in
    subst IsReported (ap (λ (a : Asked). a.document) same) (incident-reported report view.incident document.0 document.1)

-- ---- what is answered

told-outline : (d : List Line) (c : Case) (s : Standing) (told : Told) → excerpt_of d c s ≡ Some told → kept_outline d c s ≡ told.outline
told-outline d c s told h = by_list (is_listed d c s) h
  where
    by_list : (b : Bool) → (if b then Some (redact.told_of d c s) else None) ≡ Some told → kept_outline d c s ≡ told.outline
    by_list true e = let same : redact.told_of d c s ≡ told = cc in ap (λ (t : Told). t.outline) same
    by_list false e = cc

kept-read : (d : List Line) (c : Case) (s : Standing) → IsReported d → is_utf8 (outline_text (kept_outline d c s)) ≡ true → IsReadExactly (kept_outline d c s)
kept-read d c s r utf8 =
    let f = r.document.0 in
    let is : d ≡ lines 1 f = r.document.2 in
    subst (λ ls. is_utf8 (outline_text (kept_outline ls c s)) ≡ true → IsReadExactly (kept_outline ls c s)) (sym is)
    (outline-read f c s r.document.1 (ap (λ ls. first_bad_marking (located ls)) (sym is) ∙ r.marked) (subst HasOne is r.one)) utf8

pub told-read : ExcerptsReadExactly
unfolding told_of told_by_view
told-read report description told h utf8 =
    let view = both-ok (described description) _ told h in
    let asked = both-ok (asked_of report view.0) _ told view.2 in
    let found = some-ok NothingVisible (excerpt_of asked.0.document asked.0.case asked.0.reader) told asked.2 in
    let same = told-outline asked.0.document asked.0.case asked.0.reader told found in
    subst IsReadExactly same
    (kept-read asked.0.document asked.0.case asked.0.reader (asked-reported report view.0 asked.0 asked.1) (ap (λ ls. is_utf8 (outline_text ls)) same ∙ utf8))
