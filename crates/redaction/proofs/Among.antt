-- What the definitions say from the documents of a report on is what Asked and Answers say of the report.
use Rattle.std.proofs.Common.{◌≡◌, ◌≢◌, ◌∙◌, refl, sym, ap, ap₂, subst, ℕ, List, [], ◌∷◌, map, Bool, true, false, Option, Some, None, Ok, Err, IfOk, IfErr}
use Rattle.{std.specs.{Borrow.Bor, Prelude.slice_get, Result.IsErrAnd, declared.{alloc.Global.Global, vec.Vec.Vec}}, serde_json.specs.Written.compact_text}
use Rattle.{iodef_tree.specs.{Paths.located, Text.Bytes, declared.line.Line.Line}, redact.specs.{Excerpts.told_by, declared.excerpts.Excerpt.Excerpt}}
use Rattle.redaction.specs.{Answers.{excerpt_object, told_by_view, excerpt_text, excerpt_texts, texts_by}, Asked.{case_stands, reported, incident_of, asked_of}}
use Rattle.redaction.specs.{Described.described, Outcome.{Read, ◌>>=◌, or_fault, require, YieldsAs}, declared.fault.Fault.{Fault, TheVariants.NoMemory}}
use Rattle.redaction.specs.{declared.{fault.Fault.TheVariants.{NoIncident, NoClass}, view.View.View}, inner.Among.{told_among, text_among}}

-- two readings go on alike behind the same reading
pub goes-on : {A B : Type 0} (r : Read A) (f g : A → Read B) → ((x : A) → f x ≡ g x) → (r >>= f) ≡ (r >>= g)
goes-on (Ok x) f g same = same x
goes-on (Err e) f g same = refl

-- two readings of a value that may be missing go on alike, each in two steps
pub found-alike :
    {A B C D : Type 0} (o : Option A) (f : A → Read B) (f' : A → Read C) (g : B → Read D) (g' : C → Read D) →
    ((x : A) → (f x >>= g) ≡ (f' x >>= g')) → ((or_fault NoIncident o >>= f) >>= g) ≡ ((or_fault NoIncident o >>= f') >>= g')
found-alike None f f' g g' same = refl
found-alike (Some x) f f' g g' same = same x

-- two readings behind a test go on alike
pub required-alike :
    {B C D : Type 0} (b : Bool) (x : B) (y : C) (g : B → Read D) (g' : C → Read D) → g x ≡ g' y →
    ((require b NoClass >>= λ _. Ok x) >>= g) ≡ ((require b NoClass >>= λ _. Ok y) >>= g')
required-alike true x y g g' same = same
required-alike false x y g g' same = refl

-- what the reader of a view may see of a report is what it may see of its documents
pub told-among :
    (report : Bytes) (documents : List (List Line)) (view : View) → reported report ≡ Ok documents →
    told_by_view report view ≡ told_among documents view
unfolding told_by_view asked_of incident_of told_among
told-among report documents view e =
    rw e
    (found-alike (slice_get documents view.incident) _ _ _ _
    (λ d. required-alike (case_stands (located d) view.case) _ _ _ _ refl))

-- a report with a fault has that fault for each view
pub told-refused : (report : Bytes) (view : View) (f : Fault) → reported report ≡ Err f → told_by_view report view ≡ Err f
unfolding told_by_view asked_of incident_of
told-refused report view f e = rw e refl

-- the same of the result of a call
pub yields-refused :
    (r : Read Excerpt) (f : Fault) (report : Bytes) (view : View) → IsErrAnd r (λ e. e ≡ f) →
    (f ≢ NoMemory → reported report ≡ Err f) → YieldsAs told_by r (told_by_view report view)
yields-refused (Ok x) f report view is e = absurd is
yields-refused (Err g) f report view is e =
    λ never. told-refused report view f (e (λ no. never (is ∙ no))) ∙ ap (λ x. Err x) (sym is)

-- a call on the documents of a report yields what is wanted of the report
pub yields-among :
    (r : Read Excerpt) (report : Bytes) (items documents : List (List Line)) (view : View) → reported report ≡ Ok items →
    documents ≡ items → YieldsAs told_by r (told_among documents view) → YieldsAs told_by r (told_by_view report view)
yields-among r report items documents view e same yields =
    let read : reported report ≡ Ok documents = e ∙ ap (λ x. Ok x) (sym same) in
    subst (λ w. YieldsAs told_by r w) (sym (told-among report documents view read)) yields

-- the answer for a view description is the one from the documents
pub text-among :
    (report : Bytes) (documents : List (List Line)) (description : Bytes) → reported report ≡ Ok documents →
    excerpt_text report description ≡ text_among documents description
unfolding excerpt_text text_among
text-among report documents description e =
    goes-on (described description) _ _
    (λ view. ap (λ r. r >>= λ told. Ok (compact_text (excerpt_object view.reader.arrangement told))) (told-among report documents view e))

-- the same for several descriptions
pub texts-among :
    (report : Bytes) (documents : List (List Line)) (descriptions : List (Bor (List ℕ))) → reported report ≡ Ok documents →
    map (λ (d : Bor (List ℕ)). text_among documents d.now) descriptions
    ≡ map (excerpt_text report) (map (λ (d : Bor (List ℕ)). d.now) descriptions)
texts-among report documents [] e = refl
texts-among report documents (d ∷ ds) e =
    ap₂ (λ x xs. x ∷ xs) (sym (text-among report documents d.now e)) (texts-among report documents ds e)

-- those are the wanted answers of the report
pub wanted-among :
    (report : Bytes) (documents : List (List Line)) (descriptions : List (Bor (List ℕ))) → reported report ≡ Ok documents →
    excerpt_texts report (map (λ (d : Bor (List ℕ)). d.now) descriptions)
    ≡ Ok (map (λ (d : Bor (List ℕ)). text_among documents d.now) descriptions)
unfolding excerpt_texts
wanted-among report documents descriptions e =
    rw e (ap (λ x. Ok x) (sym (texts-among report documents descriptions e)))

-- a call that fails for want of memory alone yields what its value holds
pub yields-all :
    (r : Read (Vec (Read (Vec ℕ Global)) Global)) (wanted : List (Read Bytes)) → IfOk r (λ v. texts_by v.items ≡ wanted) →
    IfErr r (λ e. e ≡ NoMemory) → YieldsAs (λ (v : Vec (Read (Vec ℕ Global)) Global). texts_by v.items) r (Ok wanted)
yields-all (Ok v) wanted same failed = ap (λ x. Ok x) (sym same)
yields-all (Err e) wanted same failed = λ never. absurd (never failed)

-- a call on the documents of a report yields the wanted answers of the report
pub yields-texts :
    (r : Read (Vec (Read (Vec ℕ Global)) Global)) (report : Bytes) (items documents : List (List Line))
    (descriptions : List (Bor (List ℕ))) → reported report ≡ Ok items → documents ≡ items →
    IfOk r (λ v. texts_by v.items ≡ map (λ (d : Bor (List ℕ)). text_among documents d.now) descriptions) →
    IfErr r (λ e. e ≡ NoMemory) →
    YieldsAs (λ (v : Vec (Read (Vec ℕ Global)) Global). texts_by v.items) r (excerpt_texts report (map (λ (d : Bor (List ℕ)). d.now) descriptions))
yields-texts r report items documents descriptions e same told failed =
    let read : reported report ≡ Ok documents = e ∙ ap (λ x. Ok x) (sym same) in
    subst (λ w. YieldsAs (λ (v : Vec (Read (Vec ℕ Global)) Global). texts_by v.items) r w)
    (sym (wanted-among report documents descriptions read)) (yields-all r _ told failed)
