-- A list of documents, behind those that are already made.
use Rattle.std.proofs.Common.{◌≡◌, ◌+◌, ◌≤◌, ◌<◌, ℕ, List, [], ◌∷◌, ◌++◌, Bool, true, false, not, Option, Result, Ok, Err, refl, sym, subst, ◌∙◌, append_assoc}
use Rattle.std.proofs.{Common.{arith, IfSome, IfNone, is_some, IsErrAnd}, lemmas.{Bool.{le-ltb, lt-ltb}, List.Sums.count_by-le-length}}
use Rattle.{serde_json.specs.{View.{view, items_view}, declared.value.Value.Value}, iodef_tree.{proofs.Counts.length-lines, specs.Reading.{◌>>=◌, if_short}}}
use Rattle.iodef_tree.specs.{Reading.{document_of, documents, Fails, Returns}, Sound.{IsOrdered, IsSound, class_height}, Texts.HasTexts, Tree.{Forest, end}}
use Rattle.iodef_tree.specs.{Tree.{leaf, branch, lines, height}, declared.{TheConstants.{DEPTH_LIMIT, LINE_LIMIT}, fault.ReadFault.ReadFault}}
use Rattle.iodef_tree.specs.{declared.{fault.ReadFault.TheVariants.TooManyLines, line.Line.Line}, inner.FitValues.{line_count, IsFit, AreFit}}
use Rattle.serde_json.specs.Data as json

abbrev pub with_front : {A : Type 0} → List A → Result (List A) ReadFault → Result (List A) ReadFault
with_front front r = r >>= λ x. Ok (front ++ x)

pub with_front-cons : {A : Type 0} (front : List A) (a : A) (r : Result (List A) ReadFault) → with_front (front ++ a ∷ []) r ≡ with_front front (r >>= λ others. Ok (a ∷ others))
with_front-cons front a r = grind (arith, append_assoc)

pub room_kept : (r : Option ℕ) (b : Bool) (n room : ℕ) → IfSome r (λ left. left + n ≡ room) → is_some r ≡ not b → b ≡ false → n ≤ room
room_kept r b n room h e f = grind arith

pub room_lacks : (r : Option ℕ) (b : Bool) (n room : ℕ) → IfNone r (room < n) → is_some r ≡ not b → b ≡ true → room < n
room_lacks r b n room h e f = grind arith

pub short_enough : (f : Forest) → line_count f ≤ LINE_LIMIT → if_short (lines 1 f) ≡ Ok (lines 1 f)
short_enough f h = rw (length-lines f 1, le-ltb LINE_LIMIT (line_count f) h)

pub too_long : (f : Forest) → LINE_LIMIT < line_count f → if_short (lines 1 f) ≡ Err TooManyLines
too_long f h = rw (length-lines f 1, lt-ltb LINE_LIMIT (line_count f) h)

classes-low : (f : Forest) → class_height f ≤ height f
classes-low end = omega arith
classes-low (leaf i rest) = let a = classes-low rest in omega (arith, a)
classes-low (branch name place kids rest) = let a = classes-low kids in let b = classes-low rest in omega (arith, a, b)

pub sound : (f : Forest) → IsOrdered f → height f ≤ DEPTH_LIMIT → line_count f ≤ LINE_LIMIT → HasTexts f → IsSound f
sound f o h n t = grind (arith, classes-low, count_by-le-length, length-lines)

pub documents_then : (root : json.Members) (vs : List Value) (v : Value)
    → documents root (items_view (vs ++ v ∷ [])) ≡ (documents root (items_view vs) >>= λ front. if_short (lines 1 (document_of (view v) root)) >>= λ d. Ok (front ++ d ∷ []))
documents_then root [] v = refl
documents_then root (w ∷ vs) v = grind (arith, (documents_then root vs v))

pub fails_then : {A B : Type 0} (e : ReadFault) (r : Result A ReadFault) (f : A → Result B ReadFault) → Fails e r → Fails e (r >>= f)
fails_then e r f h = grind arith

pub gives_err : {X Y : Type 0} (view : X → Y) (e : ReadFault) (r : Result X ReadFault) (read : Result Y ReadFault) → IsErrAnd r (λ f. f ≡ e) → Fails e read → Returns view r read
gives_err view e r read h k = grind arith

pub failed : (root : json.Members) (vs : List Value) (v : Value) (front : List (List Line)) (e : ReadFault) → Fails e (if_short (lines 1 (document_of (view v) root))) → Fails e (with_front front (documents root (items_view (v ∷ vs))))
failed root vs v front e h = fails_then e (documents root (items_view (v ∷ vs))) (λ x. Ok (front ++ x)) (fails_then e (if_short (lines 1 (document_of (view v) root))) (λ first. documents root (items_view vs) >>= λ others. Ok (first ∷ others)) h)

pub next : (root : json.Members) (vs : List Value) (v : Value) (front : List (List Line)) (a : List Line) → if_short (lines 1 (document_of (view v) root)) ≡ Ok a
    → with_front (front ++ a ∷ []) (documents root (items_view vs)) ≡ with_front front (documents root (items_view (v ∷ vs)))
next root vs v front a e = with_front-cons front a (documents root (items_view vs)) ∙ rw e

pub last_done : (root : json.Members) (vs : List Value) (v : Value) (front : List (List Line)) (a : List Line) → documents root (items_view vs) ≡ Ok front → if_short (lines 1 (document_of (view v) root)) ≡ Ok a
    → documents root (items_view (vs ++ v ∷ [])) ≡ Ok (front ++ a ∷ [])
last_done root vs v front a h e = documents_then root vs v ∙ rw (h, e)

pub failed_front : (root : json.Members) (vs : List Value) (v : Value) (e : ReadFault) → Fails e (documents root (items_view vs)) → Fails e (documents root (items_view (vs ++ v ∷ [])))
failed_front root vs v e h = subst (Fails e) (sym (documents_then root vs v)) (fails_then e (documents root (items_view vs)) (λ front. if_short (lines 1 (document_of (view v) root)) >>= λ d. Ok (front ++ d ∷ [])) h)

pub failed_last : (root : json.Members) (vs : List Value) (v : Value) (front : List (List Line)) (e : ReadFault) → documents root (items_view vs) ≡ Ok front → Fails e (if_short (lines 1 (document_of (view v) root)))
    → Fails e (documents root (items_view (vs ++ v ∷ [])))
failed_last root vs v front e h k = grind (arith, documents_then)

pub fit_parts : (root : json.Members) (vs : List Value) (v : Value) → AreFit root (items_view (vs ++ v ∷ [])) → AreFit root (items_view vs) × IsFit root (view v)
fit_parts root [] v h = (tt, h.0)
fit_parts root (w ∷ vs) v h = let later = fit_parts root vs v h.1 in ((h.0, later.0), later.1)
