-- What is told of several views, one view more; and what is delivered in all.
use Rattle.std.proofs.Common.{◌≡◌, refl, sym, ap, ap₂, ◌∙◌, subst, ℕ, zero, suc, ◌+◌, ◌≤◌, ◌<◌, List, [], ◌∷◌, ◌++◌, length, take, drop, get_or, set, map, Ok}
use Rattle.std.{proofs.Common.{Err, IfOk, IfErr, append-nil, append_assoc, arith}, specs.{List.flat_map, declared.{alloc.Global.Global, vec.Vec.Vec}}}
use Rattle.redaction.specs.{Answers.{text_by, texts_by}, Faults.fault_number, Outcome.{Read, YieldsAs}, declared.fault.Fault.{Fault, TheVariants.NoMemory}}
use Rattle.redact_c.specs.{Delivery.{Placed, DeliversEach, number_for, text_of, told, told_each, refused}, declared.delivery.{Answers.Answers, Asked.Asked}}

-- ---- one view more

-- the texts before a place and the one there are those up to it
pub join-more :
    (answers : List (Read (Vec ℕ Global))) (i : ℕ) (r : Read (Vec ℕ Global)) → i < length answers → r ≡ get_or answers i r →
    flat_map text_of (texts_by (take i answers)) ++ text_of (text_by r) ≡ flat_map text_of (texts_by (take (suc i) answers))
join-more [] i r few here = absurd (omega arith)
join-more (x ∷ xs) zero r few here = ap (λ y. text_of (text_by y)) here ∙ sym (append-nil (text_of (text_by x)))
join-more (x ∷ xs) (suc i) r few here =
    append_assoc (text_of (text_by x)) (flat_map text_of (texts_by (take i xs))) (text_of (text_by r))
    ∙ ap (λ texts. text_of (text_by x) ++ texts) (join-more xs i r (omega arith) here)

pub join_step :
    (answers : List (Read (Vec ℕ Global))) (texts more : List ℕ) (i : ℕ) (r : Read (Vec ℕ Global)) → i < length answers →
    texts ≡ flat_map text_of (texts_by (take i answers)) → r ≡ get_or answers i r → more ≡ text_of (text_by r) →
    texts ++ more ≡ flat_map text_of (texts_by (take (i + 1) answers))
join_step answers texts more i r few before here is =
    let on : suc i ≡ i + 1 = omega arith in
    ap₂ (λ t m. t ++ m) before is ∙ join-more answers i r few here ∙ ap (λ n. flat_map text_of (texts_by (take n answers))) on

-- the view at a place is told its answer, as those before it are
pub tell-more :
    (vs : List Asked) (bs : List (Read (Vec ℕ Global))) (i : ℕ) (d new : Asked) (r : Read (Vec ℕ Global)) →
    i < length vs → i < length bs → r ≡ get_or bs i r →
    new ≡ told (get_or (told_each (take i vs) (texts_by (take i bs)) ++ drop i vs) i d) (text_by r) →
    set (told_each (take i vs) (texts_by (take i bs)) ++ drop i vs) i new
    ≡ told_each (take (suc i) vs) (texts_by (take (suc i) bs)) ++ drop (suc i) vs
tell-more [] bs i d new r few enough there is = absurd (omega arith)
tell-more (v ∷ vs) [] i d new r few enough there is = absurd (omega arith)
tell-more (v ∷ vs) (b ∷ bs) zero d new r few enough there is = ap (λ x. x ∷ vs) (is ∙ ap (λ q. told v (text_by q)) there)
tell-more (v ∷ vs) (b ∷ bs) (suc i) d new r few enough there is =
    ap (λ xs. told v (text_by b) ∷ xs) (tell-more vs bs i d new r (omega arith) (omega arith) there is)

pub tell-step :
    (vs : List Asked) (bs : List (Read (Vec ℕ Global))) (now : List Asked) (i : ℕ) (d new : Asked) (r : Read (Vec ℕ Global)) →
    i < length vs → length vs ≡ length bs → now ≡ told_each (take i vs) (texts_by (take i bs)) ++ drop i vs →
    new ≡ told (get_or now i d) (text_by r) → r ≡ get_or bs i r →
    set now i new ≡ told_each (take (i + 1) vs) (texts_by (take (i + 1) bs)) ++ drop (i + 1) vs
tell-step vs bs now i d new r few same before is there =
    let on : suc i ≡ i + 1 = omega arith in
    ap (λ xs. set xs i new) before
    ∙ tell-more vs bs i d new r few (omega arith) there (is ∙ ap (λ xs. told (get_or xs i d) (text_by r)) before)
    ∙ ap (λ n. told_each (take n vs) (texts_by (take n bs)) ++ drop n vs) on

-- then all views are told
pub tell-all :
    (vs : List Asked) (bs : List (Read (Vec ℕ Global))) (i : ℕ) → length vs ≤ i → length vs ≡ length bs →
    told_each (take i vs) (texts_by (take i bs)) ++ drop i vs ≡ told_each vs (texts_by bs)
tell-all [] bs zero all same = refl
tell-all [] bs (suc i) all same = refl
tell-all (a ∷ vs) bs zero all same = absurd (omega arith)
tell-all (a ∷ vs) [] (suc i) all same = absurd (omega arith)
tell-all (a ∷ vs) (b ∷ bs) (suc i) all same =
    ap (λ xs. told a (text_by b) ∷ xs) (tell-all vs bs i (omega arith) (omega arith))

pub tell_end :
    (vs : List Asked) (bs : List (Read (Vec ℕ Global))) (now : List Asked) (i : ℕ) → length vs ≤ i → length vs ≡ length bs →
    now ≡ told_each (take i vs) (texts_by (take i bs)) ++ drop i vs → now ≡ told_each vs (texts_by bs)
tell_end vs bs now i all same before = before ∙ tell-all vs bs i all same

-- the view at a place is told a call's fault, as those before it are
pub refuse-more :
    (number : ℕ) (vs : List Asked) (i : ℕ) (d new : Asked) → i < length vs →
    new ≡ refused number (get_or (map (refused number) (take i vs) ++ drop i vs) i d) →
    set (map (refused number) (take i vs) ++ drop i vs) i new ≡ map (refused number) (take (suc i) vs) ++ drop (suc i) vs
refuse-more number [] i d new few is = absurd (omega arith)
refuse-more number (v ∷ vs) zero d new few is = ap (λ x. x ∷ vs) is
refuse-more number (v ∷ vs) (suc i) d new few is =
    ap (λ xs. refused number v ∷ xs) (refuse-more number vs i d new (omega arith) is)

pub refuse-step :
    (number : ℕ) (vs now : List Asked) (i : ℕ) (d new : Asked) → i < length vs →
    now ≡ map (refused number) (take i vs) ++ drop i vs → new ≡ refused number (get_or now i d) →
    set now i new ≡ map (refused number) (take (i + 1) vs) ++ drop (i + 1) vs
refuse-step number vs now i d new few before is =
    let on : suc i ≡ i + 1 = omega arith in
    ap (λ xs. set xs i new) before
    ∙ refuse-more number vs i d new few (is ∙ ap (λ xs. refused number (get_or xs i d)) before)
    ∙ ap (λ n. map (refused number) (take n vs) ++ drop n vs) on

-- ---- all of them

-- the number of no fault is that of an answer
pub is-positive : (e : Fault) → 0 < fault_number e
is-positive NoMemory = omega arith
is-positive _ = omega arith

-- what is told of the answers of a call is what is wanted of the report
pub delivers-each :
    (r : Read Answers) (number needed : ℕ) (asked after_asked : List Asked) (before after : List ℕ)
    (wanted : Read (List (Read (List ℕ)))) → YieldsAs (λ (a : Answers). texts_by a.each.items) r wanted →
    IfOk r (λ a. a.texts.items ≡ flat_map text_of (texts_by a.each.items)) →
    IfOk r (λ a. Placed a.texts.items needed before after) →
    IfOk r (λ a. after_asked ≡ told_each asked (texts_by a.each.items)) → IfOk r (λ a. number ≡ 0) →
    IfErr r (λ e. number ≡ fault_number e) → IfErr r (λ e. after_asked ≡ map (refused (fault_number e)) asked) →
    IfErr r (λ e. needed ≡ 0) → IfErr r (λ e. after ≡ before) →
    DeliversEach number needed asked after_asked before after wanted
delivers-each (Ok a) number needed asked after_asked before after wanted yields joined placed each none n refusal u t = record {
  numbered = λ _. none ∙ sym (ap (λ w. number_for w) yields);
  each_told = λ _. subst (λ w. IfOk w (λ answers. after_asked ≡ told_each asked answers)) (sym yields) each;
  answered = λ _. subst (λ w. IfOk w (λ answers. Placed (flat_map text_of answers) needed before after)) (sym yields)
      (subst (λ texts. Placed texts needed before after) joined placed);
  each_refused = λ no. absurd (no none);
  uncounted = λ no. absurd (no none);
  untouched = λ no. absurd (no none);
}
delivers-each (Err e) number needed asked after_asked before after wanted yields joined placed each none n refusal u t = record {
  numbered = λ no. n ∙ sym (ap (λ w. number_for w) (yields (λ is. no (n ∙ ap fault_number is))));
  each_told = λ is. (let positive : 0 < fault_number e = is-positive e in absurd (omega (arith, sym n ∙ is)));
  answered = λ is. (let positive : 0 < fault_number e = is-positive e in absurd (omega (arith, sym n ∙ is)));
  each_refused = λ _. subst (λ k. after_asked ≡ map (refused k) asked) (sym n) refusal;
  uncounted = λ _. u;
  untouched = λ _. t;
}
