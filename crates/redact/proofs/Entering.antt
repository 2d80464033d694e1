-- A class under a token: what is kept, listed and found of it, given what holds at it.
use Rattle.std.proofs.Common.{◌≡◌, ℕ, Bool, ◌||◌, ◌≤◌, List, [], ◌∷◌, ◌++◌, refl, sym, ◌∙◌, ap, subst, take, length, Option, Some, None, option_map, Vec}
use Rattle.std.proofs.{Common.{Global, vec_len, arith, ◌-◌}, Math.Seq.take-append_seam, lemmas.List.{map-append, take-append-le, length-append}}
use Rattle.iodef_tree.{proofs.Views.body-Class, specs.{Text.{Bytes, Tokens}, Tree.{Forest, Body, holds}, View.{forest, body}, declared.object.Item.Item}}
use Rattle.{iodef_tree.specs.declared.object.{Item.Class, Object.Object}, marking.specs.{Label.LabelValue, Members.spelled_in}}
use Rattle.policy.specs.{Inherited.{class_step, enter_class}, declared.{case.Case.Case, inherited.Carried.Carried, standing.Standing.Standing}}
use Rattle.redact.specs.{declared.{pass.State.State, trail.Token.Token}, inner.{Here.carries, Judged.Surrounding, Left.{Goes, class_left, class_told}}}
use Rattle.redact.specs.inner.{Left.{class_count, left_at, told_at, count_at}, Pass.{pass, judgment_by}, Search.{class_hits, found, found_at}, Tokens.token_of}
use Rattle.redact.specs.inner.Tokens.{path_of}

bodies-of : (left : Option Object) → option_map body (option_map Class left) ≡ option_map holds (option_map forest left)
bodies-of None = refl
bodies-of (Some o) = ap Some (body-Class o)

-- a token that was pushed is popped
popped : (ks : List Token) (k : Token) (n : ℕ) (old new : List Token) → old ≡ ks ++ k ∷ [] → n ≡ length old → new ≡ take (n - 1) old → new ≡ ks
popped ks k n old new e l rest = rest ∙ ap (λ m. take m old) (omega (arith, l, ap length e, length-append ks (k ∷ []))) ∙ ap (take (length ks)) e ∙ take-append_seam ks (k ∷ [])

-- a pass steps from p, where it carries h, to the class o at p1, and carries `at` there
module _ (C : Case) (S : Standing) (p p1 trail : List Token) (h at : Carried) (k : Token) (it : Item) (o : Object) (written : Option LabelValue)
    (is : it ≡ Class o) (further : p1 ≡ p ++ k ∷ []) (said : written ≡ spelled_in (forest o))
    (there : trail ≡ p1) (asked : carries trail at ≡ class_step C S (carries trail h) (path_of trail) written) where
  entered : enter_class C S (carries p h) (token_of k) (spelled_in (forest o)) ≡ carries p1 at
  entered = ap (λ q. class_step C S (carries p h) q (spelled_in (forest o))) (sym (ap path_of further ∙ map-append token_of p (k ∷ [])))
      ∙ ap (λ w. class_step C S (carries p h) (path_of p1) w) (sym said)
      ∙ sym (subst (λ ts. carries ts at ≡ class_step C S (carries ts h) (path_of ts) written) there asked)

  by_body : {A : Type 0} (f : Body → A) → f (body it) ≡ f (holds (forest o))
  by_body f = ap f (ap body is ∙ body-Class o)

  pub class-found : (asked : Bytes → Forest → Bool) (name : Bytes) →
      class_hits C S asked (carries p1 at) name (forest o) || found C S asked (carries p1 at) (forest o) ≡ found_at C S asked (carries p h) (token_of k) name (body it)
  class-found asked name = sym (by_body (found_at C S asked (carries p h) (token_of k) name) ∙ ap (λ i. class_hits C S asked i name (forest o) || found C S asked i (forest o)) entered)

  pub class-left : (H : Surrounding) (left : Option Object) (r : Option Item) → r ≡ option_map Class left →
      option_map forest left ≡ class_left C S H (judgment_by C S (carries p1 at) (spelled_in (forest o))) (pass C S (carries p1 at) (forest o)) →
      option_map body r ≡ left_at C S H (carries p h) (token_of k) (body it)
  class-left H left r made e = ap (option_map body) made ∙ bodies-of left ∙ ap (option_map holds) e
      ∙ sym (by_body (left_at C S H (carries p h) (token_of k))
      ∙ ap (λ i. option_map holds (class_left C S H (judgment_by C S i (spelled_in (forest o))) (pass C S i (forest o)))) entered)

  class-told : (q r : Tokens) → told_at C S (carries p h) q r (token_of k) (body it) ≡ class_told C S q r (judgment_by C S (carries p1 at) (spelled_in (forest o))) (pass C S (carries p1 at) (forest o))
  class-told q r = by_body (told_at C S (carries p h) q r (token_of k)) ∙ ap (λ i. class_told C S q r (judgment_by C S i (spelled_in (forest o))) (pass C S i (forest o))) entered

  class-counted : count_at C S (carries p h) (token_of k) (body it) ≡ class_count C S (judgment_by C S (carries p1 at) (spelled_in (forest o))) (pass C S (carries p1 at) (forest o))
  class-counted = by_body (count_at C S (carries p h) (token_of k)) ∙ ap (λ i. class_count C S (judgment_by C S i (spelled_in (forest o))) (pass C S i (forest o))) entered

  -- the pass comes back from the class, in the stored document and in the excerpt
  pub class-goes : (base : ℕ) (st st2 : State) (path place path2 place2 : Vec Token Global) (j : Token) → base ≤ length st.place.items → p1 ≡ path.items → p ≡ st.path.items → place.items ≡ st.place.items ++ j ∷ [] →
      Goes (path_of (take base place.items)) (record st { path = path; place = place }) st2
      (class_told C S (path_of (take base place.items)) (path_of place.items) (judgment_by C S (carries p1 at) (spelled_in (forest o))) (pass C S (carries p1 at) (forest o))) []
      (class_count C S (judgment_by C S (carries p1 at) (spelled_in (forest o))) (pass C S (carries p1 at) (forest o))) 0 →
      path2.items ≡ take (vec_len st2.path - 1) st2.path.items → place2.items ≡ take (vec_len st2.place - 1) st2.place.items →
      Goes (path_of (take base st.place.items)) st (record st2 { path = path2; place = place2 })
      (told_at C S (carries p h) (path_of (take base st.place.items)) (path_of (st.place.items ++ j ∷ [])) (token_of k) (body it)) [] (count_at C S (carries p h) (token_of k) (body it)) 0
  class-goes base st st2 path place path2 place2 j le here from placed g back home =
      let q = path_of (take base st.place.items) in
      let r = path_of (st.place.items ++ j ∷ []) in
      let J = judgment_by C S (carries p1 at) (spelled_in (forest o)) in
      let K = pass C S (carries p1 at) (forest o) in
      let mid : State = record st { path = path; place = place } in
      let Q : path_of (take base place.items) ≡ q = ap path_of (ap (take base) placed ∙ take-append-le base st.place.items (j ∷ []) le) in
      let G : Goes q mid st2 (class_told C S q (path_of place.items) J K) [] (class_count C S J K) 0 = subst (λ x. Goes x mid st2 (class_told C S x (path_of place.items) J K) [] (class_count C S J K) 0) Q g in
      let T : class_told C S q (path_of place.items) J K ≡ told_at C S (carries p h) q r (token_of k) (body it) = ap (λ x. class_told C S q (path_of x) J K) placed ∙ sym (class-told q r) in
      let M : class_count C S J K ≡ count_at C S (carries p h) (token_of k) (body it) = sym class-counted in
      let E = subst (λ m. Goes q mid st2 (told_at C S (carries p h) q r (token_of k) (body it)) [] m 0) M (subst (λ x. Goes q mid st2 x [] (class_count C S J K) 0) T G) in
      record {
        path = popped st.path.items k (vec_len st2.path) st2.path.items path2.items (E.path ∙ sym here ∙ further ∙ ap (λ x. x ++ k ∷ []) from) st2.path.ok.0 back;
        place = popped st.place.items j (vec_len st2.place) st2.place.items place2.items (E.place ∙ placed) st2.place.ok.0 home;
        withheld = E.withheld;
        classes = E.classes;
      }
