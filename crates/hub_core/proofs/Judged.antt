-- What is judged by the facts of a state holds of the state.
use Rattle.{std.{proofs.Common.{◌≡◌, List, None, Result, Ok, Err, IfOk, sym, ap, ◌∙◌, subst}, specs.Prelude.{IfErr, OnOk}}, circle.specs.Outcomes.RefusedAs}
use Rattle.{circle.specs.{Refusals.{Ground, first_answer}, declared.{directory.Person.Person, refusal.Refusal.Refusal}}, hub_state.specs.Aftermath.edits_by}
use Rattle.hub_state.specs.{Edits.with_edits, Facts.facts_of, Sound.IsSound, State.State, declared.{edit.Edit.Edit, facts.Facts.Facts, request.Request.Request}}
use Rattle.hub_core.{proofs.Agrees.{agrees, makes}, specs.{Judgement.{grounds_by, refusal_by}, Refusals.{refusal_of, state_after}}}
use Rattle.hub_core.specs.{declared.judging.stop.Stop.Stop, inner.Asked.Asks}

-- ---- by the grounds of a request

-- the refusal by the facts, for a request of one kind, is the answer of its grounds
pub record IsNamed (a : Person) (r named : Request) (f : Facts) : Type 0 where
  pub name : r ≡ named
  pub plain : refusal_by f a named ≡ first_answer (grounds_by f a named)

due : (a : Person) (r named : Request) (f : Facts) → IsNamed a r named f → first_answer (grounds_by f a named) ≡ refusal_by f a r
due a r named f h = sym h.plain ∙ ap (refusal_by f a) (sym h.name)

pub refused_by : {X : Type 0} (a : Person) (r named : Request) (f : Facts) (judged : Result X Stop) (answer : Result X Refusal) → IsNamed a r named f →
    Asks (grounds_by f a named) judged → ((grounds : List Ground) → Asks grounds judged → IfErr answer (RefusedAs (first_answer grounds))) →
    IfErr answer (RefusedAs (refusal_by f a r))
refused_by a r named f judged answer h asked tells = subst (λ o. IfErr answer (RefusedAs o)) (due a r named f h) (tells (grounds_by f a named) asked)

none_of : {X : Type 0} (grounds : List Ground) (judged : Result X Stop) (x : X) → Asks grounds judged → judged ≡ Ok x → first_answer grounds ≡ None
none_of grounds judged x asked same = subst (λ j. Asks grounds j) same asked

pub allowed_by : {X : Type 0} (a : Person) (r named : Request) (f : Facts) (judged : Result X Stop) (answer : Result X Refusal) → IsNamed a r named f →
    Asks (grounds_by f a named) judged → IfOk answer (λ x. judged ≡ Ok x) → OnOk answer (refusal_by f a r ≡ None)
allowed_by a r named f judged (Ok x) h asked same = sym (due a r named f h) ∙ none_of (grounds_by f a named) judged x asked same
allowed_by a r named f judged (Err why) h asked same = tt

-- ---- by the facts of a state

pub refused_in : {X : Type 0} (s : State) (a : Person) (r : Request) (f : Facts) (answer : Result X Refusal) → f ≡ facts_of s a r →
    IfErr answer (RefusedAs (refusal_by f a r)) → IfErr answer (RefusedAs (refusal_of s a r))
refused_in s a r f answer is told = subst (λ o. IfErr answer (RefusedAs o)) (ap (λ (g : Facts). refusal_by g a r) is ∙ agrees s a r) told

pub allowed_in : {X : Type 0} (s : State) (a : Person) (r : Request) (f : Facts) (answer : Result X Refusal) → f ≡ facts_of s a r →
    OnOk answer (refusal_by f a r ≡ None) → OnOk answer (refusal_of s a r ≡ None)
allowed_in s a r f answer is fine = subst (λ o. OnOk answer (o ≡ None)) (ap (λ (g : Facts). refusal_by g a r) is ∙ agrees s a r) fine

pub made_in : {X : Type 0} (view : X → List Edit) (s : State) (a : Person) (r : Request) (f : Facts) (answer : Result X Refusal) → IsSound s → f ≡ facts_of s a r →
    OnOk answer (refusal_by f a r ≡ None) → IfOk answer (λ x. view x ≡ edits_by f a r) → IfOk answer (λ x. with_edits (view x) s ≡ state_after s a r)
made_in view s a r f (Ok x) sound is fine made = makes s a r f (view x) sound is fine made
made_in view s a r f (Err why) sound is fine made = tt
