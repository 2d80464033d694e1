-- What an explanation shows is what a view serves.
use Rattle.std.{proofs.Common.{◌≡◌, Bool, true, false, Option, Some, None, is_some, refl, sym, subst, IfSome, if◌then◌else◌}, specs.Prelude.{ℤ, Contains}}
use Rattle.{std.specs.Prelude.{IsSomeAnd, option_map}, iodef_tree.specs.Paths.{LocatedLine, is_class, located}, policy.specs.declared.rule.Rule.Rule}
use Rattle.redact.{proofs.Promised.verdicts-served, specs.Told.{kept_outline, visible_count, excerpt_place, is_listed, told_of, excerpt_of}}
use Rattle.{circle.specs.declared.directory.Person.Person, hub_core.specs.{Reads.case_for, State.State}, hub_state.specs.declared.state.Incident.Incident}
use Rattle.hub.specs.{Laws.IsExplainedAsServed, Told.{standing_at, view_with}}

and_on : {A B : Type 0} (o : Option A) (f : A → B) (P : A → Type 0) (Q : B → Type 0) → ((a : A) → P a → Q (f a)) → IsSomeAnd o P → IsSomeAnd (option_map f o) Q
and_on None f P Q on h = h
and_on (Some a) f P Q on h = on a h

and_same : {A : Type 0} (o : Option A) (P Q : A → Type 0) → ((a : A) → P a → Q a) → IsSomeAnd o P → IsSomeAnd o Q
and_same None P Q on h = h
and_same (Some a) P Q on h = on a h

some_on : {A B : Type 0} (o : Option A) (f : A → B) → is_some o ≡ true → is_some (option_map f o) ≡ true
some_on None f h = h
some_on (Some a) f h = refl

-- the view has what holds of all that is shown
if_told : {A B : Type 0} (b : Bool) (a : A) (f : A → B) (P : B → Type 0) → P (f a) → IfSome (option_map f (if b then Some a else None)) P
if_told true a f P h = h
if_told false a f P h = tt

pub shown-served : (s : State) (now : ℤ) (p : Person) (i : Incident) (e : LocatedLine) → Contains (located i.document) e → is_class e ≡ true → IsExplainedAsServed s now p i e
shown-served s now p i e has is =
    let c = case_for s i in
    let st = standing_at s now p i in
    let law = verdicts-served i.document c st e has is in
    let told = told_of i.document c st in
    record {
      shown = law.shown;
      served = λ h. some_on (excerpt_of i.document c st) (view_with i) (law.served h);
      document = if_told (is_listed i.document c st) told (view_with i) (λ v. v.document ≡ kept_outline i.document c st) refl;
      classes = if_told (is_listed i.document c st) told (view_with i) (λ v. v.classes ≡ visible_count i.document c st) refl;
      hidden = λ r h framed.
          and_on (excerpt_of i.document c st) (view_with i) _ (λ v. IsSomeAnd (excerpt_place i.document c st e.path) (λ q. Contains v.withheld (q, r)))
          (λ t k. and_same (excerpt_place i.document c st e.path) _ (λ q. Contains t.withheld (q, r)) (λ q here. subst (λ (x : Rule). Contains t.withheld (q, x)) (sym (law.hidden r h)) here) k)
          (law.frame framed);
    }
