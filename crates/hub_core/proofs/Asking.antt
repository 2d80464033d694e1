-- Grounds asked in several lists, one after another.
use Rattle.std.proofs.Common.{◌≡◌, List, [], ◌∷◌, ◌++◌, Bool, true, false, if◌then◌else◌, Option, Some, None, Result, Ok, Err, refl, ◌∙◌}
use Rattle.{circle.specs.{Refusals.{Ground, first_answer}, declared.refusal.Refusal.Refusal}, hub_core.specs.declared.judging.stop.Stop.Stop}
use Rattle.hub_core.specs.{declared.judging.stop.Stop.TheVariants.{Refused, NoMemory}, inner.Asked.Asks}

past : (holds : Bool) (why : Refusal) (one both rest : Option Refusal) → (one ≡ None → both ≡ rest) → (if holds then Some why else one) ≡ None → (if holds then Some why else both) ≡ rest
past true why one both rest on h = cc
past false why one both rest on h = on h

-- if no ground of the first list holds, the others decide
first_on : (gs hs : List Ground) → first_answer gs ≡ None → first_answer (gs ++ hs) ≡ first_answer hs
first_on [] hs none = refl
first_on (g ∷ gs) hs none = past g.holds g.answer (first_answer gs) (first_answer (gs ++ hs)) (first_answer hs) (first_on gs hs) none

later : {X : Type 0} (gs hs : List Ground) (r : Result X Stop) → first_answer gs ≡ None → Asks hs r → Asks (gs ++ hs) r
later gs hs (Ok x) none h = first_on gs hs none ∙ h
later gs hs (Err (Refused why)) none h = first_on gs hs none ∙ h
later gs hs (Err NoMemory) none h = tt

-- if no ground of three lists holds, the fourth decides
pub fourth : {X : Type 0} (ps qs gs hs : List Ground) (r : Result X Stop) → first_answer ps ≡ None → first_answer qs ≡ None → first_answer gs ≡ None → Asks hs r → Asks (ps ++ (qs ++ (gs ++ hs))) r
fourth ps qs gs hs r p q g h = later ps (qs ++ (gs ++ hs)) r p (later qs (gs ++ hs) r q (later gs hs r g h))
