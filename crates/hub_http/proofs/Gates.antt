-- Gates, one after another.
use Rattle.std.proofs.Common.{◌≡◌, ℕ, ◌+◌, ◌<◌, List, [], ◌∷◌, ◌++◌, length, drop, Ok, Err, refl, ap, sym, ◌∙◌, subst, append_assoc, append-nil, Bor, get_or}
use Rattle.{std.proofs.{Common.{drop_of_length-le, add-one, ◌≤◌}, Math.Seq.drop-cons}, hub_state.specs.declared.request.WantedGate.WantedGate}
use Rattle.hub_http.specs.{Outcome.{Read, ◌>>=◌, Fails}, Spelling.{gate, gates}, declared.request_fault.RequestFault.{RequestFault, TheVariants.NoRoute}}
use Rattle.hub_http.specs.{declared.request_fault.RequestFault.TheVariants.{BadBody, NoMemory}, inner.Texts.texts}

-- the gates so far, and then those of the rest
abbrev pub behind : List WantedGate → Read (List WantedGate) → Read (List WantedGate)
behind front rest = rest >>= λ more. Ok (front ++ more)

-- a fault stays the result
pub Fails-bind : {A B : Type 0} (e : RequestFault) (r : Read A) (f : A → Read B) → Fails e r → Fails e (r >>= f)
Fails-bind NoRoute r f h = rw h refl
Fails-bind BadBody r f h = rw h refl
Fails-bind NoMemory r f h = tt

pub more_behind : (front : List WantedGate) (g : WantedGate) (text : List ℕ) (texts : List (List ℕ)) → gate text ≡ Ok g
    → behind (front ++ g ∷ []) (gates texts) ≡ behind front (gates (text ∷ texts))
unfolding gates
more_behind front g text texts e =
    rw e (elim (gates texts) as (λ r. behind (front ++ g ∷ []) r ≡ behind front (r >>= λ rest. Ok (g ∷ rest))) [
      | Ok rest ↦ ap Ok (append_assoc front (g ∷ []) rest)
      | Err d ↦ refl
    ])

pub none_behind : (front : List WantedGate) → behind front (gates []) ≡ Ok front
unfolding gates
none_behind front = ap Ok (append-nil front)

pub fault_behind : (front : List WantedGate) (text : List ℕ) (texts : List (List ℕ)) (e : RequestFault) → Fails e (gate text)
    → Fails e (behind front (gates (text ∷ texts)))
unfolding gates
fault_behind front text texts e h =
    Fails-bind e (gates (text ∷ texts)) (λ more. Ok (front ++ more)) (Fails-bind e (gate text) _ h)

module _ (xs : List (Bor (List ℕ))) (front : List WantedGate) (all : Read (List WantedGate)) where
  next_text : (i : ℕ) (d : Bor (List ℕ)) → i < length xs → texts (drop i xs) ≡ (get_or xs i d).now ∷ texts (drop (i + 1) xs)
  next_text i d h = rw add-one (ap texts (drop-cons xs i d h))

  pub gates_step : (i : ℕ) (d : Bor (List ℕ)) (g : WantedGate) → i < length xs → gate (get_or xs i d).now ≡ Ok g
      → behind front (gates (texts (drop i xs))) ≡ all → behind (front ++ g ∷ []) (gates (texts (drop (i + 1) xs))) ≡ all
  gates_step i d g h e inv =
      more_behind front g _ (texts (drop (i + 1) xs)) e ∙ sym (ap (λ l. behind front (gates l)) (next_text i d h)) ∙ inv

  pub gates_fault : (i : ℕ) (d : Bor (List ℕ)) (e : RequestFault) → i < length xs → Fails e (gate (get_or xs i d).now)
      → behind front (gates (texts (drop i xs))) ≡ all → Fails e all
  gates_fault i d e h bad inv =
      subst (Fails e) (sym (ap (λ l. behind front (gates l)) (next_text i d h)) ∙ inv) (fault_behind front _ (texts (drop (i + 1) xs)) e bad)

  pub gates_end : (i : ℕ) → length xs ≤ i → behind front (gates (texts (drop i xs))) ≡ all → all ≡ Ok front
  gates_end i h inv = sym inv ∙ ap (λ l. behind front (gates (texts l))) (drop_of_length-le xs h) ∙ none_behind front
