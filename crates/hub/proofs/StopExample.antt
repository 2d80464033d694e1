-- What a stop may leave after three requests.
use Rattle.std.proofs.{Common.{◌≡◌, inl, inr, Bool, true, false, List, [], ◌∷◌, Option, Some, refl, sym, ◌∙◌, ap}, lemmas.Bool.{false≢true, true≢false}}
use Rattle.{std.specs.{Fmt.digits, Option.option_map_or}, hub_core.specs.State.State, hub_state.specs.declared.state.Permission.Permission}
use Rattle.hub.{proofs.Leaving.{in_turn_left, left_in_turn}, specs.Examples.{StopsAreComputed, first, three_asked, three_replies, withdrawn}}
use Rattle.hub.specs.{Examples.withdrawn_with_key, Machine.IsRun, inner.InTurn.MayBeLeftInTurn}

abbrev Before : Option State → Type 0
Before left = left ≡ Some first

run : IsRun first three_asked three_replies withdrawn
unfolding digits
run = (withdrawn, inl (record { due = refl; aftermath = refl }), (withdrawn, inr (inr refl, refl), (withdrawn, inl (record { due = refl; aftermath = refl }), refl)))

abbrev is_bare : List Permission → Bool
is_bare [] = true
is_bare (x ∷ xs) = false

-- the first state has a permission
not_first : (u : State) → is_bare u.permissions ≡ true → Some first ≡ Some u → ⊥
not_first u bare same = true≢false (sym bare ∙ sym (ap (λ o. option_map_or (λ (s : State). is_bare s.permissions) o true) same))

after_one : MayBeLeftInTurn Before first three_asked three_replies (Some withdrawn)
unfolding digits
after_one = inl (inl (inr (refl, refl), refl), refl)

after_two : MayBeLeftInTurn Before first three_asked three_replies (Some withdrawn_with_key)
unfolding digits
after_two = inl (inr (refl, refl), refl)

not_before : MayBeLeftInTurn Before first three_asked three_replies (Some first) → ⊥
unfolding digits
not_before (inl (inl (inl kept, unmade), unmade')) = true≢false kept.1
not_before (inl (inl (inr due, unmade), unmade')) = not_first withdrawn refl due.1
not_before (inl (inr due, unmade)) = not_first withdrawn_with_key refl due.1
not_before (inr due) = false≢true due.0

pub stops_computed : StopsAreComputed
stops_computed = record {
  made = left_in_turn Before first three_asked three_replies (Some withdrawn) after_one;
  given_up = left_in_turn Before first three_asked three_replies (Some withdrawn_with_key) after_two;
  before = λ may. not_before (in_turn_left Before first withdrawn three_asked three_replies (Some first) run may);
}
