-- What a stop may leave after a list of requests is the same as one request after another.
use Rattle.std.proofs.Common.{◌≡◌, ◌⊎◌, inl, inr, Bool, true, false, List, [], ◌∷◌, ◌++◌, cond, ◌||◌, Option, Some, zip, refl, sym, ◌∙◌, ap, subst}
use Rattle.{std.proofs.lemmas.Bool.true≢false, redact.proofs.InOrder.{contains_in, in_contained}, hub_core.specs.State.State}
use Rattle.{hub_state.specs.declared.reply.Reply.Reply, hub.{proofs.Stopped.{made_due, step_content}, specs.Machine.{Asked, IsStep, IsRun, state_left}}}
use Rattle.hub.specs.{Serving.is_made, Stops.{HasOneDue, IsDueChange, IsLeftByLast, IsLeftFromBefore, MayBeLeft, Replied, content_after, content_behind}}
use Rattle.hub.specs.{Stops.is_any_made, inner.InTurn.{MayBeLeftBy, MayBeLeftInTurn, StopsAgree}}

abbrev LeftOf : (Option State → Type 0) → State → List Replied → Option State → Type 0
LeftOf Before s xs left = IsLeftByLast s xs left ⊎ IsLeftFromBefore Before s xs left

-- ---- a due change of a longer list

due_more : (s : State) (x : Replied) (xs : List Replied) (left : Option State) → HasOneDue s xs left → HasOneDue s (x ∷ xs) left
due_more s x xs left due = (due.0, contains_in (x ∷ xs) due.0 (inr (in_contained xs due.0 due.1)), due.2)

due_first : (s : State) (x : Replied) (xs : List Replied) (left : Option State) → IsDueChange s x.0 left → HasOneDue s (x ∷ xs) left
due_first s x xs left due = (x, contains_in (x ∷ xs) x (inl refl), due)

due_cases : (s : State) (x : Replied) (xs : List Replied) (left : Option State) → HasOneDue s (x ∷ xs) left → IsDueChange s x.0 left ⊎ HasOneDue s xs left
due_cases s x xs left due = elim (in_contained (x ∷ xs) due.0 due.1) [
  | inl first ↦ inl (subst (λ y. IsDueChange s y.0 left) (sym first) due.2)
  | inr later ↦ inr (due.0, contains_in xs due.0 later, due.2)
]

-- ---- one request in front

made_content : (s : State) (q : Asked) (r : Reply) → is_made r ≡ true → content_after s q r ≡ state_left s q.1 q.2
made_content s q r is = ap (λ b. cond b (state_left s q.1 q.2) s) is

unmade_content : (s : State) (q : Asked) (r : Reply) → is_made r ≡ false → content_after s q r ≡ s
unmade_content s q r is = ap (λ b. cond b (state_left s q.1 q.2) s) is

one_before : (Before : Option State → Type 0) (s : State) (q : Asked) (r : Reply) (xs : List Replied) (left : Option State)
    → LeftOf (MayBeLeftBy Before s q r) (content_after s q r) xs left → LeftOf Before s ((q, r) ∷ xs) left
one_before Before s q r xs left (inl by) = inl (record {
  before = (q, r) ∷ by.before;
  k = by.k;
  behind = by.behind;
  all = ap (λ ys. (q, r) ∷ ys) by.all;
  made = by.made;
  last = by.last;
  content = by.content;
})
one_before Before s q r xs left (inr from) = by_case (is_made r) refl
  where
    by_case : (b : Bool) → is_made r ≡ b → LeftOf Before s ((q, r) ∷ xs) left
    by_case true is = inl (record {
      before = [];
      k = (q, r);
      behind = xs;
      all = refl;
      made = is;
      last = from.none;
      content = elim from.content [
        | inl (inl kept) ↦ absurd (true≢false (sym is ∙ kept.1))
        | inl (inr due) ↦ inl (due.1 ∙ ap Some (sym (made_content s q r is)))
        | inr due ↦ inr due
      ];
    })
    by_case false is = inr (record {
      none = ap (λ b. b || is_any_made xs) is ∙ from.none;
      content = elim from.content [
        | inl (inl kept) ↦ inl kept.0
        | inl (inr due) ↦ inr (due_first s (q, r) xs left due)
        | inr due ↦ inr (due_more s (q, r) xs left (subst (λ u. HasOneDue u xs left) (unmade_content s q r is) due))
      ];
    })

pub left_in_turn : (Before : Option State → Type 0) (s : State) (asked : List Asked) (replies : List Reply) (left : Option State)
    → MayBeLeftInTurn Before s asked replies left → MayBeLeft Before s asked replies left
left_in_turn Before s [] [] left may = inr (record { none = refl; content = inl may })
left_in_turn Before s [] (r ∷ replies) left may = absurd may
left_in_turn Before s (q ∷ others) [] left may = absurd may
left_in_turn Before s (q ∷ others) (r ∷ replies) left may =
    one_before Before s q r (zip others replies) left (left_in_turn (MayBeLeftBy Before s q r) (content_after s q r) others replies left may)

-- ---- one request taken away

abbrev head_or : Replied → List Replied → Replied
head_or d [] = d
head_or d (x ∷ xs) = x

abbrev rest_of : List Replied → List Replied
rest_of [] = []
rest_of (x ∷ xs) = xs

abbrev is_empty : List Replied → Bool
is_empty [] = true
is_empty (x ∷ xs) = false

one_less : (Before : Option State → Type 0) (s end : State) (q : Asked) (r : Reply) (xs : List Replied) (left : Option State) → IsStep s q r end
    → LeftOf Before s ((q, r) ∷ xs) left → LeftOf (MayBeLeftBy Before s q r) (content_after s q r) xs left
one_less Before s end q r xs left step (inl by) = by_front by.before by.all by.content
  where
    by_front : (front : List Replied) → (q, r) ∷ xs ≡ front ++ by.k ∷ by.behind
        → (left ≡ Some (content_behind s (front ++ by.k ∷ []))) ⊎ HasOneDue (content_behind s (front ++ by.k ∷ [])) by.behind left
        → LeftOf (MayBeLeftBy Before s q r) (content_after s q r) xs left
    by_front [] all content =
        let first : (q, r) ≡ by.k = ap (head_or by.k) all in
        let others : xs ≡ by.behind = ap rest_of all in
        let made : is_made r ≡ true = ap (λ (x : Replied). is_made x.1) first ∙ by.made in
        let same : content_after s by.k.0 by.k.1 ≡ content_after s q r = ap (λ (x : Replied). content_after s x.0 x.1) (sym first) in
        inr (record {
          none = ap is_any_made others ∙ by.last;
          content = elim content [
            | inl is ↦ inl (inr (made_due s end q r step made, is ∙ ap Some (same ∙ made_content s q r made)))
            | inr due ↦ inr (subst (λ ys. HasOneDue (content_after s q r) ys left) (sym others) (subst (λ u. HasOneDue u by.behind left) same due))
          ];
        })
    by_front (y ∷ front) all content =
        let first : y ≡ (q, r) = sym (ap (head_or y) all) in
        let same : content_after s y.0 y.1 ≡ content_after s q r = ap (λ (x : Replied). content_after s x.0 x.1) first in
        inl (record {
          before = front;
          k = by.k;
          behind = by.behind;
          all = ap rest_of all;
          made = by.made;
          last = by.last;
          content = subst (λ u. (left ≡ Some (content_behind u (front ++ by.k ∷ []))) ⊎ HasOneDue (content_behind u (front ++ by.k ∷ [])) by.behind left) same content;
        })
one_less Before s end q r xs left step (inr from) = by_case (is_made r) refl
  where
    by_case : (b : Bool) → is_made r ≡ b → LeftOf (MayBeLeftBy Before s q r) (content_after s q r) xs left
    by_case true is = absurd (true≢false (sym (ap (λ b. b || is_any_made xs) is) ∙ from.none))
    by_case false is = inr (record {
      none = sym (ap (λ b. b || is_any_made xs) is) ∙ from.none;
      content = elim from.content [
        | inl there ↦ inl (inl (there, is))
        | inr due ↦ elim (due_cases s (q, r) xs left due) [
          | inl now ↦ inl (inr now)
          | inr later ↦ inr (subst (λ u. HasOneDue u xs left) (sym (unmade_content s q r is)) later)
        ]
      ];
    })

nothing_made : (Before : Option State → Type 0) (s : State) (left : Option State) → LeftOf Before s [] left → Before left
nothing_made Before s left (inl by) = by_front by.before by.all
  where
    by_front : (front : List Replied) → [] ≡ front ++ by.k ∷ by.behind → Before left
    by_front [] all = absurd (true≢false (ap is_empty all))
    by_front (y ∷ front) all = absurd (true≢false (ap is_empty all))
nothing_made Before s left (inr from) = elim from.content [ inl there ↦ there | inr due ↦ absurd (in_contained [] due.0 due.1) ]

pub in_turn_left : (Before : Option State → Type 0) (s end : State) (asked : List Asked) (replies : List Reply) (left : Option State) → IsRun s asked replies end
    → MayBeLeft Before s asked replies left → MayBeLeftInTurn Before s asked replies left
in_turn_left Before s end [] [] left run may = nothing_made Before s left may
in_turn_left Before s end [] (r ∷ replies) left run may = absurd run
in_turn_left Before s end (q ∷ others) [] left run may = absurd run
in_turn_left Before s end (q ∷ others) (r ∷ replies) left run may =
    in_turn_left (MayBeLeftBy Before s q r) (content_after s q r) end others replies left (subst (λ u. IsRun u others replies end) (step_content s run.0 q r run.1) run.2)
    (one_less Before s run.0 q r (zip others replies) left run.1 may)

pub stops_agree : (Before : Option State → Type 0) → StopsAgree Before
stops_agree Before s end asked replies left run = (in_turn_left Before s end asked replies left run, left_in_turn Before s asked replies left)
