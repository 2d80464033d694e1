-- What a stop may leave after a request, and after a list of requests.
use Rattle.std.specs.Prelude.{◌≡◌, ◌⊎◌, Bool, true, false, List, [], ◌∷◌, ◌++◌, Option, Some, IsTrue, Contains, if◌then◌else◌}
use Rattle.std.specs.List.{list_any, zip}
use Rattle.hub_core.specs.State.{State}
use Rattle.hub_state.specs.declared.reply.Reply.{Reply}
use Rattle.hub.specs.Machine.{Asked, state_left}
use Rattle.hub.specs.Replies.{reply_of}
use Rattle.hub.specs.Serving.{is_made}

-- A change is due: the caller is known, nothing refuses the request, and it doesn't only read. It is made or given up.
abbrev pub is_change_due : State → Asked → Bool
is_change_due s asked = is_made (reply_of s asked.0 asked.1 asked.2)

-- the content after a request by which a change is due
abbrev pub IsDueChange : State → Asked → Option State → Type 0
IsDueChange s asked left = IsTrue (is_change_due s asked) × (left ≡ Some (state_left s asked.1 asked.2))

-- ---- after a list of requests

-- a request with its reply
abbrev pub Replied : Type 0
Replied = Asked × Reply

-- the content after a request: what the request leaves if the reply says that a change was made, and otherwise the same
abbrev pub content_after : State → Asked → Reply → State
content_after s asked reply = if is_made reply then state_left s asked.1 asked.2 else s

-- the content after requests, one after another
abbrev pub content_behind : State → List Replied → State
content_behind s [] = s
content_behind s (x ∷ xs) = content_behind (content_after s x.0 x.1) xs

-- one of the replies says that a change was made
abbrev pub is_any_made : List Replied → Bool
is_any_made xs = list_any (λ x. is_made x.1) xs

-- the content after one of these requests by which a change is due
abbrev pub HasOneDue : State → List Replied → Option State → Type 0
HasOneDue s xs left = (x : Replied) × Contains xs x × IsDueChange s x.0 left

-- Change k is the last that was made. Left is the content after it, or that with one due, given-up change behind it.
pub record IsLeftByLast (s : State) (xs : List Replied) (left : Option State) : Type 0 where
  pub before : List Replied
  pub k : Replied
  pub behind : List Replied
  pub all : xs ≡ before ++ k ∷ behind
  pub made : is_made k.1 ≡ true
  pub last : is_any_made behind ≡ false
  pub content : (left ≡ Some (content_behind s (before ++ k ∷ [])))
      ⊎ HasOneDue (content_behind s (before ++ k ∷ [])) behind left

-- No change was made. Left is what could be left before, or the content with one due, given-up change.
pub record IsLeftFromBefore (Before : Option State → Type 0) (s : State) (xs : List Replied) (left : Option State) : Type 0 where
  pub none : is_any_made xs ≡ false
  pub content : Before left ⊎ HasOneDue s xs left

-- What a stop may leave after requests with their replies, if it could have left `Before` before: the content after the
-- last change that was made, or, if none was made, what could be left before; or one due, given-up change more.
abbrev pub MayBeLeft : (Option State → Type 0) → State → List Asked → List Reply → Option State → Type 0
MayBeLeft Before s asked replies left =
    IsLeftByLast s (zip asked replies) left ⊎ IsLeftFromBefore Before s (zip asked replies) left
