-- What a request's bytes ask, or their first fault.
use Rattle.std.specs.Prelude.{◌≡◌, ℕ, ◌<◌, ◌≤◌, ◌⊎◌, List, length, map, take, drop, nat_le, Result, Ok, Err, codes}
use Rattle.std.specs.Str.{bytes_eq}
use Rattle.httparse.specs.Grammar.{RequestHead, print_request, ReadsRequest, HasNoRequest, NeverHasRequest, MayBecomeRequest}
use Rattle.httparse.specs.Spans.{name_and_value}
use Rattle.hub.specs.declared.key.Key.{Key}
use Rattle.hub_state.specs.declared.request.Request.{Request}
use Rattle.hub_http.specs.declared.TheConstants.{HEAD_LIMIT, FIELD_LIMIT}
use Rattle.hub_http.specs.declared.wire_fault.WireFault.{WireFault}
use Rattle.hub_http.specs.declared.request_fault.RequestFault.{RequestFault}
use Rattle.hub_http.specs.Outcome.{◌>>=◌, require}
use Rattle.hub_http.specs.Parameters.{Pair}
use Rattle.hub_http.specs.Fields.{body_length, key_of}
use Rattle.hub_http.specs.Requests.{request_by}
use Rattle.hub_http.specs.declared.wire_fault.WireFault.TheVariants as fault
use Rattle.hub_http.specs.declared.request_fault.RequestFault.TheVariants as request_fault

-- a key and a request, or a fault
abbrev pub Asked : Type 0
Asked = Result (Key × Request) WireFault

-- the bytes in which a head must end
abbrev pub window : List ℕ → List ℕ
window bytes = take HEAD_LIMIT bytes

-- the names and the values of a head's fields
abbrev pub fields_of : RequestHead → List Pair
fields_of h = map name_and_value h.fields

-- the fault of a request as a fault of the wire
abbrev pub as_wire : {A : Type 0} → Result A RequestFault → Result A WireFault
as_wire (Ok x) = Ok x
as_wire (Err request_fault.NoRoute) = Err fault.NoRoute
as_wire (Err request_fault.BadBody) = Err fault.BadBody
as_wire (Err request_fault.NoMemory) = Err fault.NoMemory

-- What a whole head with the bytes after it asks. The faults are asked in this order: too many fields, the body's
-- length, its bytes, the request.
unfoldable pub asked_by : List ℕ → List ℕ → List Pair → List ℕ → Asked
asked_by method target fields rest = do
  _ ← require (nat_le (length fields) FIELD_LIMIT) fault.HeadTooLong
  n ← body_length (bytes_eq method (codes "GET")) fields
  _ ← require (nat_le n (length rest)) fault.Truncated
  request ← as_wire (request_by method target (take n rest))
  Ok (key_of fields, request)

-- a head ends in the window, and the bytes ask what it asks with the bytes after it (RFC 9112 sections 2 to 6)
abbrev pub AsksByHead : List ℕ → Asked → Type 0
AsksByHead bytes asked =
    (h : RequestHead) × (rest : List ℕ) × ReadsRequest (window bytes) h rest
    × (asked ≡ asked_by h.method h.target (fields_of h) (drop (length (print_request h)) bytes))

-- No head ends in the window: BadHead if no bytes after it can make one. If one may still come, HeadTooLong if
-- HEAD_LIMIT bytes are there, and Truncated if not.
abbrev pub IsHeadless : List ℕ → Asked → Type 0
IsHeadless bytes (Err fault.BadHead) = NeverHasRequest (window bytes)
IsHeadless bytes (Err fault.HeadTooLong) =
    (HEAD_LIMIT ≤ length bytes) × HasNoRequest (window bytes) × MayBecomeRequest (window bytes)
IsHeadless bytes (Err fault.Truncated) =
    (length bytes < HEAD_LIMIT) × HasNoRequest (window bytes) × MayBecomeRequest (window bytes)
IsHeadless bytes _ = ⊥

-- The bytes ask this, or have this first fault. There is one answer, except if the window ends inside the target and no
-- bytes after it can make a head. Then BadHead is right, and so is HeadTooLong or Truncated.
abbrev pub Wire : List ℕ → Asked → Type 0
Wire bytes asked = AsksByHead bytes asked ⊎ IsHeadless bytes asked

-- the answer is right for the bytes, unless memory ran out
abbrev pub Answers : List ℕ → Asked → Type 0
Answers bytes (Ok found) = Wire bytes (Ok found)
Answers bytes (Err fault.NoMemory) = Unit {0}
Answers bytes (Err e) = Wire bytes (Err e)
