-- What the parser of heads returns, and what the bytes ask.
use Rattle.std.proofs.Common.{◌≡◌, ℕ, ◌+◌, ◌<◌, ◌≤◌, List, [], ◌∷◌, ◌++◌, length, drop, Err, refl, ap, ◌∙◌, subst, inl, arith, append-nil, length-append}
use Rattle.std.{proofs.{Common.{length-take, nat_le, false, sym}, lemmas.{Bool.Decides.nat_tests, List.length-map}}, specs.List.flat_map}
use Rattle.httparse.specs.{Borrowed.HoldsSomeRequest, Grammar.{RequestHead, Field, lf, print_end, print_field, print_request, ReadsRequest}}
use Rattle.{httparse.specs.{Spans.{RequestOverflows, RequestExceeds}, declared.borrowed.Request.Request}, hub_http.specs.Wire.{Asked, Wire, AsksByHead}}
use Rattle.hub_http.specs.{Wire.{asked_by, window, fields_of}, declared.{TheConstants.{HEAD_LIMIT, FIELD_LIMIT}, wire.Arrival.{Arrival, TheVariants.Wants}}}
use Rattle.hub_http.specs.{declared.wire.Arrival.TheVariants.{Asks, Refused}, inner.Arrivals.{Stands, Arrives}}
use Rattle.hub_http.specs.declared.wire_fault.WireFault.TheVariants as fault

module _ (bytes : List ℕ) (asked : Asked) (by_head : AsksByHead bytes asked) where
  is_wire : (other : Asked) → asked ≡ other → Wire bytes other
  is_wire other e = inl (subst (AsksByHead bytes) e by_head)

  pub arrives : (here : ℕ) → length bytes ≤ here → (a : Arrival) → Stands asked here a → Arrives bytes a
  arrives here le (Wants n) s = (is_wire _ s.0, omega (arith, le, s.1), s.2)
  arrives here le (Asks key request) s = is_wire _ s
  arrives here le (Refused fault.HeadTooLong) s = is_wire _ s
  arrives here le (Refused fault.BadHead) s = is_wire _ s
  arrives here le (Refused fault.Chunked) s = is_wire _ s
  arrives here le (Refused fault.NoLength) s = is_wire _ s
  arrives here le (Refused fault.TooLarge) s = is_wire _ s
  arrives here le (Refused fault.Truncated) s = absurd s
  arrives here le (Refused fault.NoRoute) s = is_wire _ s
  arrives here le (Refused fault.BadBody) s = is_wire _ s
  arrives here le (Refused fault.NoMemory) s = tt

-- the head is in the window
pub head_fits : (bytes : List ℕ) (h : RequestHead) (rest : List ℕ) → ReadsRequest (window bytes) h rest → (length (print_request h) ≤ HEAD_LIMIT) × (length (print_request h) ≤ length bytes)
head_fits bytes h rest reads =
    let e : length (window bytes) ≡ length (print_request h) + length rest = ap length reads.1 ∙ length-append (print_request h) rest in
    (omega (arith, e, length-take {A = ℕ}), omega (arith, e, length-take {A = ℕ}))

-- the same for what the parser holds
pub within : (bytes front : List ℕ) (len : ℕ) (r : Request) → front ≡ window bytes → HoldsSomeRequest front r len → (len ≤ HEAD_LIMIT) × (len ≤ length bytes)
within bytes front len r same (h, holds) =
    let fits = head_fits bytes h (drop len front) (subst (λ l. ReadsRequest l h (drop len front)) same holds.reads) in
    (omega (arith, fits, holds.len_is), omega (arith, fits, holds.len_is))

not_leb : {n : ℕ} → FIELD_LIMIT < n → nat_le n FIELD_LIMIT ≡ false
not_leb h = grind (arith, nat_tests)

-- a whole head has too many fields
pub too_many_fields : (bytes : List ℕ) (h : RequestHead) (rest : List ℕ) → ReadsRequest (window bytes) h rest
    → FIELD_LIMIT < length h.fields → Wire bytes (Err fault.HeadTooLong)
unfolding asked_by
too_many_fields bytes h rest reads many =
    let few : nat_le (length (fields_of h)) FIELD_LIMIT ≡ false = rw length-map (not_leb many) in
    inl (h, rest, reads, rw few refl)

-- the same for what the parser holds
pub many_fields : (bytes front : List ℕ) (r : Request) (len : ℕ) → front ≡ window bytes → RequestOverflows FIELD_LIMIT (window bytes)
    → HoldsSomeRequest front r len → Wire bytes (Err fault.HeadTooLong)
many_fields bytes front r len same over (h, holds) =
    let reads : ReadsRequest (window bytes) h (drop len front) = subst (λ l. ReadsRequest l h (drop len front)) same holds.reads in
    let more : ReadsRequest (window bytes ++ []) h (drop len front) = subst (λ l. ReadsRequest l h (drop len front)) (sym (append-nil (window bytes))) reads in
    too_many_fields bytes h (drop len front) reads (over [] h (drop len front) more)

-- there are no more fields than bytes
field_long : (f : Field) → 1 ≤ length (print_field f)
field_long f = simp length-append (omega arith)

fields_short : (fields : List Field) → length fields ≤ length (flat_map print_field fields)
fields_short [] = omega arith
fields_short (f ∷ fields) =
    rw length-append (omega (arith, fields_short fields, field_long f))

head_long : (h : RequestHead) → length h.fields + 2 ≤ length (print_request h)
unfolding print_request
head_long h = simp length-append (omega (arith, fields_short h.fields))

pub never_exceeds : (bytes : List ℕ) (room : ℕ) → HEAD_LIMIT ≤ room → ¬ (RequestExceeds room (window bytes))
never_exceeds bytes room big (front, rest, whole, h, reads, many) =
    let a : length (front ++ print_end lf) ≡ length (print_request h ++ []) = ap length reads.1 in
    let b : length (window bytes) ≡ length (front ++ rest) = ap length whole in
    omega (arith, big, head_long h, many, simp (length-append, append-nil) at a, simp length-append at b, length-take {A = ℕ} HEAD_LIMIT bytes)

pub exceeds_none : (bytes front : List ℕ) (room : ℕ) → front ≡ window bytes → HEAD_LIMIT ≤ room → RequestExceeds room front → ⊥
exceeds_none bytes front room same full h =
    never_exceeds bytes room full (subst (λ l. RequestExceeds room l) same h)
