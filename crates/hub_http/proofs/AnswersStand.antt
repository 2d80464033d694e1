-- More bytes change no answer but Truncated.
use Rattle.std.proofs.Common.{◌≡◌, ◌≢◌, ℕ, ◌+◌, ◌-◌, ◌≤◌, List, [], ◌++◌, length, take, drop, Bool, true, false, Result, Ok, Err, refl, ap, sym, ◌∙◌, subst}
use Rattle.std.proofs.{Common.{inl, inr, arith, append_assoc, append-nil, length-append, nat_le, codes}, Math.Seq.take-append-add, lemmas.Bool.cases_lt}
use Rattle.std.{proofs.lemmas.{Bool.Decides.leb_tells, List.{take-append-le, drop-append-le, take_all}}, specs.Str.bytes_eq}
use Rattle.httparse.{proofs.GrammarLemmas.ReadsRequest-append, specs.Grammar.{print_request, ReadsRequest, HasNoRequest, NeverHasRequest, MayBecomeRequest}}
use Rattle.hub_http.{proofs.Heads.head_fits, specs.{Fields.{body_length, key_of}, Outcome.{◌>>=◌, require}, Parameters.Pair, Requests.request_by, Wire.Asked}}
use Rattle.hub_http.specs.{Wire.{Wire, AsksByHead, IsHeadless, asked_by, as_wire, window, fields_of}, declared.TheConstants.{HEAD_LIMIT, FIELD_LIMIT}}
use Rattle.hub_http.specs.declared.wire_fault.WireFault.{WireFault}
use Rattle.hub_http.specs.declared.wire_fault.WireFault.TheVariants as fault

-- the window of more bytes begins with the window
grown : (bytes more : List ℕ) → (x : List ℕ) × (window (bytes ++ more) ≡ window bytes ++ x)
grown bytes more = elim (cases_lt (length bytes) HEAD_LIMIT) [
  | inl short ↦
      let split : HEAD_LIMIT ≡ length bytes + (HEAD_LIMIT - length bytes) = omega (arith, short) in
      let all : take HEAD_LIMIT bytes ≡ bytes = take_all HEAD_LIMIT bytes (omega (arith, short)) in (
        take (HEAD_LIMIT - length bytes) more,
        ap (λ k. take k (bytes ++ more)) split ∙ take-append-add bytes more (HEAD_LIMIT - length bytes)
            ∙ ap (λ l. l ++ take (HEAD_LIMIT - length bytes) more) (sym all),
      )
  | inr full ↦ ([], take-append-le HEAD_LIMIT bytes more full ∙ sym (append-nil (window bytes)))
]

module _ (method target : List ℕ) (fields : List Pair) (rest more : List ℕ) where
  -- what a request with a body of this length asks
  abbrev body_asks : ℕ → List ℕ → Asked
  body_asks n behind = do
    _ ← require (nat_le n (length behind)) fault.Truncated
    request ← as_wire (request_by method target (take n behind))
    Ok (key_of fields, request)

  body_stands : (n : ℕ) → body_asks n rest ≢ Err fault.Truncated → body_asks n (rest ++ more) ≡ body_asks n rest
  body_stands n whole = elim (leb_tells n (length rest)) [
    | inl (e, le) ↦
        let more_le : nat_le n (length (rest ++ more)) ≡ true = rw length-append (search (arith, le)) in
        rw (more_le, take-append-le n rest more le, e) refl
    | inr (e, lt) ↦ absurd (whole (rw e refl))
  ]

  length_stands : (r : Result ℕ WireFault) → (r >>= λ n. body_asks n rest) ≢ Err fault.Truncated
      → (r >>= λ n. body_asks n (rest ++ more)) ≡ (r >>= λ n. body_asks n rest)
  length_stands (Ok n) whole = body_stands n whole
  length_stands (Err e) whole = refl

  fields_stand : (b : Bool) (r : Result ℕ WireFault)
      → (require b fault.HeadTooLong >>= λ _. r >>= λ n. body_asks n rest) ≢ Err fault.Truncated
      → (require b fault.HeadTooLong >>= λ _. r >>= λ n. body_asks n (rest ++ more))
      ≡ (require b fault.HeadTooLong >>= λ _. r >>= λ n. body_asks n rest)
  fields_stand true r whole = length_stands r whole
  fields_stand false r whole = refl

  asked_stands : asked_by method target fields rest ≢ Err fault.Truncated
      → asked_by method target fields (rest ++ more) ≡ asked_by method target fields rest
  unfolding asked_by
  asked_stands whole = fields_stand (nat_le (length fields) FIELD_LIMIT) (body_length (bytes_eq method (codes "GET")) fields) whole

by_head : (bytes more : List ℕ) (a : Asked) → a ≢ Err fault.Truncated → AsksByHead bytes a → AsksByHead (bytes ++ more) a
by_head bytes more a whole (h, rest, reads, e) =
    let g = grown bytes more in
    let reads_more : ReadsRequest (window (bytes ++ more)) h (rest ++ g.0) =
    subst (λ l. ReadsRequest l h (rest ++ g.0)) (sym g.1) (ReadsRequest-append (window bytes) h rest g.0 reads) in
    let behind : drop (length (print_request h)) (bytes ++ more) ≡ drop (length (print_request h)) bytes ++ more =
    drop-append-le (length (print_request h)) bytes more (head_fits bytes h rest reads).1 in
    let stands = asked_stands h.method h.target (fields_of h) (drop (length (print_request h)) bytes) more (λ t. whole (e ∙ t)) in
    (h, rest ++ g.0, reads_more, e ∙ sym stands ∙ ap (asked_by h.method h.target (fields_of h)) (sym behind))

never_more : (front x : List ℕ) → NeverHasRequest front → NeverHasRequest (front ++ x)
never_more front x never m = subst HasNoRequest (sym (append_assoc front x m)) (never (x ++ m))

full_window : (bytes more : List ℕ) → HEAD_LIMIT ≤ length bytes → window bytes ≡ window (bytes ++ more)
full_window bytes more full = sym (take-append-le HEAD_LIMIT bytes more full)

headless : (bytes more : List ℕ) (a : Asked) → a ≢ Err fault.Truncated → IsHeadless bytes a → IsHeadless (bytes ++ more) a
headless bytes more (Ok x) whole h = absurd h
headless bytes more (Err fault.HeadTooLong) whole h = (
  rw length-append (omega (arith, h.0)),
  subst HasNoRequest (full_window bytes more h.0) h.1,
  subst MayBecomeRequest (full_window bytes more h.0) h.2,
)
headless bytes more (Err fault.BadHead) whole h =
    let g = grown bytes more in
    subst NeverHasRequest (sym g.1) (never_more (window bytes) g.0 h)
headless bytes more (Err fault.Chunked) whole h = absurd h
headless bytes more (Err fault.NoLength) whole h = absurd h
headless bytes more (Err fault.TooLarge) whole h = absurd h
headless bytes more (Err fault.Truncated) whole h = absurd (whole refl)
headless bytes more (Err fault.NoRoute) whole h = absurd h
headless bytes more (Err fault.BadBody) whole h = absurd h
headless bytes more (Err fault.NoMemory) whole h = absurd h

pub answers_stand : (bytes more : List ℕ) (a : Asked) → a ≢ Err fault.Truncated → Wire bytes a → Wire (bytes ++ more) a
answers_stand bytes more a whole (inl x) = inl (by_head bytes more a whole x)
answers_stand bytes more a whole (inr x) = inr (headless bytes more a whole x)
