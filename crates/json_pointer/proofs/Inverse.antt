-- Reading and printing a pointer undo each other.
use Rattle.std.proofs.Common.{◌≡◌, ℕ, List, [], ◌∷◌, ◌++◌, Bool, true, false, cond, refl, sym, ap, ◌∙◌, eqb, append-nil, Option, Some, None, All, arith}
use Rattle.std.proofs.lemmas.{Bool.{eqb-true, cond-false}, List.{Elements.{All-nil, All-cons, All-append}, Splits.{slice_split_none, slice_split_at}}}
use Rattle.{std.specs.List.{flat_map, slice_split}, json_pointer.specs.Pointer.{escaped_byte, escaped, pointer_text, with_first, unescaped_from, unescaped}}
use Rattle.json_pointer.specs.{Pointer.{each_unescaped, is_slash, slash_separated, pointer_tokens}, Text.{Bytes, Tokens}}

-- ---- what is printed is read back

-- no slash is left in an escaped token
escaped_byte-plain : (c : ℕ) → All (λ b. is_slash b ≡ false) (escaped_byte c)
escaped_byte-plain c = grind (arith, All-cons, All-nil)

escaped-plain : (token : Bytes) → All (λ b. is_slash b ≡ false) (escaped token)
escaped-plain [] = All-nil (λ b. is_slash b ≡ false)
escaped-plain (c ∷ cs) = All-append (λ b. is_slash b ≡ false) (escaped_byte c) (escaped cs) (escaped_byte-plain c) (escaped-plain cs)

-- a byte's escape is read as the byte
unescaped_from-escaped_byte : (c : ℕ) (rest : Bytes) → unescaped_from false (escaped_byte c ++ rest) ≡ with_first (Some c) (unescaped_from false rest)
unescaped_from-escaped_byte c rest = grind (arith, cond-false, eqb-true)

pub unescaped-escaped : (token : Bytes) → unescaped (escaped token) ≡ Some token
unescaped-escaped [] = refl
unescaped-escaped (c ∷ cs) = unescaped_from-escaped_byte c (escaped cs) ∙ ap (with_first (Some c)) (unescaped-escaped cs)

slash_separated-printed : (x : Bytes) (p : Tokens) → slash_separated (escaped x ++ pointer_text p) ≡ Some (x ∷ p)
slash_separated-printed x [] = grind (arith, append-nil, escaped-plain, slice_split_none, unescaped-escaped)
slash_separated-printed x (y ∷ p) = grind (arith, escaped-plain, slice_split_at, unescaped-escaped, (slash_separated-printed y p))

-- the pointer of a path is read as that path
pub pointer_tokens-pointer_text : (p : Tokens) → pointer_tokens (pointer_text p) ≡ Some p
pointer_tokens-pointer_text [] = refl
pointer_tokens-pointer_text (x ∷ p) = slash_separated-printed x p

-- ---- what is read is printed as it was

-- what a list with one more in front was made of
with_first-some : {A : Type 0} (o : Option A) (rest : Option (List A)) (all : List A) → with_first o rest ≡ Some all → (x : A) × (xs : List A) × (o ≡ Some x) × (rest ≡ Some xs) × (all ≡ x ∷ xs)
with_first-some o rest all h = grind arith

abbrev HasNoSlash : Bytes → Type 0
HasNoSlash [] = Unit {0}
HasNoSlash (b ∷ bs) = (is_slash b ≡ false) × HasNoSlash bs

abbrev HaveNoSlash : List Bytes → Type 0
HaveNoSlash [] = Unit {0}
HaveNoSlash (w ∷ ws) = HasNoSlash w × HaveNoSlash ws

-- a byte that is neither a tilde nor a slash is printed as itself
escaped_byte-kept : (c : ℕ) → eqb c 126 ≡ false → is_slash c ≡ false → escaped_byte c ≡ c ∷ []
escaped_byte-kept c t s = cond-false _ _ _ t ∙ cond-false _ _ _ s

-- a token that was read is printed as it was written, with the tilde that came before it
escaped-unescaped_from : (b : Bool) (w token : Bytes) → HasNoSlash w → unescaped_from b w ≡ Some token → escaped token ≡ cond b (126 ∷ w) w
escaped-unescaped_from false (c ∷ cs) token h r = by_byte (eqb c 126) refl r (escaped-unescaped_from true cs token h.1) (λ t. escaped-unescaped_from false cs t h.1)
  where
    by_byte : (x : Bool) → eqb c 126 ≡ x → cond x (unescaped_from true cs) (with_first (Some c) (unescaped_from false cs)) ≡ Some token → (unescaped_from true cs ≡ Some token → escaped token ≡ 126 ∷ cs)
        → ((t : Bytes) → unescaped_from false cs ≡ Some t → escaped t ≡ cs) → escaped token ≡ c ∷ cs
    by_byte true e k tilde plain = tilde k ∙ ap (λ d. d ∷ cs) (sym (eqb-true c 126 e))
    by_byte false e k tilde plain =
        let (x, xs, first, rest, all) = with_first-some (Some c) (unescaped_from false cs) token k in
        let same : token ≡ c ∷ xs = cc in ap escaped same ∙ ap (λ bs. bs ++ escaped xs) (escaped_byte-kept c e h.0) ∙ ap (λ bs. c ∷ bs) (plain xs rest)
escaped-unescaped_from true (c ∷ cs) token h r = by_code (eqb c 48) (eqb c 49) refl refl r (λ t. escaped-unescaped_from false cs t h.1)
  where
    by_code : (x y : Bool) → eqb c 48 ≡ x → eqb c 49 ≡ y → with_first (cond x (Some 126) (cond y (Some 47) None)) (unescaped_from false cs) ≡ Some token → ((t : Bytes) → unescaped_from false cs ≡ Some t → escaped t ≡ cs)
        → escaped token ≡ 126 ∷ c ∷ cs
    by_code true y e f k plain =
        let (z, xs, first, rest, all) = with_first-some (Some 126) (unescaped_from false cs) token k in
        let same : token ≡ 126 ∷ xs = cc in ap escaped same ∙ ap (λ bs. 126 ∷ 48 ∷ bs) (plain xs rest) ∙ ap (λ d. 126 ∷ d ∷ cs) (sym (eqb-true c 48 e))
    by_code false true e f k plain =
        let (z, xs, first, rest, all) = with_first-some (Some 47) (unescaped_from false cs) token k in
        let same : token ≡ 47 ∷ xs = cc in ap escaped same ∙ ap (λ bs. 126 ∷ 49 ∷ bs) (plain xs rest) ∙ ap (λ d. 126 ∷ d ∷ cs) (sym (eqb-true c 49 f))
    by_code false false e f k plain = absurd (cc)
escaped-unescaped_from b w token h r = grind arith

-- no piece between the slashes holds a slash
pieces-HaveNoSlash : (cs : Bytes) → HaveNoSlash (slice_split is_slash cs)
pieces-HaveNoSlash [] = (tt, tt)
pieces-HaveNoSlash (c ∷ cs) = grind (arith, (pieces-HaveNoSlash cs))

abbrev behind_slashes : List Bytes → Bytes
behind_slashes ws = flat_map (λ w. 47 ∷ w) ws

-- the pieces, each behind a slash
behind_slashes-pieces : (cs : Bytes) → behind_slashes (slice_split is_slash cs) ≡ 47 ∷ cs
behind_slashes-pieces [] = refl
behind_slashes-pieces (c ∷ cs) = grind (arith, eqb-true, (behind_slashes-pieces cs))

pointer_text-each : (ws : List Bytes) (p : Tokens) → HaveNoSlash ws → each_unescaped ws ≡ Some p → pointer_text p ≡ behind_slashes ws
pointer_text-each [] p h r = let e : [] ≡ p = cc in ap pointer_text (sym e)
pointer_text-each (w ∷ ws) p h r =
    let (x, xs, first, rest, all) = with_first-some (unescaped w) (each_unescaped ws) p r in
    ap pointer_text all ∙ ap (λ bs. 47 ∷ (bs ++ pointer_text xs)) (escaped-unescaped_from false w x h.0 first) ∙ ap (λ bs. 47 ∷ (w ++ bs)) (pointer_text-each ws xs h.1 rest)

-- the pointer of the path that is read from a text is that text
pub pointer_text-pointer_tokens : (text : Bytes) (p : Tokens) → pointer_tokens text ≡ Some p → pointer_text p ≡ text
pointer_text-pointer_tokens [] p h = let e : [] ≡ p = cc in ap pointer_text (sym e)
pointer_text-pointer_tokens (c ∷ cs) p h = by_byte (is_slash c) refl h
  where
    by_byte : (x : Bool) → is_slash c ≡ x → cond x (slash_separated cs) None ≡ Some p → pointer_text p ≡ c ∷ cs
    by_byte true e k = pointer_text-each (slice_split is_slash cs) p (pieces-HaveNoSlash cs) k ∙ behind_slashes-pieces cs ∙ ap (λ d. d ∷ cs) (sym (eqb-true c 47 e))
    by_byte false e k = absurd (cc)
