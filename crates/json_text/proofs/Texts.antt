-- The texts of tokens, joined.
use Rattle.std.proofs.Common.{◌≡◌, ℕ, ◌+◌, ◌<◌, ◌≤◌, List, [], ◌∷◌, ◌++◌, Bool, true, false, cond, ◌&&◌, length, drop, get_or, refl, sym, ap, ◌∙◌, append_assoc}
use Rattle.std.{proofs.{Common.{append-nil, drop_of_length-le, arith}, lemmas.Grind.{common_steps, flat_map-append}}, specs.List.flat_map}
use Rattle.{json.specs.Print.{escape_byte, escape, quoted}, serde_json.specs.Written.comma_if, iodef_tree.specs.Pointer.{escaped_byte, escaped, pointer_text}}
use Rattle.json_text.specs.{Shown.shown_bytes, declared.escape.Within.TheVariants.Token}

-- a comma before a token that begins a value or a member
pub separator-begins : (a : Bool) → cond {A = List ℕ} (a && true) (44 ∷ []) [] ≡ comma_if a
separator-begins true = refl
separator-begins false = refl

pub separator-ends : (a : Bool) → cond {A = List ℕ} (a && false) (44 ∷ []) [] ≡ []
separator-ends true = refl
separator-ends false = refl

-- a quotation mark and a text, which isn't ended yet
pub opened-is : (c t bytes : List ℕ) → bytes ≡ t → (c ++ 34 ∷ []) ++ escape bytes ≡ c ++ 34 ∷ escape t
opened-is c t bytes e = append_assoc c (34 ∷ []) (escape bytes) ∙ ap (λ l. c ++ 34 ∷ escape l) e

pub quoted-is : (c t : List ℕ) → (c ++ 34 ∷ escape t) ++ 34 ∷ [] ≡ c ++ quoted t
quoted-is c t = append_assoc c (34 ∷ escape t) (34 ∷ [])

pub name-is : (c t : List ℕ) → (c ++ 34 ∷ escape t) ++ 34 ∷ 58 ∷ [] ≡ c ++ (quoted t ++ 58 ∷ [])
name-is c t = append_assoc c (34 ∷ escape t) (34 ∷ 58 ∷ []) ∙ ap (λ l. c ++ 34 ∷ l) (sym (append_assoc (escape t) (34 ∷ []) (58 ∷ [])))

-- a name, and the text behind it
pub named-is : (a after : Bool) (q t : List ℕ) → after ≡ false → (comma_if a ++ (q ++ 58 ∷ [])) ++ (comma_if after ++ t) ≡ comma_if a ++ (q ++ 58 ∷ t)
named-is a after q t fresh =
    ap (λ l. (comma_if a ++ (q ++ 58 ∷ [])) ++ (comma_if l ++ t)) fresh
    ∙ append_assoc (comma_if a) (q ++ 58 ∷ []) t
    ∙ ap (λ l. comma_if a ++ l) (append_assoc q (58 ∷ []) t)

-- ---- a pointer as a string

abbrev pub token_shown : List ℕ → List ℕ
token_shown token = 47 ∷ shown_bytes Token token

escaped-token : (t : List ℕ) → escape (escaped t) ≡ shown_bytes Token t
escaped-token [] = refl
escaped-token (b ∷ bs) = flat_map-append escape_byte (escaped_byte b) (escaped bs) ∙ ap (λ l. escape (escaped_byte b) ++ l) (escaped-token bs)

slash-stays : (s : List ℕ) → escape (47 ∷ s) ≡ 47 ∷ escape s
unfolding escape_byte
slash-stays s = refl

pub pointer-shown : (p : List (List ℕ)) → escape (pointer_text p) ≡ flat_map token_shown p
pointer-shown [] = refl
pointer-shown (t ∷ ts) =
    flat_map-append escape_byte (47 ∷ escaped t) (pointer_text ts)
    ∙ ap (λ l. l ++ escape (pointer_text ts)) (slash-stays (escaped t) ∙ ap (λ l. 47 ∷ l) (escaped-token t))
    ∙ ap (λ l. token_shown t ++ l) (pointer-shown ts)

-- one token more
pub token-more : (done c : List ℕ) (ts : List (List ℕ)) (i : ℕ) (t bytes : List ℕ) → i < length ts → t ≡ get_or ts i t → bytes ≡ t →
    done ++ flat_map token_shown (drop i ts) ≡ c → ((done ++ 47 ∷ []) ++ shown_bytes Token bytes) ++ flat_map token_shown (drop (i + 1) ts) ≡ c
token-more done c ts i t bytes h is e before = grind (arith, common_steps, append_assoc)

pub pointer-is : (c done : List ℕ) (ts path : List (List ℕ)) (i : ℕ) → done ++ flat_map token_shown (drop i ts) ≡ (c ++ 34 ∷ []) ++ flat_map token_shown ts →
    length ts ≤ i → ts ≡ path → done ++ 34 ∷ [] ≡ c ++ quoted (pointer_text path)
pointer-is c done ts path i e end same =
    ap (λ l. l ++ 34 ∷ []) (sym (append-nil done) ∙ ap (λ l. done ++ flat_map token_shown l) (sym (drop_of_length-le ts end)) ∙ e)
    ∙ append_assoc (c ++ 34 ∷ []) (flat_map token_shown ts) (34 ∷ [])
    ∙ append_assoc c (34 ∷ []) (flat_map token_shown ts ++ 34 ∷ [])
    ∙ ap (λ l. c ++ 34 ∷ (l ++ 34 ∷ [])) (sym (pointer-shown ts))
    ∙ ap (λ l. c ++ quoted (pointer_text l)) same
