-- The reading of the characters of a reference token.
use Rattle.std.proofs.Common.{◌≡◌, ◌≢◌, ◌≤◌, ℕ, List, [], ◌∷◌, ◌++◌, true, false, sym, ap, ◌∙◌, arith, append-nil, append_assoc, Option, Some, None, option_map}
use Rattle.{std.{proofs.lemmas.Bool.{ne_eqb, cond-false}, specs.{Char.encode_utf8, Iterator.AlwaysYields}}, json_pointer.proofs.Characters.AreHigh}
use Rattle.json_pointer.{proofs.Characters.encode_utf8-cases, specs.Pointer.{escaped_by, with_first, unescaped_from, unescaped, each_unescaped, pointer_tokens}}
use Rattle.json_pointer.specs.Text.{Tokens}

-- what is read so far, in front of what is still to come
abbrev pub made_then : {A : Type 0} → List A → Option (List A) → Option (List A)
made_then made rest = option_map (λ xs. made ++ xs) rest

pub made_then-nil : {A : Type 0} (rest : Option (List A)) → made_then [] rest ≡ rest
made_then-nil rest = grind arith

pub made_then-append : {A : Type 0} (a b : List A) (rest : Option (List A)) → made_then (a ++ b) rest ≡ made_then a (made_then b rest)
made_then-append a b rest = grind (arith, append_assoc)

pub made_then-first : {A : Type 0} (x : A) (rest : Option (List A)) → made_then (x ∷ []) rest ≡ with_first (Some x) rest
made_then-first x rest = grind arith

-- a byte that is no tilde means itself
plain_byte : (b : ℕ) (rest : List ℕ) → b ≢ 126 → unescaped_from false (b ∷ rest) ≡ made_then (b ∷ []) (unescaped_from false rest)
plain_byte b rest n = cond-false _ _ _ (ne_eqb b 126 n) ∙ sym (made_then-first b (unescaped_from false rest))

high_bytes : (bs rest : List ℕ) → AreHigh bs → unescaped_from false (bs ++ rest) ≡ made_then bs (unescaped_from false rest)
high_bytes [] rest h = sym (made_then-nil (unescaped_from false rest))
high_bytes (b ∷ bs) rest h =
    plain_byte b (bs ++ rest) (λ e. omega arith) ∙ ap (made_then (b ∷ [])) (high_bytes bs rest h.1) ∙ sym (made_then-append (b ∷ []) bs (unescaped_from false rest))

-- a character that is no tilde means itself
unescaped_from-plain : (c : ℕ) (rest : List ℕ) → c ≢ 126 → unescaped_from false (encode_utf8 c ++ rest) ≡ made_then (encode_utf8 c) (unescaped_from false rest)
unescaped_from-plain c rest n = grind (arith, encode_utf8-cases, high_bytes, plain_byte)

-- a tilde by itself means nothing yet
unescaped_from-tilde : (c : ℕ) (rest : List ℕ) → c ≡ 126 → unescaped_from false (encode_utf8 c ++ rest) ≡ unescaped_from true rest
unfolding encode_utf8
unescaped_from-tilde c rest e = ap (λ d. unescaped_from false (encode_utf8 d ++ rest)) e

no_code : (b : ℕ) → 128 ≤ b → escaped_by b ≡ None
no_code b h = cond-false _ _ _ (ne_eqb b 48 (omega arith)) ∙ cond-false _ _ _ (ne_eqb b 49 (omega arith))

-- a character behind a tilde is read by its code
unescaped_from-behind : (c : ℕ) (rest : List ℕ) → unescaped_from true (encode_utf8 c ++ rest) ≡ with_first (escaped_by c) (unescaped_from false rest)
unescaped_from-behind c rest = grind (arith, encode_utf8-cases, no_code)

-- a code means one byte
encode_utf8-code : (c b : ℕ) → escaped_by c ≡ Some b → encode_utf8 b ≡ b ∷ []
unfolding encode_utf8
encode_utf8-code c b h = grind arith

-- ---- the steps of the reading, over the token so far, what is left at a character, and what is left behind it

module _ (kept left rest : List ℕ) (whole : Option (List ℕ)) where
  pub plain_step : (c : ℕ) → left ≡ encode_utf8 c ++ rest → c ≢ 126 → made_then kept (unescaped_from false left) ≡ whole → made_then (kept ++ encode_utf8 c) (unescaped_from false rest) ≡ whole
  plain_step c e n h = grind (arith, made_then-append, unescaped_from-plain)

  pub tilde_step : (c : ℕ) → left ≡ encode_utf8 c ++ rest → c ≡ 126 → made_then kept (unescaped_from false left) ≡ whole → made_then kept (unescaped_from true rest) ≡ whole
  tilde_step c e t h = ap (made_then kept) (sym (unescaped_from-tilde c rest t) ∙ ap (unescaped_from false) (sym e)) ∙ h

  pub code_step : (c b : ℕ) → left ≡ encode_utf8 c ++ rest → escaped_by c ≡ Some b → made_then kept (unescaped_from true left) ≡ whole → made_then (kept ++ encode_utf8 b) (unescaped_from false rest) ≡ whole
  code_step c b e stands h =
      ap (λ bs. made_then (kept ++ bs) (unescaped_from false rest)) (encode_utf8-code c b stands) ∙ made_then-append kept (b ∷ []) (unescaped_from false rest)
      ∙ ap (made_then kept)
      (made_then-first b (unescaped_from false rest) ∙ ap (λ o. with_first o (unescaped_from false rest)) (sym stands) ∙ sym (unescaped_from-behind c rest) ∙ ap (unescaped_from true) (sym e))
      ∙ h

  pub no_code_step : (c : ℕ) → left ≡ encode_utf8 c ++ rest → escaped_by c ≡ None → made_then kept (unescaped_from true left) ≡ whole → whole ≡ None
  no_code_step c e stands h = grind (arith, unescaped_from-behind)

-- ---- the steps over the tokens, each over those so far and what the iterator has left

module _ {S A : Type 0} (steps : S → Option A → S → Type 0) (written : A → List ℕ) (whole : Option Tokens) where
  -- the pieces that s has left give, behind the tokens so far, the whole path
  abbrev pub Comes : S → Tokens → Type 0
  Comes at tokens = (left : List (List ℕ)) × AlwaysYields steps written at left × (made_then tokens (each_unescaped left) ≡ whole)

  pub token_step : (s t : S) (made : Tokens) (x : A) (token : List ℕ) → Comes s made → steps s (Some x) t → unescaped (written x) ≡ Some token → Comes t (made ++ token ∷ [])
  token_step s t made x token (left, yields, is) k stands = by_left left yields is
    where
      by_left : (left : List (List ℕ)) → AlwaysYields steps written s left → made_then made (each_unescaped left) ≡ whole → Comes t (made ++ token ∷ [])
      by_left [] none is = absurd (none x t k)
      by_left (y ∷ ys) more is =
          let here = more.1 x t k in (
            ys,
            here.1,
            made_then-append made (token ∷ []) (each_unescaped ys)
                ∙ ap (made_then made) (made_then-first token (each_unescaped ys) ∙ ap (λ o. with_first o (each_unescaped ys)) (sym stands ∙ ap unescaped here.0))
                ∙ is,
          )

  pub bad_step : (s t : S) (made : Tokens) (x : A) → Comes s made → steps s (Some x) t → unescaped (written x) ≡ None → whole ≡ None
  bad_step s t made x (left, yields, is) k stands = by_left left yields is
    where
      by_left : (left : List (List ℕ)) → AlwaysYields steps written s left → made_then made (each_unescaped left) ≡ whole → whole ≡ None
      by_left [] none is = absurd (none x t k)
      by_left (y ∷ ys) more is = sym is ∙ ap (λ o. made_then made (with_first o (each_unescaped ys))) (ap unescaped (sym (more.1 x t k).0) ∙ stands)

  pub last_step : (s t : S) (made : Tokens) → Comes s made → steps s None t → whole ≡ Some made
  last_step s t made (left, yields, is) k = by_left left yields is
    where
      by_left : (left : List (List ℕ)) → AlwaysYields steps written s left → made_then made (each_unescaped left) ≡ whole → whole ≡ Some made
      by_left [] none is = sym is ∙ ap Some (append-nil made)
      by_left (y ∷ ys) more is = absurd (more.0 t k)

-- ---- the whole pointer

-- a text that is not empty and begins with no slash is no pointer
pub pointer_tokens-none : (text : List ℕ) → text ≢ [] → ((rest : List ℕ) → text ≢ 47 ∷ rest) → pointer_tokens text ≡ None
pointer_tokens-none text some none = grind (arith, cond-false, ne_eqb)
