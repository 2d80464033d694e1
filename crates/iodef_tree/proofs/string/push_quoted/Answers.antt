use Rattle.std.proofs.{Common.{◌≡◌, [], ◌∷◌, ◌++◌, ◌∙◌, ap, sym, string_bytes, ℕ, false, List, refl, ap₂, append_assoc, ◌==◌}, lemmas.Bool.or_parts}
use Rattle.{std.{proofs.lemmas.Bool.{eqb-false, ltb-false}, specs.List.list_any}, json_pointer.specs.Text.Bytes, json.proofs.Printed.Strings.escape_byte_plain}
use Rattle.{json.specs.Print.{escape, quoted}, iodef_tree.specs.inner.Written.needs_escape}
use Rattle.iodef_tree.proofs.string.push_quoted.Goals as goal

-- a text without a byte that needs an escape is its own escape
escape-plain : (s : Bytes) → list_any needs_escape s ≡ false → escape s ≡ s
escape-plain [] h = refl
escape-plain (x ∷ xs) h =
    let parts = or_parts (needs_escape x) (list_any needs_escape xs) h in
    let tests = or_parts (x == 34) _ parts.0 in
    let others = or_parts (x == 92) _ tests.1 in
    ap₂ (λ (a b : List ℕ). a ++ b) (escape_byte_plain x (eqb-false x 34 tests.0) (eqb-false x 92 others.0) (ltb-false x 32 others.1)) (escape-plain xs parts.1)

quoted-plain : (s : Bytes) → list_any needs_escape s ≡ false → quoted s ≡ 34 ∷ (s ++ 34 ∷ [])
quoted-plain s h = ap (λ t. 34 ∷ (t ++ 34 ∷ [])) (escape-plain s h)

-- a quoted text behind other bytes, put there piece by piece
quoted-behind : (out s : Bytes) → list_any needs_escape s ≡ false → ((out ++ 34 ∷ []) ++ s) ++ 34 ∷ [] ≡ out ++ quoted s
quoted-behind out s h =
    append_assoc (out ++ 34 ∷ []) s (34 ∷ [])
    ∙ append_assoc out (34 ∷ []) (s ++ 34 ∷ [])
    ∙ sym (ap (λ t. out ++ t) (quoted-plain s h))

pub returns-clause-ok : goal.returns-clause-ok
unfolding lib.Utf8.encode
returns-clause-ok c =
    let s = c.args.text.now in
    let out = string_bytes c.args.out.now in
    let opened : string_bytes c.push.new.self ≡ out ++ 34 ∷ [] = c.in_ok-push.ensures.bytes in
    let filled : string_bytes c.push_str-2.new.self ≡ (out ++ 34 ∷ []) ++ s = c.in_ok-push_str-2.ensures.bytes ∙ ap (λ (b : Bytes). b ++ s) opened in
    let closed : string_bytes c.push-2.new.self ≡ ((out ++ 34 ∷ []) ++ s) ++ 34 ∷ [] = c.in_ok-push-2.ensures.bytes ∙ ap (λ (b : Bytes). b ++ 34 ∷ []) filled in
    closed ∙ quoted-behind out s (sym c.is_escaped.ensures ∙ c.if-is_escaped.false)
