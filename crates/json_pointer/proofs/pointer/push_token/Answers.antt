use Rattle.std.proofs.{Common.{arith, ◌≡◌, [], ◌∷◌, ◌++◌, sym, ◌∙◌, ap, append_assoc, string_bytes}, lemmas.Grind.common_steps}
use Rattle.json_pointer.{proofs.Pointers.escaped-same, specs.Text.Bytes}
use Rattle.json_pointer.proofs.pointer.push_token.Goals as goal

pub returns-clause-ok : goal.returns-clause-ok
unfolding lib.Utf8.encode
returns-clause-ok c =
    let old = string_bytes c.args.pointer.now in
    let token = c.args.token.now in
    let opened : string_bytes c.push.new.self ≡ old ++ 47 ∷ [] = c.in_ok-push.ensures.bytes in
    c.in_ok-push_str.ensures.bytes
    ∙ ap (λ (b : Bytes). b ++ token) opened
    ∙ append_assoc old (47 ∷ []) token
    ∙ ap (λ (b : Bytes). old ++ 47 ∷ b) (sym (escaped-same token (sym c.is_written_otherwise.ensures ∙ c.if-is_written_otherwise.false)))

pub returns-then-is_written_otherwise-clause-ok : goal.returns-then-is_written_otherwise-clause-ok
returns-then-is_written_otherwise-clause-ok c = grind (arith, common_steps)

pub returns-then-is_written_otherwise-clause-err : goal.returns-then-is_written_otherwise-clause-err
returns-then-is_written_otherwise-clause-err c = grind (arith, common_steps)
