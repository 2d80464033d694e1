use Rattle.{std.proofs.{Common.{rules, arith, refl, sym, subst, string_bytes}, lemmas.Grind.common_steps}, json_pointer.proofs.Beginnings.begins_with-same}
use Rattle.json_pointer.{proofs.Beginnings.begins_with-more, specs.Text.{Bytes, BeginsWith}}
use Rattle.json_pointer.proofs.pointer.push_escaped.Goals as goal

pub loop-c-init : goal.loop-c-init
loop-c-init c = record { left = search rules; begins = begins_with-same _ _ refl }

pub returns-in_err-push_escaped_char-clause-err : goal.returns-in_err-push_escaped_char-clause-err
returns-in_err-push_escaped_char-clause-err c =
    let begins : BeginsWith (string_bytes c.push_escaped_char.new.pointer) (string_bytes c.args.pointer.now) =
    subst (λ (t : Bytes). BeginsWith t (string_bytes c.args.pointer.now)) (sym c.in_err-push_escaped_char.ensures) c.loop-c.invariant.begins in
    search rules

pub loop-c-preserved : goal.loop-c-preserved
loop-c-preserved c = record { left = grind (arith, common_steps); begins = begins_with-more _ _ _ _ c.loop-c.invariant.begins c.in_ok-push_escaped_char.ensures }

pub returns-clause-ok : goal.returns-clause-ok
returns-clause-ok c = grind (arith, common_steps)
