use Rattle.{std.proofs.Common.{◌≡◌, ◌++◌, List, ℕ, codes, rules, subst}, redact_program.{proofs.Writing.begins_longer, specs.Streams.AppendsSome}}
use Rattle.redact_program.specs.Troubles.{trouble_name}
use Rattle.redact_program.proofs.output.put_trouble.Goals as goal

pub returns-in-Err : goal.returns-in-Err
returns-in-Err g c =
    let name : c.as_bytes.result.now ≡ trouble_name c.args.trouble = search rules in
    let before = g.E.Write.contents c.args.errors.now in
    let after = g.E.Write.contents c.put_both.new.writer in
    begins_longer before after (trouble_name c.args.trouble ++ codes "\n") _
    (subst (λ (t : List ℕ). AppendsSome before after (t ++ codes "\n")) name c.in-Err.ensures)
