use Rattle.{std.proofs.Common.{◌≡◌, List, ℕ, rules, subst}, redact_program.{proofs.Writing.begins_longer, specs.{Streams.AppendsSome, Troubles.trouble_reason}}}
use Rattle.redact_program.proofs.output.put_reason.Goals as goal

pub returns-in-Err : goal.returns-in-Err
returns-in-Err g c =
    let reason : c.as_bytes.result.now ≡ trouble_reason c.args.trouble = search rules in
    let before = g.E.Write.contents c.args.errors.now in
    let after = g.E.Write.contents c.put.new.writer in
    begins_longer before after (trouble_reason c.args.trouble) _ (subst (λ (t : List ℕ). AppendsSome before after t) reason c.in-Err.ensures)
