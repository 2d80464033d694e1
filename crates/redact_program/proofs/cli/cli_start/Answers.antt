use Rattle.std.proofs.Common.{[], inr, refl}
use Rattle.redact_program.proofs.cli.cli_start.Goals as goal

pub returns-in-Err : goal.returns-in-Err
returns-in-Err g c = ([], inr (record { unread = refl; unprinted = refl; unopened = refl; ends = c.refuse_words.ensures }))
